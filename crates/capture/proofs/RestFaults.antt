-- Why the rest of a file wasn't read.
use Rattle.std.proofs.Common.{◌≡◌, ◌≢◌, ℕ, Bool, true, false, List, [], ◌∷◌, ◌++◌, Option, Ok, Err, refl, subst}
use Rattle.std.specs.Prelude.{Result, IfErr}
use Rattle.std.specs.Io.KnownBytes.{Consumes, IsAtEnd}
use Rattle.std.proofs.KnownBytes.{Consumes-trans}
use Rattle.capture.specs.declared.pages.CaptureFault.TheVariants as captures
use Rattle.capture.specs.declared.read.ReadFault.{ReadFault}
use Rattle.capture.specs.declared.read.ReadFault.TheVariants as reads
use Rattle.capture.specs.declared.files.captured.Captured.{Captured}
use Rattle.capture.specs.declared.files.dat.Losses.{Losses}
use Rattle.capture.specs.declared.files.fault.InputFault.{InputFault}
use Rattle.capture.specs.declared.files.fault.InputFault.TheVariants as faults
use Rattle.capture.specs.declared.files.fault.FileFault.TheVariants.{SmallerPages}
use Rattle.capture.specs.files.Files.{File, is_dat, parts_after}
use Rattle.capture.specs.files.Captures.{AreFilesPast}
use Rattle.capture.specs.files.FilesRead.{said_by, AddsRestOf, IsFileFault, IsRestFault}
use Rattle.capture.specs.files.Giving.{read_fault}

pub not-failed : (failed : Bool) → (failed ≡ true → ⊥) → failed ≡ false
not-failed true not = absurd (not refl)
not-failed false not = refl

pub if_err : {A E : Type 0} {P Q : E → Type 0} (result : Result A E) → ((e : E) → P e → Q e) → IfErr result P
    → IfErr result Q
if_err (Ok x) f p = p
if_err (Err e) f p = f e p

-- all its bytes were read
pub read-rest-fault : (losses : Losses) (page : ℕ) (name : List ℕ) (cpu : ℕ) (first more bytes : List ℕ)
    (unread left : Option (List ℕ))
    (failed : Bool) (files : List File)
    → bytes ≡ first ++ more → failed ≡ false → IsAtEnd left → Consumes unread left more
    → (fault : InputFault) → IsFileFault losses page name files (record { cpu = cpu; bytes = bytes }) fault
    → IsRestFault losses page name cpu first unread left failed files fault
read-rest-fault losses page name cpu first more bytes unread left failed files is sound end taken faults.Read why =
    absurd why
read-rest-fault losses page name cpu first more bytes unread left failed files is sound end taken
    (faults.File fault) why = (
      sound,
      (
        more,
        taken,
        subst (λ (bs : List ℕ). IsFileFault losses page name files (record { cpu = cpu; bytes = bs })
            (faults.File fault)) is
            why,
        λ dat. end,
      ),
    )
read-rest-fault losses page name cpu first more bytes unread left failed files is sound end taken faults.Numbers why = (
  sound,
  (
    more,
    taken,
    subst (λ (bs : List ℕ). IsFileFault losses page name files
        (record { cpu = cpu; bytes = bs }) faults.Numbers) is why,
  ),
)
read-rest-fault losses page name cpu first more bytes unread left failed files is sound end taken faults.NoMemory why
    = sound

-- what had been read already was read before
pub fault-before : (losses : Losses) (page : ℕ) (name : List ℕ) (cpu : ℕ) (first : List ℕ) (start unread left : Option
    (List ℕ))
    (failed : Bool) (files : List File)
    → Consumes start unread first → (fault : InputFault)
    → IsRestFault losses page name cpu first unread left failed files fault
    → IsRestFault losses page name cpu [] start left failed files fault
fault-before losses page name cpu first start unread left failed files taken faults.Read why = why
fault-before losses page name cpu first start unread left failed files taken (faults.File fault)
    (sound, (more, took, is, end)) =
    (sound, (first ++ more, Consumes-trans start unread left first more taken took, is, end))
fault-before losses page name cpu first start unread left failed files taken faults.Numbers (
  sound,
  (more, took, past),
) =
    (sound, (first ++ more, Consumes-trans start unread left first more taken took, past))
fault-before losses page name cpu first start unread left failed files taken faults.NoMemory why = why

pub added-before : (losses : Losses) (page : ℕ) (name : List ℕ) (cpu : ℕ) (first : List ℕ) (start unread left : Option
    (List ℕ))
    (files : List File) (captured : Captured)
    → Consumes start unread first → AddsRestOf losses page name cpu first unread left files captured
    → AddsRestOf losses page name cpu [] start left files captured
added-before losses page name cpu first start unread left files captured taken adds = record {
  more = first ++ adds.more;
  taken = Consumes-trans start unread left first adds.more taken adds.taken;
  added = adds.added;
}

-- the rest of a file was added, if the size of its pages equals another number
pub added-sized : (losses : Losses) (size page : ℕ) (name : List ℕ) (cpu : ℕ) (first : List ℕ)
    (start unread left : Option (List ℕ))
    (files : List File) (captured : Captured)
    → size ≡ page → Consumes start unread first → AddsRestOf losses size name cpu first unread left files captured
    → AddsRestOf losses page name cpu [] start left files captured
added-sized losses size page name cpu first start unread left files captured same taken adds =
    added-before losses page name cpu first start unread left files captured taken
    (subst (λ (n : ℕ). AddsRestOf losses n name cpu first unread left files captured) same adds)

pub fault-sized : (losses : Losses) (size page : ℕ) (name : List ℕ) (cpu : ℕ) (first : List ℕ)
    (start unread left : Option (List ℕ))
    (failed : Bool) (files : List File)
    → size ≡ page → Consumes start unread first → (fault : InputFault)
    → IsRestFault losses size name cpu first unread left failed files fault
    → IsRestFault losses page name cpu [] start left failed files fault
fault-sized losses size page name cpu first start unread left failed files same taken fault why =
    fault-before losses page name cpu first start unread left failed files taken fault
    (subst (λ (n : ℕ). IsRestFault losses n name cpu first unread left failed files fault) same why)

-- a raw source
pub raw-fault : (losses : Losses) (page : ℕ) (name : List ℕ) (cpu : ℕ) (first : List ℕ) (unread left : Option
    (List ℕ)) (failed : Bool)
    (files : List File)
    → (fault : ReadFault) → (fault ≡ reads.Read → failed ≡ true) → (fault ≢ reads.Read → failed ≡ false)
    → ((smaller : ℕ) → fault ≡ reads.SmallerPages smaller → (more : List ℕ) × Consumes unread left more
    × (parts_after page name files (record { cpu = cpu; bytes = first ++ more }) ≡ Err (SmallerPages smaller))
    × (is_dat name (first ++ more) ≡ true → IsAtEnd left))
    → (fault ≡ reads.Capture captures.Numbers → (more : List ℕ) × Consumes unread left more
    × AreFilesPast (said_by losses name (record { cpu = cpu; bytes = first ++ more })) page name
    (files ++ record { cpu = cpu; bytes = first ++ more } ∷ []))
    → IsRestFault losses page name cpu first unread left failed files (read_fault fault)
raw-fault losses page name cpu first unread left failed files reads.Read broken sound smaller past =
    broken refl
raw-fault losses page name cpu first unread left failed files (reads.Capture captures.Numbers) broken sound
    smaller past = (sound (λ e. cc), past refl)
raw-fault losses page name cpu first unread left failed files (reads.Capture captures.NoMemory) broken sound
    smaller past = sound (λ e. cc)
raw-fault losses page name cpu first unread left failed files (reads.SmallerPages size) broken sound smaller past =
    (sound (λ e. cc), smaller size refl)
