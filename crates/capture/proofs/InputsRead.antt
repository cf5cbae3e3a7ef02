-- Inputs are read, one after the other.
use Rattle.std.proofs.Common.{◌≡◌, ◌≢◌, ◌∙◌, ℕ, zero, suc, ◌+◌, ◌≤◌, ◌<◌, inl, ⊎_elim, Bool, false, List, [], ◌∷◌, ◌++◌}
use Rattle.std.proofs.Common.{length, set, get_or, Option, None, refl, sym, ap, subst, arith, append-nil, append_assoc}
use Rattle.std.proofs.Common.{length-append}
use Rattle.std.specs.Prelude.{All}
use Rattle.std.proofs.lemmas.List.{nil_from_length}
use Rattle.std.specs.Io.KnownBytes.{IsAtEnd}
use Rattle.trace_model.specs.Image.{Missed}
use Rattle.capture.specs.declared.files.captured.Captured.{Captured}
use Rattle.capture.specs.declared.files.captured.Input.{Input}
use Rattle.capture.specs.declared.files.dat.Losses.{Losses}
use Rattle.capture.specs.declared.files.dat.Losses.TheVariants.{Kept, Settled}
use Rattle.capture.specs.declared.files.fault.InputFault.{InputFault}
use Rattle.capture.specs.declared.files.fault.InputFault.TheVariants as faults
use Rattle.capture.specs.files.Files.{File, ModelPart, parts_of_cpu}
use Rattle.capture.specs.files.Losses.{cpu_counters_in, overrun_by}
use Rattle.capture.specs.files.Captures.{AreFilesRead, AreFilesPast, AreCaptured, ArePast, IsKnown, unsaid}
use Rattle.capture.specs.files.FilesRead.{said_by, IsAlone, AddsFile, AddsRestOf, IsRestFault}
use Rattle.capture.specs.files.Inputs.{IsReadOf, AreRead, IsWhy, IsUnread}

-- what is read of files so far: the counters of the only one are used
abbrev pub AreSoFar : Losses → (page : ℕ) → (name : List ℕ) → List File → Captured → Type 0
AreSoFar Kept page name files captured = AreFilesRead unsaid page name files captured
AreSoFar Settled page name [] captured = AreFilesRead unsaid page name [] captured
AreSoFar Settled page name (file ∷ []) captured =
    AreFilesRead (cpu_counters_in name (file ∷ [])) page name (file ∷ []) captured
AreSoFar Settled page name (file ∷ other ∷ files) captured = ⊥

-- the losses are settled if there is one input alone
abbrev pub IsChosen : Losses → (count : ℕ) → Type 0
IsChosen Kept count = count ≢ 1
IsChosen Settled count = count ≡ 1

pub none-read : (losses : Losses) (page : ℕ) (name : List ℕ) (captured : Captured)
    → AreFilesRead unsaid page name [] captured
    → AreSoFar losses page name [] captured
none-read Kept page name captured read = read
none-read Settled page name captured read = read

-- before the last file nothing is said yet
pub still-unsaid : (losses : Losses) (count page : ℕ) (name : List ℕ) (files : List File) (captured : Captured)
    → IsChosen losses count
    → length files < count
    → AreSoFar losses page name files captured → IsAlone losses files × AreFilesRead unsaid page name files captured
still-unsaid Kept count page name files captured chosen below read = (tt, read)
still-unsaid Settled count page name [] captured chosen below read = (refl, read)
still-unsaid Settled count page name (file ∷ files) captured chosen below read = absurd (omega (arith, chosen, below))

pub one-more : (losses : Losses) (page : ℕ) (name : List ℕ) (files : List File) (file : File) (captured : Captured)
    → IsAlone losses files
    → AddsFile losses page name files file captured → AreSoFar losses page name (files ++ file ∷ []) captured
one-more Kept page name files file captured alone added = added
one-more Settled page name [] file captured alone added = added
one-more Settled page name (first ∷ files) file captured alone added = absurd cc

-- and then all files are read
pub all-read : (losses : Losses) (count page : ℕ) (name : List ℕ) (files : List File) (captured : Captured)
    → IsChosen losses count
    → length files ≡ count
    → AreSoFar losses page name files captured → AreCaptured page name files captured
all-read Kept count page name [] captured chosen is read = read
all-read Kept count page name (file ∷ []) captured chosen is read = absurd (chosen (sym is))
all-read Kept count page name (file ∷ other ∷ files) captured chosen is read = read
all-read Settled count page name [] captured chosen is read = absurd (omega (arith, is, chosen))
all-read Settled count page name (file ∷ []) captured chosen is read = read
all-read Settled count page name (file ∷ other ∷ files) captured chosen is read = absurd read

-- ---- why one wasn't read

known-none : (overrun : Option ℕ) (parts : List ModelPart) (known : Missed) → IsKnown None parts known
    → IsKnown overrun parts known
known-none overrun parts known is = ⊎_elim (λ none. inl none) (λ found. inl found.2) is

past-said : (losses : Losses) (page : ℕ) (name : List ℕ) (files : List File) (file : File) → IsAlone losses files
    → AreFilesPast (said_by losses name file) page name (files ++ file ∷ []) → ArePast page name (files ++ file ∷ [])
past-said Kept page name files file alone past = record {
  parts = past.parts;
  parts_are = past.parts_are;
  of_one = past.of_one;
  cpu = past.cpu;
  past = (
    past.past.0,
    known-none (overrun_by (cpu_counters_in name (files ++ file ∷ []) past.cpu))
        (parts_of_cpu past.cpu past.parts) past.past.0 past.past.1,
    past.past.2,
  );
}
past-said Settled page name [] file alone past = past
past-said Settled page name (first ∷ files) file alone past = absurd cc

module _ {R : Type 0} (remaining : R → Option (List ℕ)) (failed : R → Bool) where
  pub why-unread : (losses : Losses) (page : ℕ) (name : List ℕ) (files : List File) (old new : Input R)
      → IsAlone losses files
      → (fault : InputFault)
      → IsRestFault losses page name old.cpu.0 [] (remaining old.reader) (remaining new.reader)
      (failed new.reader) files
      fault
      → IsWhy remaining failed page name files old new fault
  why-unread losses page name files old new alone faults.Read why = why
  why-unread losses page name files old new alone (faults.File fault) (sound, (more, taken, is, end)) =
      (sound, (record { cpu = old.cpu.0; bytes = more }, record { cpu_is = refl; taken = taken }, is, end))
  why-unread losses page name files old new alone faults.Numbers (sound, (more, taken, past)) = (
    sound,
    (
      record { cpu = old.cpu.0; bytes = more },
      record { cpu_is = refl; taken = taken },
      past-said losses page name files (record { cpu = old.cpu.0; bytes = more }) alone past,
    ),
  )
  why-unread losses page name files old new alone faults.NoMemory why = why

  -- one input more was read
  read-more : (olds news : List (Input R)) (files : List File) (old new : Input R) (file : File)
      → AreRead remaining failed olds news files
      → IsReadOf remaining old new file → IsAtEnd (remaining new.reader) → failed new.reader ≡ false
      → AreRead remaining failed (olds ++ old ∷ []) (news ++ new ∷ []) (files ++ file ∷ [])
  read-more [] [] [] old new file are is end sound = (is, end, sound, tt)
  read-more [] [] (f ∷ files) old new file are is end sound = absurd are
  read-more [] (n ∷ news) files old new file are is end sound = absurd are
  read-more (o ∷ olds) [] files old new file are is end sound = absurd are
  read-more (o ∷ olds) (n ∷ news) [] old new file are is end sound = absurd are
  read-more (o ∷ olds) (n ∷ news) (f ∷ files) old new file (first, first_end, first_sound, rest) is end sound =
      (first, first_end, first_sound, read-more olds news files old new file rest is end sound)

  lengths : (olds news : List (Input R)) (files : List File) → AreRead remaining failed olds news files
      → (length news ≡ length olds) × (length files ≡ length olds)
  lengths [] [] [] are = (refl, refl)
  lengths [] [] (f ∷ files) are = absurd are
  lengths [] (n ∷ news) files are = absurd are
  lengths (o ∷ olds) [] files are = absurd are
  lengths (o ∷ olds) (n ∷ news) [] are = absurd are
  lengths (o ∷ olds) (n ∷ news) (f ∷ files) (first, first_end, first_sound, rest) =
      let more = lengths olds news files rest in (ap suc more.0, ap suc more.1)

  -- some inputs are read, and these are left
  pub record ReadsTo (losses : Losses) (page : ℕ) (name : List ℕ) (inputs now : List (Input R)) (at : ℕ)
      (captured : Captured) : Type 0
    where
      pub before : List (Input R)
      pub before_new : List (Input R)
      pub after : List (Input R)
      pub files : List File
      pub inputs_are : inputs ≡ before ++ after
      pub now_are : now ≡ before_new ++ after
      pub at_is : at ≡ length before
      pub are_read : AreRead remaining failed before before_new files
      pub so_far : AreSoFar losses page name files captured

  -- as many files are read as inputs
  pub files-before : (losses : Losses) (page : ℕ) (name : List ℕ) (inputs now : List (Input R)) (at : ℕ)
      (captured : Captured) → (was : ReadsTo losses page name inputs now at captured) → length was.files ≡ at
  files-before losses page name inputs now at captured was =
      (lengths was.before was.before_new was.files was.are_read).1 ∙ sym was.at_is

  pub reads-none : (losses : Losses) (page : ℕ) (name : List ℕ) (inputs : List (Input R)) (captured : Captured)
      → AreFilesRead unsaid page name [] captured
      → ReadsTo losses page name inputs inputs 0 captured
  reads-none losses page name inputs captured read = record {
    before = [];
    before_new = [];
    after = inputs;
    files = [];
    inputs_are = refl;
    now_are = refl;
    at_is = refl;
    are_read = tt;
    so_far = none-read losses page name captured read;
  }

  get-at : (before after : List (Input R)) (at : ℕ) (d : Input R) → at ≡ length before → at < length (before ++ after)
      → (rest : List (Input R)) × (after ≡ get_or (before ++ after) at d ∷ rest)
  get-at [] [] at d is below = absurd (omega (arith, below))
  get-at [] (x ∷ rest) zero d is below = (rest, refl)
  get-at [] (x ∷ rest) (suc at) d is below = absurd (omega (arith, is))
  get-at (b ∷ before) after zero d is below = absurd (omega (arith, is))
  get-at (b ∷ before) after (suc at) d is below = get-at before after at d (omega (arith, is)) (omega (arith, below))

  set-at : (before rest : List (Input R)) (x y : Input R) (at : ℕ) → at ≡ length before
      → set (before ++ x ∷ rest) at y ≡ before ++ y ∷ rest
  set-at [] rest x y zero is = refl
  set-at [] rest x y (suc at) is = absurd (omega (arith, is))
  set-at (b ∷ before) rest x y zero is = absurd (omega (arith, is))
  set-at (b ∷ before) rest x y (suc at) is =
      ap (λ (bs : List (Input R)). b ∷ bs) (set-at before rest x y at (omega (arith, is)))

  item-at : (before rest : List (Input R)) (x : Input R) (at : ℕ) (d : Input R) → at ≡ length before
      → get_or (before ++ x ∷ rest) at d ≡ x
  item-at [] rest x zero d is = refl
  item-at [] rest x (suc at) d is = absurd (omega (arith, is))
  item-at (b ∷ before) rest x zero d is = absurd (omega (arith, is))
  item-at (b ∷ before) rest x (suc at) d is = item-at before rest x at d (omega (arith, is))

  -- what is at the place is the next input, as it was first
  module _ (losses : Losses) (page : ℕ) (name : List ℕ) (inputs now : List (Input R)) (at : ℕ) (captured : Captured)
      (was : ReadsTo losses page name inputs now at captured)
      (d : Input R) (below : at < length now) where
    place : at ≡ length was.before_new
    place = was.at_is ∙ sym (lengths was.before was.before_new was.files was.are_read).0

    next : (rest : List (Input R)) × (was.after ≡ get_or now at d ∷ rest)
    next =
        let found =
        get-at was.before_new was.after at d place
        (subst (λ (is : List (Input R)). at < length is) was.now_are below) in
        (found.0, found.1 ∙ ap (λ (is : List (Input R)). get_or is at d ∷ found.0) (sym was.now_are))

    first_are : inputs ≡ was.before ++ get_or now at d ∷ next.0
    first_are = was.inputs_are ∙ ap (λ (is : List (Input R)). was.before ++ is) next.1

    now_first : now ≡ was.before_new ++ get_or now at d ∷ next.0
    now_first = was.now_are ∙ ap (λ (is : List (Input R)). was.before_new ++ is) next.1

    after_set : (new : Input R) → set now at new ≡ was.before_new ++ new ∷ next.0
    after_set new =
        ap (λ (is : List (Input R)). set is at new) now_first
        ∙ set-at was.before_new next.0 (get_or now at d) new at place

    pub count-below : length was.files < length inputs
    count-below =
        let files_are = (lengths was.before was.before_new was.files was.are_read).1 in
        let long = ap (length {A = Input R}) first_are in
        omega (arith, files_are, long, length-append was.before (get_or now at d ∷ next.0))

    pub as-first : get_or inputs at d ≡ get_or now at d
    as-first =
        ap (λ (is : List (Input R)). get_or is at d) first_are
        ∙ item-at was.before next.0 (get_or now at d) at d was.at_is

    pub within : at < length inputs
    within = let long = ap (length {A = Input R}) first_are in
        omega (arith, was.at_is, long, length-append was.before (get_or now at d ∷ next.0))

    pub is-unsaid : IsChosen losses (length inputs)
        → IsAlone losses was.files × AreFilesRead unsaid page name was.files captured
    is-unsaid chosen = still-unsaid losses (length inputs) page name was.files captured chosen count-below was.so_far

    pub reads-next : (new : Input R) (after : Captured) → IsChosen losses (length inputs)
        → AddsRestOf losses page name (get_or now at d).cpu.0 [] (remaining (get_or now at d).reader)
        (remaining new.reader)
        was.files after
        → IsAtEnd (remaining new.reader) → failed new.reader ≡ false
        → ReadsTo losses page name inputs (set now at new) (at + 1) after
    reads-next new after chosen adds end sound =
        let file : File = record { cpu = (get_or now at d).cpu.0; bytes = adds.more } in
        record {
          before = was.before ++ get_or now at d ∷ [];
          before_new = was.before_new ++ new ∷ [];
          after = next.0;
          files = was.files ++ file ∷ [];
          inputs_are = first_are ∙ sym (append_assoc was.before (get_or now at d ∷ []) next.0);
          now_are = after_set new ∙ sym (append_assoc was.before_new (new ∷ []) next.0);
          at_is = omega (arith, was.at_is, length-append was.before (get_or now at d ∷ []));
          are_read =
              read-more was.before was.before_new was.files (get_or now at d) new file was.are_read
              (record { cpu_is = refl; taken = adds.taken }) end sound;
          so_far = one-more losses page name was.files file after (is-unsaid chosen).0 adds.added;
        }

    pub reads-unread : (new : Input R) (fault : InputFault) → IsChosen losses (length inputs)
        → IsRestFault losses page name (get_or now at d).cpu.0 [] (remaining (get_or now at d).reader)
        (remaining new.reader)
        (failed new.reader) was.files fault
        → IsUnread remaining failed page name inputs (set now at new) at fault
    reads-unread new fault chosen why = record {
      before = was.before;
      before_new = was.before_new;
      this = get_or now at d;
      this_new = new;
      after = next.0;
      old_is = first_are;
      new_is = after_set new;
      index_is = was.at_is;
      files = was.files;
      are_read = was.are_read;
      why = why-unread losses page name was.files (get_or now at d) new (is-unsaid chosen).0 fault why;
    }

  pub reads-all : (losses : Losses) (page : ℕ) (name : List ℕ) (inputs now : List (Input R)) (at : ℕ)
      (captured : Captured)
      → IsChosen losses (length inputs)
      → length inputs ≤ at → ReadsTo losses page name inputs now at captured
      → (files : List File) × AreRead remaining failed inputs now files × AreCaptured page name files captured
  reads-all losses page name inputs now at captured chosen past was =
      let count = ap (length {A = Input R}) was.inputs_are in
      let none : was.after ≡ [] =
      nil_from_length was.after (omega (arith, count, past, was.at_is, length-append was.before was.after)) in
      let all : inputs ≡ was.before =
      was.inputs_are ∙ ap (λ (is : List (Input R)). was.before ++ is) none ∙ append-nil was.before in
      let all_new : now ≡ was.before_new =
      was.now_are ∙ ap (λ (is : List (Input R)). was.before_new ++ is) none ∙ append-nil was.before_new in
      let files_are = (lengths was.before was.before_new was.files was.are_read).1 in (
        was.files,
        subst (λ (is : List (Input R)). AreRead remaining failed is now was.files) (sym all)
            (subst (λ (is : List (Input R)). AreRead remaining failed was.before is was.files) (sym all_new)
            was.are_read),
        all-read losses (length inputs) page name was.files captured chosen (files_are
            ∙ ap (length {A = Input R}) (sym all))
            was.so_far,
      )

  pub first-unread : (page : ℕ) (name : List ℕ) (inputs : List (Input R)) → 0 < length inputs
      → All (λ input. failed input.reader ≡ false) inputs
      → IsUnread remaining failed page name inputs inputs 0 faults.NoMemory
  first-unread page name [] some sound = absurd (omega (arith, some))
  first-unread page name (input ∷ inputs) some sound = record {
    before = [];
    before_new = [];
    this = input;
    this_new = input;
    after = inputs;
    old_is = refl;
    new_is = refl;
    index_is = refl;
    files = [];
    are_read = tt;
    why = sound 0 input (omega arith);
  }
