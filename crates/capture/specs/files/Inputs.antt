-- How inputs are read, one after the other.
use Rattle.std.specs.Prelude.{◌≡◌, ℕ, Bool, true, false, List, [], ◌∷◌, ◌++◌, length, Option, Err, ⊤}
use Rattle.std.specs.Io.KnownBytes.{Consumes, IsAtEnd}
use Rattle.capture.specs.declared.files.captured.Input.{Input}
use Rattle.capture.specs.declared.files.fault.InputFault.{InputFault}
use Rattle.capture.specs.declared.files.fault.InputFault.TheVariants as faults
use Rattle.capture.specs.files.Files.{File, is_dat, parts_after}
use Rattle.capture.specs.files.Captures.{ArePast}

-- In what follows `remaining` says which bytes a reader has yet to give, and `failed` whether a read has failed.

-- these bytes of an input were read, and they are this file's
pub record IsReadOf {R : Type 0} (remaining : R → Option (List ℕ)) (old new : Input R) (file : File) : Type 0 where
  pub cpu_is : file.cpu ≡ old.cpu.0
  pub taken : Consumes (remaining old.reader) (remaining new.reader) file.bytes

-- each input was read to its end, and these are the files
abbrev pub AreRead : {R : Type 0} → (R → Option (List ℕ)) → (R → Bool) → (old new : List (Input R)) → List File → Type 0
AreRead remaining failed [] [] [] = ⊤
AreRead remaining failed (old ∷ olds) (new ∷ news) (file ∷ files) =
    IsReadOf remaining old new file × IsAtEnd (remaining new.reader) × (failed new.reader ≡ false)
    × AreRead remaining failed olds news files
AreRead remaining failed [] [] (file ∷ files) = ⊥
AreRead remaining failed [] (new ∷ news) files = ⊥
AreRead remaining failed (old ∷ olds) [] files = ⊥
AreRead remaining failed (old ∷ olds) (new ∷ news) [] = ⊥

-- Why an input wasn't read, after these files: for a fault of a file of trace-cmd all of it was read, and for smaller
-- pages or numbers a beginning.
abbrev pub IsWhy : {R : Type 0} → (R → Option (List ℕ)) → (R → Bool) → (page : ℕ) → (name : List ℕ) → List File
    → (old new : Input R)
    → InputFault → Type 0
IsWhy remaining failed page name files old new faults.Read = failed new.reader ≡ true
IsWhy remaining failed page name files old new (faults.File fault) =
    (failed new.reader ≡ false) × ((file : File) × IsReadOf remaining old new file
    × (parts_after page name files file ≡ Err fault) × (is_dat name file.bytes ≡ true → IsAtEnd (remaining new.reader)))
IsWhy remaining failed page name files old new faults.Numbers =
    (failed new.reader ≡ false) × ((file : File) × IsReadOf remaining old new file
    × ArePast page name (files ++ file ∷ []))
IsWhy remaining failed page name files old new faults.NoMemory = failed new.reader ≡ false

-- An input wasn't read: those before it were, to their ends, and those after it are untouched.
pub record IsUnread {R : Type 0} (remaining : R → Option (List ℕ)) (failed : R → Bool) (page : ℕ) (name : List ℕ)
    (old new : List (Input R)) (index : ℕ) (fault : InputFault) : Type 0 where
  pub before : List (Input R)
  pub before_new : List (Input R)
  pub this : Input R
  pub this_new : Input R
  pub after : List (Input R)
  pub old_is : old ≡ before ++ this ∷ after
  pub new_is : new ≡ before_new ++ this_new ∷ after
  pub index_is : index ≡ length before
  pub files : List File
  pub are_read : AreRead remaining failed before before_new files
  pub why : IsWhy remaining failed page name files this this_new fault
