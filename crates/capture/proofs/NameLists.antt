-- The kernel's lists of names, one more or of one file more; and the machine that files name.
use Rattle.std.proofs.Common.{◌≡◌, ◌∙◌, ℕ, ◌+◌, ◌<◌, Bool, true, false, List, [], ◌∷◌, ◌++◌, length, map, take, get_or}
use Rattle.std.proofs.Common.{Option, Some, None, refl, sym, ap, append-nil, append_assoc}
use Rattle.std.specs.Prelude.{◌&&◌, if◌then◌else◌, Err}
use Rattle.std.specs.Option.{option_or}
use Rattle.std.proofs.lemmas.List.{take_more, map-append, flat_map_more}
use Rattle.event_fields.specs.Texts.{parts_of as parts_between}
use Rattle.capture.specs.declared.files.fault.FileFault.{FileFault}
use Rattle.capture.specs.files.Files.{◌>>=◌, Checked, File, ModelPart, lines_of, all_lines, if_wanted, machine_of}
use Rattle.capture.specs.files.Files.{machine_from, machine_in, is_same_machine, are_of_one, on_machine, parts_of}
use Rattle.capture.specs.files.Files.{parts_after}

-- ---- lists

module _ {X : Type 0} (see : X → List ℕ) where
  -- the lines of one list more
  pub lines-next : (known : List (List ℕ)) (texts : List X) (at : ℕ) (d : X) → at < length texts
      → (known ++ lines_of (map see (take at texts))) ++ parts_between 10 (see (get_or texts at d))
      ≡ known ++ lines_of (map see (take (at + 1) texts))
  lines-next known texts at d below =
      flat_map_more (parts_between 10) known (map see (take at texts)) (see (get_or texts at d))
      ∙ ap (λ (ts : List (List ℕ)). known ++ lines_of ts)
      (sym (map-append see (take at texts) (get_or texts at d ∷ []))
      ∙ ap (map see) (sym (take_more texts at d below)))

-- the lines of one file more
pub lines-more : (lists : File → List (List ℕ)) (files : List File) (file : File)
    → all_lines lists (files ++ file ∷ []) ≡ all_lines lists files ++ lines_of (lists file)
lines-more lists [] file = append-nil (lines_of (lists file))
lines-more lists (first ∷ files) file =
    ap (λ (ls : List (List ℕ)). lines_of (lists first) ++ ls) (lines-more lists files file)
    ∙ sym (append_assoc (lines_of (lists first)) (all_lines lists files) (lines_of (lists file)))

-- if they are wanted
wanted_more : (is_wanted : Bool) (lines more : List (List ℕ))
    → (if is_wanted then if_wanted is_wanted lines ++ more else if_wanted is_wanted lines)
    ≡ if_wanted is_wanted (lines ++ more)
wanted_more true lines more = refl
wanted_more false lines more = refl

pub wanted-next : (is_wanted : Bool) (lists : File → List (List ℕ)) (files : List File) (file : File)
    → (if is_wanted then if_wanted is_wanted (all_lines lists files) ++ lines_of (lists file)
    else if_wanted is_wanted (all_lines lists files))
    ≡ if_wanted is_wanted (all_lines lists (files ++ file ∷ []))
wanted-next is_wanted lists files file =
    wanted_more is_wanted (all_lines lists files) (lines_of (lists file))
    ∙ ap (if_wanted is_wanted) (sym (lines-more lists files file))

pub wanted-none : (is_wanted : Bool) → if_wanted is_wanted [] ≡ []
wanted-none true = refl
wanted-none false = refl

-- a file without lists
pub lines-stay : (lists : File → List (List ℕ)) (files : List File) (file : File) → lists file ≡ []
    → all_lines lists files ≡ all_lines lists (files ++ file ∷ [])
lines-stay lists files file none = sym (lines-more lists files file
    ∙ ap (λ (texts : List (List ℕ)). all_lines lists files ++ lines_of texts) none ∙ append-nil (all_lines lists files))

-- ---- the machine

pub machine-more : (known : Option (List ℕ)) (files : List File) (file : File)
    → machine_from known (files ++ file ∷ []) ≡ option_or (machine_from known files) (machine_of file)
machine-more known [] file = refl
machine-more known (first ∷ files) file = machine-more (option_or known (machine_of first)) files file

both_hold : (a b : Bool) → (a && b) ≡ true → (a ≡ true) × (b ≡ true)
both_hold true b is = (refl, is)
both_hold false b is = absurd cc

both_are : (a b : Bool) → a ≡ true → b ≡ true → (a && b) ≡ true
both_are true b is too = too
both_are false b is too = absurd cc

one_more : (known : Option (List ℕ)) (files : List File) (file : File) → are_of_one known files ≡ true
    → is_same_machine (machine_from known files) (machine_of file) ≡ true
    → are_of_one known (files ++ file ∷ []) ≡ true
one_more known [] file are same = both_are (is_same_machine known (machine_of file)) true same refl
one_more known (first ∷ files) file are same =
    let both = both_hold (is_same_machine known (machine_of first))
    (are_of_one (option_or known (machine_of first)) files) are in
    both_are (is_same_machine known (machine_of first))
    (are_of_one (option_or known (machine_of first)) (files ++ file ∷ [])) both.0
    (one_more (option_or known (machine_of first)) files file both.1 same)

pub of-one-more : (files : List File) (file : File) → are_of_one None files ≡ true
    → is_same_machine (machine_in files) (machine_of file) ≡ true → are_of_one None (files ++ file ∷ []) ≡ true
of-one-more files file are same = one_more None files file are same

-- a file that doesn't say what its machine is
same_none : (known : Option (List ℕ)) → is_same_machine known None ≡ true
same_none None = refl
same_none (Some machine) = refl

pub same-unsaid : (known : Option (List ℕ)) (file : File) → machine_of file ≡ None
    → is_same_machine known (machine_of file) ≡ true
same-unsaid known file none = ap (is_same_machine known) none ∙ same_none known

or_none : (known : Option (List ℕ)) → option_or known None ≡ known
or_none None = refl
or_none (Some machine) = refl

pub machine-stays : (files : List File) (file : File) → machine_of file ≡ None
    → machine_in files ≡ machine_in (files ++ file ∷ [])
machine-stays files file none = sym (machine-more None files file
    ∙ ap (option_or (machine_in files)) none ∙ or_none (machine_in files))

-- ---- faults

-- a file's own fault comes first
pub own-fault : (page : ℕ) (name : List ℕ) (files : List File) (file : File) (fault : FileFault)
    → parts_of page name file ≡ Err fault → parts_after page name files file ≡ Err fault
own-fault page name files file fault is =
    ap (λ (r : Checked (List ModelPart)). r >>= on_machine (machine_in files) (machine_of file)) is
