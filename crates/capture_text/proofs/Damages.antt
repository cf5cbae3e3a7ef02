-- What is printed of the damaged pages that are answered.
use Rattle.std.proofs.Common.{◌≡◌, ◌∙◌, ℕ, ◌+◌, ◌<◌, List, [], ◌∷◌, ◌++◌, length, get_or, take, flat_map, refl, ap, ap₂}
use Rattle.std.proofs.Common.{Option}
use Rattle.std.specs.Prelude.{if◌then◌else◌}
use Rattle.std.proofs.lemmas.List.{take_more, append-nil}
use Rattle.std.proofs.lemmas.Grind.{flat_map-append}
use Rattle.trace_model.specs.Faults.{cut, bad_length, time_overflow}
use Rattle.trace_model.specs.Image.{ImageCause, too_short, bad_size, bad_count, bad_word}
use Rattle.text_model.specs.Printing.{image_fault_text}
use Rattle.page_numbers.specs.Faults.{image_fault}
use Rattle.dump_command.specs.ImageFaults.{reader_fault_text}
use Rattle.capture.specs.Pages.{Damage}
use Rattle.capture.specs.Captures.{IsDamage, AreDamages}
use Rattle.capture.specs.declared.pages.Damaged.{Damaged}
use Rattle.capture.specs.declared.part.Part.{Part}
use Rattle.capture_text.specs.declared.form.Form.{Form}
use Rattle.capture_text.specs.Printing.{damaged_line, damage_line, offset_of, reported_line}
use Rattle.capture_text.specs.Window.{KnownBound}
use Rattle.capture_text.specs.Listed.{is_place_listed, listed_page, listed_damage, listed_damages}

fault_text : (cause : ImageCause) → reader_fault_text (image_fault cause) ≡ image_fault_text cause
fault_text too_short = refl
fault_text bad_size = refl
fault_text bad_count = refl
fault_text (bad_word cut at) = refl
fault_text (bad_word bad_length at) = refl
fault_text (bad_word time_overflow at) = refl

one_line : (form : Form) (parts : List Part) (cpu : ℕ) (d : Damaged) (damage : Damage) → IsDamage d damage
    → reported_line form parts cpu d ≡ damage_line form parts cpu damage
one_line form parts cpu d damage is =
    ap (λ (n : ℕ). damaged_line form cpu n d.page (offset_of parts d.page) (reader_fault_text d.fault)) is.number_is
    ∙ ap (λ (i : ℕ). damaged_line form cpu damage.number i (offset_of parts i) (reader_fault_text d.fault)) is.index_is
    ∙ ap (λ (text : List ℕ). damaged_line form cpu damage.number damage.index (offset_of parts damage.index) text)
    (ap reader_fault_text is.fault_is ∙ fault_text damage.cause)

-- the same, if it is listed
one_listed : (form : Form) (bound : Option KnownBound) (parts : List Part) (cpu : ℕ) (d : Damaged) (damage : Damage)
    → IsDamage d damage → listed_page form bound parts cpu d ≡ listed_damage form bound parts cpu damage
one_listed form bound parts cpu d damage is =
    ap₂ (λ (n : ℕ) (line : List ℕ). if is_place_listed bound n then line else []) is.number_is
    (one_line form parts cpu d damage is)

pub all_lines : (form : Form) (bound : Option KnownBound) (parts : List Part) (cpu : ℕ) (more : List Damaged)
    (damages : List Damage) → AreDamages more damages
    → flat_map (listed_page form bound parts cpu) more ≡ listed_damages form bound parts cpu damages
all_lines form bound parts cpu [] [] are = refl
all_lines form bound parts cpu [] (damage ∷ damages) are = absurd are
all_lines form bound parts cpu (d ∷ more) [] are = absurd are
all_lines form bound parts cpu (d ∷ more) (damage ∷ damages) are =
    ap₂ (λ (first others : List ℕ). first ++ others) (one_listed form bound parts cpu d damage are.0)
    (all_lines form bound parts cpu more damages are.1)

-- one line more
pub lines_more : {A : Type 0} (line : A → List ℕ) (pages : List A) (i : ℕ) (none : A) → i < length pages
    → flat_map line (take i pages) ++ line (get_or pages i none) ≡ flat_map line (take (i + 1) pages)
lines_more line pages i none below =
    rw (take_more pages i none below) (simp (flat_map-append, append-nil))
