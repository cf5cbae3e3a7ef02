-- All CPUs, and one that is read on.
use Rattle.std.proofs.Common.{◌≡◌, ◌≢◌, ◌∙◌, ℕ, zero, suc, ◌+◌, ◌<◌, ◌⊎◌, inl, inr, ⊎_elim, Bool, true, false, List, []}
use Rattle.std.proofs.Common.{◌∷◌, ◌++◌, length, set, map, take, drop, get_or, Some, None, refl, sym, ap, subst, arith}
use Rattle.std.proofs.Common.{append-nil, append_assoc}
use Rattle.std.specs.Prelude.{◌==◌, if◌then◌else◌}
use Rattle.std.specs.List.{slice_get}
use Rattle.std.proofs.lemmas.List.Elements.{filter-append}
use Rattle.std.proofs.lemmas.Grind.{common_steps}
use Rattle.std.proofs.lemmas.List.{length-set}
use Rattle.trace_model.specs.Image.{Missed}
use Rattle.capture.specs.declared.files.captured.CpuCapture.{CpuCapture}
use Rattle.std.proofs.lemmas.List.{map-append, take_more, take-append-drop}
use Rattle.capture.specs.declared.files.cpu_part.CpuPart.{CpuPart}
use Rattle.capture.specs.files.Giving.{part_seen}
use Rattle.capture.specs.files.Files.{ModelPart, parts_of_cpu}
use Rattle.capture.specs.files.Captures.{IsCpuRead, IsPartPast, AreCpusRead, IsCpuPast}

pub none_some : {A : Type 0} {x : A} → None ≡ Some x → ⊥
none_some e = cc

some_is : {A : Type 0} (x y : A) → Some x ≡ Some y → x ≡ y
some_is x y e = cc

-- what is at a place of a list with one more at its end
pub get-push : {A : Type 0} (xs : List A) (x : A) (k : ℕ) (y : A) → slice_get (xs ++ x ∷ []) k ≡ Some y
    → (slice_get xs k ≡ Some y) ⊎ ((k ≡ length xs) × (x ≡ y))
get-push [] x zero y at = inr (refl, some_is x y at)
get-push [] x (suc k) y at = absurd (none_some at)
get-push (z ∷ xs) x zero y at = inl at
get-push (z ∷ xs) x (suc k) y at =
    ⊎_elim (λ there. inl there) (λ here. inr (ap suc here.0, here.1)) (get-push xs x k y at)

-- what is at a place of a list of which one is another
pub get-set : {A : Type 0} (xs : List A) (k : ℕ) (x : A) (j : ℕ) (y : A) → slice_get (set xs k x) j ≡ Some y
    → ((j ≡ k) × (x ≡ y)) ⊎ ((j ≢ k) × (slice_get xs j ≡ Some y))
get-set [] k x j y at = absurd (none_some at)
get-set (z ∷ xs) zero x zero y at = inl (refl, some_is x y at)
get-set (z ∷ xs) zero x (suc j) y at = inr ((λ e. omega (arith, e)), at)
get-set (z ∷ xs) (suc k) x zero y at = inr ((λ e. omega (arith, e)), at)
get-set (z ∷ xs) (suc k) x (suc j) y at = ⊎_elim
    (λ here. inl (ap suc here.0, here.1))
    (λ other. inr ((λ e. other.0 (omega (arith, e))), other.1))
    (get-set xs k x j y at)

-- the parts of a CPU, with one more that is its own, or another's
only : (cpu : ℕ) (part : ModelPart) (own : Bool) → own ≡ (part.cpu == cpu)
    → parts_of_cpu cpu (part ∷ []) ≡ (if own then part ∷ [] else [])
only cpu part own is = ap (λ (b : Bool). if b then part ∷ [] else []) (sym is)

pub own-part : (cpu : ℕ) (parts : List ModelPart) (part : ModelPart) → part.cpu ≡ cpu
    → parts_of_cpu cpu (parts ++ part ∷ []) ≡ parts_of_cpu cpu parts ++ part ∷ []
own-part cpu parts part same =
    filter-append (λ p. p.cpu == cpu) parts (part ∷ [])
    ∙ ap (λ (ps : List ModelPart). parts_of_cpu cpu parts ++ ps)
    (only cpu part true (sym (eqb-refl-at part.cpu cpu same)))
  where
    eqb-refl-at : (a b : ℕ) → a ≡ b → (a == b) ≡ true
    eqb-refl-at a b e = grind (arith, common_steps)

pub other-part : (cpu : ℕ) (parts : List ModelPart) (part : ModelPart) → part.cpu ≢ cpu
    → parts_of_cpu cpu (parts ++ part ∷ []) ≡ parts_of_cpu cpu parts
other-part cpu parts part other =
    filter-append (λ p. p.cpu == cpu) parts (part ∷ [])
    ∙ ap (λ (ps : List ModelPart). parts_of_cpu cpu parts ++ ps)
    (only cpu part false (sym (eqb-off part.cpu cpu other)))
    ∙ append-nil (parts_of_cpu cpu parts)
  where
    eqb-off : (a b : ℕ) → a ≢ b → (a == b) ≡ false
    eqb-off a b e = grind (arith, common_steps)

-- one CPU was read on
pub cpus-more : (known : Missed) (parts : List ModelPart) (part : ModelPart) (cpus : List CpuCapture) (new : CpuCapture)
    → AreCpusRead known parts cpus → IsCpuRead known part.cpu (parts_of_cpu part.cpu parts ++ part ∷ []) new
    → AreCpusRead known (parts ++ part ∷ []) (set cpus part.cpu new)
cpus-more known parts part cpus new was read = record {
  count = length-set cpus part.cpu new ∙ was.count;
  each = λ cpu found at. ⊎_elim
      (λ here. subst (λ (c : CpuCapture). IsCpuRead known cpu (parts_of_cpu cpu (parts ++ part ∷ [])) c) here.1
      (subst (λ (ps : List ModelPart). IsCpuRead known cpu ps new) (sym (own-part cpu parts part (sym here.0)))
      (subst (λ (n : ℕ). IsCpuRead known n (parts_of_cpu n parts ++ part ∷ []) new) (sym here.0) read)))
      (λ other. subst (λ (ps : List ModelPart). IsCpuRead known cpu ps found)
      (sym (other-part cpu parts part (λ e. other.0 (sym e)))) (was.each cpu found other.1))
      (get-set cpus part.cpu new cpu found at);
}

-- the numbers of one CPU don't fit
pub cpu-past : (known : Missed) (parts : List ModelPart) (part : ModelPart)
    → IsPartPast known (parts_of_cpu part.cpu parts) part
    → IsCpuPast known part.cpu (parts ++ part ∷ [])
cpu-past known parts part past = record {
  whole = parts_of_cpu part.cpu parts;
  last = record part { bytes = past.front };
  behind = past.behind;
  further = [];
  begin = own-part part.cpu parts part refl
      ∙ ap (λ (bytes : List ℕ). parts_of_cpu part.cpu parts ++ record part { bytes = bytes } ∷ []) past.bytes_are;
  pages = past.pages;
  cut = past.cut;
  past = past.past;
}

-- and not with further parts
pub past-more : (known : Missed) (cpu : ℕ) (parts more : List ModelPart) → IsCpuPast known cpu parts
    → IsCpuPast known cpu (parts ++ more)
past-more known cpu parts more past = record {
  whole = past.whole;
  last = past.last;
  behind = past.behind;
  further = past.further ++ parts_of_cpu cpu more;
  begin = filter-append (λ p. p.cpu == cpu) parts more
      ∙ ap (λ (ps : List ModelPart). ps ++ parts_of_cpu cpu more) past.begin
      ∙ append_assoc past.whole (record past.last { bytes = past.last.bytes ++ past.behind } ∷ past.further)
      (parts_of_cpu cpu more);
  pages = past.pages;
  cut = past.cut;
  past = past.past;
}

-- the parts so far, and the next one
pub parts-next : (before : List ModelPart) (parts : List CpuPart) (i : ℕ) (part : CpuPart) → i < length parts
    → part ≡ get_or parts i part
    → before ++ map part_seen (take (i + 1) parts) ≡ (before ++ map part_seen (take i parts)) ++ part_seen part ∷ []
parts-next before parts i part below is =
    ap (λ (ps : List CpuPart). before ++ map part_seen ps)
    (take_more parts i part below ∙ ap (λ (p : CpuPart). take i parts ++ p ∷ []) (sym is))
    ∙ ap (λ (ps : List ModelPart). before ++ ps) (map-append part_seen (take i parts) (part ∷ []))
    ∙ sym (append_assoc before (map part_seen (take i parts)) (part_seen part ∷ []))

-- the parts so far, and all others
pub parts-rest : (before : List ModelPart) (parts : List CpuPart) (i : ℕ)
    → (before ++ map part_seen (take i parts)) ++ map part_seen (drop i parts) ≡ before ++ map part_seen parts
parts-rest before parts i =
    append_assoc before (map part_seen (take i parts)) (map part_seen (drop i parts))
    ∙ ap (λ (ps : List ModelPart). before ++ ps) (sym (map-append part_seen (take i parts) (drop i parts))
    ∙ ap (map part_seen) (take-append-drop i parts))
