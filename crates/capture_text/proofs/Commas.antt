-- Texts with a comma between two, one after the other.
use Rattle.std.proofs.Common.{◌≡◌, ℕ, ◌+◌, ◌<◌, false, List, [], ◌∷◌, ◌++◌, length, get_or, take, map, refl}
use Rattle.std.proofs.Common.{sym, ap, ◌∙◌, append_assoc, append-nil}
use Rattle.std.specs.Prelude.{flat_map, codes, ◌&&◌}
use Rattle.std.proofs.lemmas.List.{take_more, map-append}
use Rattle.std.proofs.lemmas.List.Folds.{flat_map-map}
use Rattle.std.proofs.lemmas.Grind.{flat_map-append}
use Rattle.capture_text.specs.Fields.{joined, continued, is_no_text, names_continued, open_names}

after_first : (texts : List (List ℕ)) → flat_map (λ other. 44 ∷ other) texts ≡ continued false texts
after_first [] = refl
after_first (one ∷ others) = refl

-- texts after these
pub joined_more : (before next : List (List ℕ))
    → joined (before ++ next) ≡ joined before ++ continued (is_no_text before) next
joined_more [] [] = refl
joined_more [] (one ∷ others) = refl
joined_more (first ∷ others) next =
    ap (λ (l : List ℕ). first ++ l) (flat_map-append (λ other. 44 ∷ other) others next)
    ∙ sym (append_assoc first (flat_map (λ other. 44 ∷ other) others) (flat_map (λ other. 44 ∷ other) next))
    ∙ ap (λ (l : List ℕ). (first ++ flat_map (λ other. 44 ∷ other) others) ++ l) (after_first next)

pub none_more : (before next : List (List ℕ)) → is_no_text (before ++ next) ≡ (is_no_text before && is_no_text next)
none_more [] next = refl
none_more (first ∷ others) next = refl

-- members of names after these
after_some : (next : List (List ℕ)) → continued false next ≡ names_continued false next
after_some [] = refl
after_some (one ∷ others) = refl

pub names_more : (before next : List (List ℕ))
    → open_names (before ++ next) ≡ open_names before ++ names_continued (is_no_text before) next
names_more [] next = refl
names_more (first ∷ others) next =
    ap (λ (l : List ℕ). codes ",\"names\":{" ++ l)
    (joined_more (first ∷ others) next ∙ ap (λ (l : List ℕ). joined (first ∷ others) ++ l) (after_some next))
    ∙ sym (append_assoc (codes ",\"names\":{") (joined (first ∷ others)) (names_continued false next))

-- texts that are made of values
pub joined_values : {A : Type 0} (text : A → List ℕ) (first : A) (others : List A)
    → joined (map text (first ∷ others)) ≡ text first ++ flat_map (λ other. 44 ∷ text other) others
joined_values text first others =
    ap (λ (l : List ℕ). text first ++ l) (flat_map-map (λ other. 44 ∷ other) text others)

-- ---- what is made of the first values, and of one more

module _ {A B : Type 0} (seen : A → B) (values : List A) (index : ℕ) (default : A) (below : index < length values) where
  pub one_more : map seen (take (index + 1) values)
      ≡ map seen (take index values) ++ seen (get_or values index default) ∷ []
  one_more = ap (map seen) (take_more values index default below)
      ∙ map-append seen (take index values) (get_or values index default ∷ [])

  pub made_more : {C : Type 0} (make : B → List C) → flat_map make (map seen (take (index + 1) values))
      ≡ flat_map make (map seen (take index values)) ++ make (seen (get_or values index default))
  made_more {C} make =
      ap (flat_map make) one_more
      ∙ flat_map-append make (map seen (take index values)) (seen (get_or values index default) ∷ [])
      ∙ ap (λ (l : List C). flat_map make (map seen (take index values)) ++ l)
      (append-nil (make (seen (get_or values index default))))
