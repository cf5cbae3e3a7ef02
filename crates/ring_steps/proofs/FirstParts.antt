-- The words and slots of a new ring, as they are laid one by one.
use Rattle.std.proofs.Common.{◌≡◌, ℕ, zero, suc, ◌+◌, ◌<◌, List, [], ◌∷◌, ◌++◌, length, get_or, set, refl, sym}
use Rattle.std.proofs.Common.{◌∙◌, subst, arith, length-set}
use Rattle.std.specs.Prelude.{None}
use Rattle.std.proofs.lemmas.List.{get_or-set_same, get_or-set_other}
use mathlib.Core.Logic.{dite}
use native.Mathlib.Decide.{ℕ_discrete}
use Rattle.link_marks.specs.FirstLinks.{EachAt}
use Rattle.ring_steps.specs.declared.rule.Shape.{Shape}
use Rattle.ring_steps.specs.Words.{opened_word, done_word, wish_word, page_word}
use Rattle.ring_steps.specs.NewRings.{IsShape, IsFirstLinkWord, AreFirstWords, IsFirstSlot}

pub each_snoc : {X : Type 0} (P : ℕ → X → Type 0) (xs : List X) (x : X) → EachAt P xs → P (length xs) x
    → EachAt P (xs ++ x ∷ [])
each_snoc {X} P [] x each last zero y at = subst (P 0) (let e : x ≡ y = cc in e) last
each_snoc {X} P [] x each last (suc i) y at = absurd (cc)
each_snoc {X} P (z ∷ xs) x each last zero y at = each zero y at
each_snoc {X} P (z ∷ xs) x each last (suc i) y at =
    each_snoc (λ k. P (suc k)) xs x (λ k w here. each (suc k) w here) last i y at

-- one more page has its link
pub link_laid : (shape : Shape) (page word : ℕ) (words : List ℕ) → page < shape.pages → IsFirstLinkWord shape page word
    → AreFirstWords shape page words → AreFirstWords shape (page + 1) (set words (page_word page) word)
link_laid shape page word words low is a = let wide = a.count in
    let at : ℕ = page_word page in
    record {
      count = length-set words at word ∙ a.count;
      opened = get_or-set_other words at opened_word word 0 (λ e. omega arith) ∙ a.opened;
      done = get_or-set_other words at done_word word 0 (λ e. omega arith) ∙ a.done;
      wish = get_or-set_other words at wish_word word 0 (λ e. omega arith) ∙ a.wish;
      links = λ other below. dite (ℕ_discrete other page)
          (λ e.
          subst (λ (p : ℕ). IsFirstLinkWord shape p (get_or (set words at word) (page_word p) 0)) (sym e)
          (subst (IsFirstLinkWord shape page) (sym (get_or-set_same words at word 0 (omega arith))) is))
          (λ ne.
          subst (IsFirstLinkWord shape other)
          (sym (get_or-set_other words at (page_word other) word 0 (λ e. ne (omega arith))))
          (a.links other (omega arith)));
      spare = get_or-set_other words at (page_word shape.pages) word 0 (λ e. omega arith) ∙ a.spare;
    }

pub spare_slot : (shape : Shape) (i : ℕ) → IsShape shape → i ≡ shape.pages → IsFirstSlot shape i None
spare_slot shape i s is = record {
  others = λ low ne. absurd (omega arith);
  tail = λ e. refl;
  spare = λ e. refl;
}
