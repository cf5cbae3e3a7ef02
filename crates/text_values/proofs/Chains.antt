-- What is put piece by piece.
use Rattle.std.proofs.Common.{◌≡◌, ℕ, List, [], ◌++◌, refl, sym, ◌∙◌, ap, subst, append-nil, append_assoc}
use Rattle.command_io.specs.declared.ends.Sink.{Ghosts}
use Rattle.text_values.specs.declared.output.Out.{Out}
use Rattle.text_values.specs.Putting.{Start, HasPut, Puts}

module _ {W : Type 0} {g : Ghosts W} where
  pub put_none : (out : Out W g) → Puts [] out out
  put_none out = λ start text has. subst (λ (t : List ℕ). HasPut start t out) (sym (append-nil text)) has

  pub put_more : (all xs ys : List ℕ) (o0 o1 o2 : Out W g) → all ≡ xs ++ ys → Puts xs o0 o1 → Puts ys o1 o2
      → Puts all o0 o2
  put_more all xs ys o0 o1 o2 is first second = λ start text has.
      subst (λ (t : List ℕ). HasPut start t o2) (append_assoc text xs ys ∙ ap (λ (t : List ℕ). text ++ t) (sym is))
      (second start (text ++ xs) (first start text has))

  -- a text is put, and then a second one after it
  pub put_then : (first second : List ℕ) {o0 o1 o2 : Out W g} → Puts first o0 o1 → Puts second o1 o2
      → Puts (first ++ second) o0 o2
  put_then first second {o0} {o1} {o2} is_first is_second =
      put_more (first ++ second) first second o0 o1 o2 refl is_first is_second

  -- what is put is also this text
  pub put_same : (text same : List ℕ) {o0 o1 : Out W g} → text ≡ same → Puts text o0 o1 → Puts same o0 o1
  put_same text same {o0} {o1} e puts = subst (λ (t : List ℕ). Puts t o0 o1) e puts

  -- the text is also this one
  pub put_as : (start : Start) (text same : List ℕ) (out : Out W g) → text ≡ same → HasPut start text out
      → HasPut start same out
  put_as start text same out e has = subst (λ (t : List ℕ). HasPut start t out) e has
