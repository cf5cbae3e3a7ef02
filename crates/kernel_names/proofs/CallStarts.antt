-- Where no call begins.
use Rattle.std.proofs.Common.{◌≡◌, ℕ, Bool, true, false, List, [], ◌∷◌, ◌++◌, None, nat_eq}
use Rattle.std.proofs.Common.{refl, sym, ap, ◌∙◌, ◌&&◌, true≢false}
use Rattle.std.specs.Prelude.{codes}
use Rattle.std.specs.Option.{option_and_then}
use Rattle.std.specs.List.{starts_with}
use Rattle.std.proofs.lemmas.Bool.{cond-false, false_from_ne_true}
use Rattle.event_fields.specs.Texts.{after}
use Rattle.kernel_names.specs.Calls.{call_at, call_of, symbols_in}

both : (a b : Bool) → (a && b) ≡ true → (a ≡ true) × (b ≡ true)
both true b is = (refl, is)
both false b is = absurd (true≢false (sym is))

and_both : (a b : Bool) → a ≡ true → b ≡ true → (a && b) ≡ true
and_both a b a_is b_is = ap (λ x. x && b) a_is ∙ b_is

-- what begins with a text begins with its front
shorter : (front more text : List ℕ) → starts_with nat_eq text (front ++ more) ≡ true
    → starts_with nat_eq text front ≡ true
shorter [] more text is = refl
shorter (x ∷ front) more [] is = absurd (true≢false (sym is))
shorter (x ∷ front) more (y ∷ text) is =
    let parts = both (nat_eq x y) (starts_with nat_eq text (front ++ more)) is in
    and_both (nat_eq x y) (starts_with nat_eq text front) parts.0 (shorter front more text parts.1)

nothing_after : (front more text : List ℕ) → starts_with nat_eq text front ≡ false → after (front ++ more) text ≡ None
unfolding after
nothing_after front more text is =
    cond-false _ _ _
    (false_from_ne_true (starts_with nat_eq text (front ++ more))
    (λ longer. true≢false (sym (shorter front more text longer) ∙ is)))

pub no_call : (name text : List ℕ) → starts_with nat_eq text (codes "__print_") ≡ false → call_at name text ≡ None
unfolding call_at
no_call name text is =
    ap (call_of name text) (nothing_after (codes "__print_") (codes "flags(") text is)
    ∙ ap (option_and_then (symbols_in name)) (nothing_after (codes "__print_") (codes "symbolic(") text is)
