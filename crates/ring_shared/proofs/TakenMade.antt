-- What a take adds to the steps of its reader.
use Rattle.std.proofs.Common.{◌≡◌, ◌<◌, ℕ, ◌+◌, List, [], ◌∷◌, ◌++◌, length, refl, sym, ap, ◌∙◌, subst, inl, inr}
use Rattle.std.proofs.Common.{append_assoc, append-nil}
use Rattle.std.proofs.lemmas.List.{length-append}
use Rattle.trace_model.specs.Steps as model
use Rattle.ring_steps.specs.declared.rule.Shape.{Shape}
use Rattle.ring_steps.specs.Made.{ReaderMade}
use Rattle.ring_steps.specs.Views.{Reading, reading_made}
use Rattle.ring_shared.specs.Takes.{most_steps, ReadsOn, no_step, one_more, has_answer, has_none}
use Rattle.ring_shared.specs.TakenLaws.{AreReadOn, TakesAreMade}

read_on_more : (made : List ReaderMade) (one : ReaderMade)
    → one.exchange ≡ record { event = model.reads; answer = model.reading } → AreReadOn made
    → AreReadOn (made ++ one ∷ [])
read_on_more [] one is are = (is, tt)
read_on_more (first ∷ made) one is (first_is, are) = (first_is, read_on_more made one is are)

reads_made : (shape : Shape) (before : Reading) (steps : ℕ) (after : Reading) → ReadsOn shape before steps after
    → (looks : List ReaderMade) × AreReadOn looks × (length looks ≡ steps) × (after.made ≡ before.made ++ looks)
reads_made shape before _ _ no_step = ([], tt, refl, sym (append-nil before.made))
reads_made shape before _ _ (one_more steps between after reads step) =
    let one : ReaderMade = reading_made record { event = model.reads; answer = model.reading } after in
    let (looks, are, count, made) = reads_made shape before steps between reads in (
      looks ++ one ∷ [],
      read_on_more looks one refl are,
      length-append looks (one ∷ []) ∙ ap (λ (n : ℕ). n + 1) count,
      step.one_more ∙ (ap (λ (xs : List ReaderMade). xs ++ one ∷ []) made ∙ append_assoc before.made looks (one ∷ [])),
    )

pub takes_made : TakesAreMade
takes_made shape before result after (has_answer steps between few reads answered) =
    let one : ReaderMade = reading_made record { event = model.reads; answer = answered.reported } after in
    let (looks, are, count, made) = reads_made shape before steps between reads in record {
      looks = looks;
      last = one ∷ [];
      read_on = are;
      ends_so =
          inr
          record {
            few = subst (λ (n : ℕ). n < most_steps shape) (sym count) few;
            one = one;
            last_is = refl;
            reported = answered.reported;
            exchange_is = refl;
            reports = answered.reports;
          };
      made_is =
          answered.step.one_more
          ∙ (ap (λ (xs : List ReaderMade). xs ++ one ∷ []) made ∙ append_assoc before.made looks (one ∷ []));
    }
takes_made shape before result after (has_none fill back reads hint is) =
    let (looks, are, count, made) = reads_made shape before _ after reads in record {
      looks = looks;
      last = [];
      read_on = are;
      ends_so = inl record { all = count; last_is = refl; fill = fill; back = back; result_is = is };
      made_is = made ∙ ap (λ (xs : List ReaderMade). before.made ++ xs) (sym (append-nil looks));
    }
