-- Every step is the one that the function computes: so an event has one answer and one state after it.
use Rattle.std.proofs.Common.{◌≡◌, List, [], ◌∷◌, length, Some, None, refl, sym, ap, ◌∙◌, subst, arith}
use Rattle.trace_model.specs.Ring.{Core}
use Rattle.trace_model.specs.Events.{Event, Answer, Outcome}
use Rattle.trace_model.specs.Steps.{Run, Step}
use Rattle.ring_model.specs.RingLaws.{StepsAreDetermined, events_of, RunsAreDetermined}

abbrev answer_or : Answer → Outcome → Answer
answer_or d None = d
answer_or d (Some o) = o.0

abbrev after_or : Core → Outcome → Core
after_or d None = d
after_or d (Some o) = o.1

pub steps_are_determined : StepsAreDetermined
steps_are_determined n size c event answer answer' after after' one other =
    let same = sym one.is ∙ other.is in
    (ap (answer_or answer) same, ap (after_or after) same)

head_or : Event → List Event → Event
head_or d [] = d
head_or d (e ∷ es) = e

rest_of : List Event → List Event
rest_of [] = []
rest_of (e ∷ es) = es

heads_same : (a b : Event) (xs ys : List Event) → ◌≡◌ {A = List Event} (a ∷ xs) (b ∷ ys) → a ≡ b
unfolding head_or
heads_same a b xs ys e = ap (head_or a) e

rests_same : (a b : Event) (xs ys : List Event) → ◌≡◌ {A = List Event} (a ∷ xs) (b ∷ ys) → xs ≡ ys
unfolding rest_of
rests_same a b xs ys e = ap rest_of e

pub runs_are_determined : RunsAreDetermined
runs_are_determined n size c after after' [] [] e run other = (refl, sym run ∙ other)
runs_are_determined n size c after after' [] (y ∷ ys) e run other = let z = ap (λ (l : List Event). length l) e in
    absurd (omega arith)
runs_are_determined n size c after after' (x ∷ xs) [] e run other = let z = ap (λ (l : List Event). length l) e in
    absurd (omega arith)
runs_are_determined n size c after after' (x ∷ xs) (y ∷ ys) e (between, step, run) (between', step', run') =
    let event = heads_same x.event y.event (events_of xs) (events_of ys) e in
    let (answer, state) =
    steps_are_determined n size c x.event x.answer y.answer between between' step
    (subst (λ (ev : Event). Step n size c ev y.answer between') (sym event) step') in
    let (rest, last) =
    runs_are_determined n size between after after' xs ys
    (rests_same x.event y.event (events_of xs) (events_of ys) e) run
    (subst (λ (s : Core). Run n size s ys after') (sym state) run') in
    (λ i. record { event = event i; answer = answer i } ∷ rest i, last)
