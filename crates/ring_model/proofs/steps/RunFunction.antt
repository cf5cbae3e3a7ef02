-- What events lead to, step by step, and that it is a run.
use Rattle.std.proofs.Common.{◌≡◌, ℕ, List, [], ◌∷◌, map, Option, Some, None, refl, ap, subst}
use Rattle.trace_model.specs.Ring.{Core}
use Rattle.trace_model.specs.Events.{Event, Answer, Outcome}
use Rattle.trace_model.specs.Steps.{step_of, Step, Exchange, Run}

-- what events lead to, and what they are answered
pub record Ran : Type 0 where
  pub answers : List Answer
  pub last : Core

abbrev pub behind : Answer → Option Ran → Option Ran
behind answer None = None
behind answer (Some r) = Some record { answers = answer ∷ r.answers; last = r.last }

abbrev pub run_of : ℕ → ℕ → Core → List Event → Option Ran
run_of n size c [] = Some record { answers = []; last = c }
run_of n size c (event ∷ events) =
    elim (step_of n size c event) [ None ↦ None | Some o ↦ behind o.0 (run_of n size o.1 events) ]

abbrev pub event_in : Exchange → Event
event_in x = x.event

abbrev pub answer_in : Exchange → Answer
answer_in x = x.answer

-- the answers are these, and the last state is this one
abbrev pub Gives : Option Ran → List Answer → Core → Type 0
Gives None answers after = ⊥
Gives (Some r) answers after = (r.answers ≡ answers) × (r.last ≡ after)

abbrev head_or : Answer → List Answer → Answer
head_or d [] = d
head_or d (x ∷ xs) = x

abbrev rest_of : List Answer → List Answer
rest_of [] = []
rest_of (x ∷ xs) = xs

heads_equal : (a b : Answer) (xs ys : List Answer) → ◌≡◌ {A = List Answer} (a ∷ xs) (b ∷ ys) → a ≡ b
heads_equal a b xs ys e = ap (head_or a) e

rests_equal : (a b : Answer) (xs ys : List Answer) → ◌≡◌ {A = List Answer} (a ∷ xs) (b ∷ ys) → xs ≡ ys
rests_equal a b xs ys e = ap rest_of e

one_more : (n size : ℕ) (c after : Core) (x : Exchange) (xs : List Exchange) (answer : Answer) (between : Core)
    (r : Option Ran)
    → Step n size c x.event answer between → (Gives r (map answer_in xs) after → Run n size between xs after)
    → Gives (behind answer r) (answer_in x ∷ map answer_in xs) after
    → (between : Core) × Step n size c x.event x.answer between × Run n size between xs after
one_more n size c after x xs answer between None step rest e = absurd e
one_more n size c after x xs answer between (Some r) step rest (same, last) = (
  between,
  subst (λ (a : Answer). Step n size c x.event a between)
      (heads_equal answer x.answer r.answers (map answer_in xs) same) step,
  rest (rests_equal answer x.answer r.answers (map answer_in xs) same, last),
)

by_step : (n size : ℕ) (c after : Core) (x : Exchange) (xs : List Exchange) (o : Outcome)
    → step_of n size c x.event ≡ o
    → ((between : Core) → Gives (run_of n size between (map event_in xs)) (map answer_in xs) after
    → Run n size between xs after)
    → Gives (elim o [ None ↦ None | Some o ↦ behind o.0 (run_of n size o.1 (map event_in xs)) ])
    (answer_in x ∷ map answer_in xs) after
    → (between : Core) × Step n size c x.event x.answer between × Run n size between xs after
by_step n size c after x xs None is rest e = absurd e
by_step n size c after x xs (Some o) is rest e =
    one_more n size c after x xs o.0 o.1 (run_of n size o.1 (map event_in xs)) record { is = is } (rest o.1) e

-- Where the computed answers are these, the exchanges are a run.
pub run_sound : (n size : ℕ) (c after : Core) (exchanges : List Exchange)
    → Gives (run_of n size c (map event_in exchanges)) (map answer_in exchanges) after → Run n size c exchanges after
run_sound n size c after [] (none, last) = last
run_sound n size c after (x ∷ xs) e =
    by_step n size c after x xs (step_of n size c x.event) refl (λ between. run_sound n size between after xs) e
