-- A whole reading, one event after the other.
use Rattle.std.proofs.Common.{◌≡◌, List, [], ◌∷◌, ◌++◌, map, length, drop, refl, sym, ap, subst, ◌∙◌, append_assoc}
use Rattle.std.proofs.Common.{append-nil, arith, length-drop}
use Rattle.std.proofs.lemmas.Grind.{flat_map-append}
use Rattle.std.proofs.lemmas.List.{map-append}
use Rattle.line_follower.specs.declared.lines.Said.{Said}
use Rattle.line_follower.specs.declared.whole.Event.{Event as Happening}
use Rattle.line_follower.specs.Known.{Event}
use Rattle.line_follower.specs.Following.{Following}
use Rattle.line_follower.specs.Runs.{Follows, IsRun, events_of, given_in}
use Rattle.line_follower.specs.Events.{event_seen}

-- one more step
pub run_more : {T : Type 0} (old : Following T) (steps : List (Event T × List (Said T))) (between : Following T)
    (event : Event T) (said : List (Said T)) (new : Following T)
    → IsRun old steps between
    → Follows between event said new
    → IsRun old (steps ++ (event, said) ∷ []) new
run_more {T} old [] between event said new run last =
    (new, subst (λ (state : Following T). Follows state event said new) (sym run) last, refl)
run_more old (step ∷ steps) between event said new run last =
    (run.0, run.1, run_more run.0 steps between event said new run.2 last)

pub given_more : {T : Type 0} (steps : List (Event T × List (Said T))) (event : Event T) (said : List (Said T))
    → given_in (steps ++ (event, said) ∷ []) ≡ given_in steps ++ said
given_more {T} steps event said =
    flat_map-append (λ (step : Event T × List (Said T)). step.1) steps ((event, said) ∷ [])
    ∙ ap (λ (others : List (Said T)). given_in steps ++ others) (append-nil said)

-- the events of the steps, and those that are left
pub parted_more : {T : Type 0} (steps : List (Event T × List (Said T))) (event : Happening T) (said : List (Said T))
    (items rest : List (Happening T)) (all : List (Event T))
    → items ≡ event ∷ rest
    → events_of steps ++ map event_seen items ≡ all
    → events_of (steps ++ (event_seen event, said) ∷ []) ++ map event_seen rest ≡ all
parted_more {T} steps event said items rest all popped parted =
    ap (λ (events : List (Event T)). events ++ map event_seen rest)
    (map-append (λ (step : Event T × List (Said T)). step.0) steps ((event_seen event, said) ∷ []))
    ∙ append_assoc (events_of steps) (event_seen event ∷ []) (map event_seen rest)
    ∙ ap (λ (others : List (Happening T)). events_of steps ++ map event_seen others) (sym popped)
    ∙ parted

pub all_parted : {T : Type 0} (steps : List (Event T × List (Said T))) (items : List (Happening T))
    (all : List (Event T))
    → items ≡ []
    → events_of steps ++ map event_seen items ≡ all
    → events_of steps ≡ all
all_parted {T} steps items all none parted =
    sym (append-nil (events_of steps))
    ∙ ap (λ (others : List (Happening T)). events_of steps ++ map event_seen others) (sym none)
    ∙ parted

pub none_left : {X : Type 0} (items : List X) → items ≡ drop 1 items → items ≡ []
none_left [] same = refl
none_left (item ∷ items) same = absurd (omega (arith, ap length same, length-drop 1 (item ∷ items)))
