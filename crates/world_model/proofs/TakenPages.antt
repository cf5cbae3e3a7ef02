-- The pages that a line's exchanges bring are those that the reader took meanwhile.
use Rattle.std.proofs.Common.{◌≡◌, ◌≢◌, ℕ, List, [], ◌∷◌, ◌++◌, map, flat_map, refl, sym, ap, ◌∙◌, ⊎_elim, arith}
use Rattle.std.proofs.Common.{append_assoc, append-nil}
use Rattle.std.proofs.lemmas.Bool.{eq-eqb, ne_eqb}
use Rattle.std.proofs.lemmas.List.{map-append}
use Rattle.trace_model.specs.History.{push, push_close, open_fill, reserve, leave, wished}
use Rattle.trace_model.specs.Window.{Window, RingEvent, closes, takes, loses, acts}
use Rattle.trace_model.specs.Ring.{TakenFill, Reader, Core}
use Rattle.trace_model.specs.Steps.{Event, Answer, pushed, going, reserved_as, pending, full, gone, refused, reading}
use Rattle.trace_model.specs.Steps.{empty, moving, page_taken, wished_for, Step, Exchange, Run}
use Rattle.trace_model.specs.Parcel.{Parcel}
use Rattle.trace_model.proofs.steps.StepSound.{cases_of}
use Rattle.ring_model.specs.RingKept.{IsRingKept}
use Rattle.ring_model.specs.WindowLaws.{MovesWindow}
use Rattle.ring_model.proofs.frames.AnswersRight.{swapped_right}
use Rattle.ring_model.proofs.steps.CountMoves.{losses_need_a_full_ring}
use Rattle.ring_model.proofs.histories.HistorySteps.{step_owed}
use Rattle.ring_model.proofs.partition.RingsKept.{ring_step}
use Rattle.world_model.specs.World.{parcel_of, parcels_in, parcels_of}
use Rattle.world_model.specs.GenuineWorlds.{parcels_from}

-- the fill that an answer brings, if it is a take's
abbrev pub taken_in : Answer → List TakenFill
taken_in pushed = []
taken_in going = []
taken_in (reserved_as number) = []
taken_in pending = []
taken_in full = []
taken_in gone = []
taken_in (refused why) = []
taken_in reading = []
taken_in (empty done) = []
taken_in (moving fill) = []
taken_in (page_taken t) = t ∷ []
taken_in (wished_for fill) = []

abbrev pub taken_by : List Exchange → List TakenFill
taken_by xs = flat_map (λ x. taken_in x.answer) xs

-- ---- what the reader took

module _ (n size start : ℕ) (c : Core) (event : Event) (answer : Answer) (after : Core)
    (kept : IsRingKept n size start c) (step : Step n size c event answer after) where
  -- an answer that isn't a take's takes nothing
  none_taken : ((t : TakenFill) → answer ≢ page_taken t) → after.reader.taken ≡ c.reader.taken ++ []
  none_taken not =
      ⊎_elim (λ stays. stays.1) (λ (what, happened). by_what what happened)
      (step_owed n size start c event answer after kept.links kept.stack kept.history (cases_of step)).window
      ∙ sym (append-nil c.reader.taken)
    where
      by_what : (what : RingEvent) → MovesWindow n c what after → after.reader.taken ≡ c.reader.taken
      by_what (acts (push moment len)) h = absurd h.shown
      by_what (acts push_close) h = absurd h.shown
      by_what (acts open_fill) h = ap (λ (r : Reader). r.taken) h.shown.1
      by_what (acts reserve) h = absurd h.shown
      by_what (acts (leave payload)) h = absurd h.shown
      by_what (acts wished) h = absurd h.shown
      by_what closes h = ap (λ (r : Reader). r.taken) h.shown.1
      by_what loses h = ap (λ (r : Reader). r.taken) h.shown.1
      by_what takes h = let moved = ap (λ (w : Window). w.head) h.step.after_is in
          ⊎_elim (λ stays. absurd (let no : ⊥ = omega arith in no))
          (λ moves. ⊎_elim (λ (t, is, at, up). absurd (not t is)) (λ lost. ap (λ (r : Reader). r.taken) lost.2) moves)
          (losses_need_a_full_ring n size start c event answer after kept step)

step_takes : (n size start : ℕ) (c : Core) (event : Event) (answer : Answer) (after : Core) → IsRingKept n size start c
    → Step n size c event answer after → after.reader.taken ≡ c.reader.taken ++ taken_in answer
step_takes n size start c event pushed after kept step =
    none_taken n size start c event pushed after kept step (λ t e. let z : ⊥ = cc in z)
step_takes n size start c event going after kept step =
    none_taken n size start c event going after kept step (λ t e. let z : ⊥ = cc in z)
step_takes n size start c event (reserved_as number) after kept step =
    none_taken n size start c event (reserved_as number) after kept step (λ t e. let z : ⊥ = cc in z)
step_takes n size start c event pending after kept step =
    none_taken n size start c event pending after kept step (λ t e. let z : ⊥ = cc in z)
step_takes n size start c event full after kept step =
    none_taken n size start c event full after kept step (λ t e. let z : ⊥ = cc in z)
step_takes n size start c event gone after kept step =
    none_taken n size start c event gone after kept step (λ t e. let z : ⊥ = cc in z)
step_takes n size start c event (refused why) after kept step =
    none_taken n size start c event (refused why) after kept step (λ t e. let z : ⊥ = cc in z)
step_takes n size start c event reading after kept step =
    none_taken n size start c event reading after kept step (λ t e. let z : ⊥ = cc in z)
step_takes n size start c event (empty done) after kept step =
    none_taken n size start c event (empty done) after kept step (λ t e. let z : ⊥ = cc in z)
step_takes n size start c event (moving fill) after kept step =
    none_taken n size start c event (moving fill) after kept step (λ t e. let z : ⊥ = cc in z)
step_takes n size start c event (wished_for fill) after kept step =
    none_taken n size start c event (wished_for fill) after kept step (λ t e. let z : ⊥ = cc in z)
step_takes n size start c event (page_taken t) after kept step =
    (swapped_right n size start c event t after kept step).3

pub run_takes : (n size start : ℕ) (c after : Core) (xs : List Exchange) → IsRingKept n size start c
    → Run n size c xs after → after.reader.taken ≡ c.reader.taken ++ taken_by xs
run_takes n size start c after [] kept run =
    ap (λ (d : Core). d.reader.taken) (sym run) ∙ sym (append-nil c.reader.taken)
run_takes n size start c after (x ∷ xs) kept (between, step, run) =
    run_takes n size start between after xs (ring_step n size start c x.event x.answer between kept step) run
    ∙ ap (λ (l : List TakenFill). l ++ taken_by xs) (step_takes n size start c x.event x.answer between kept step)
    ∙ append_assoc c.reader.taken (taken_in x.answer) (taken_by xs)

-- ---- its parcels

parcels_in_is : (cpu : ℕ) (answer : Answer) → parcels_in cpu answer ≡ map (parcel_of cpu) (taken_in answer)
parcels_in_is cpu pushed = refl
parcels_in_is cpu going = refl
parcels_in_is cpu (reserved_as number) = refl
parcels_in_is cpu pending = refl
parcels_in_is cpu full = refl
parcels_in_is cpu gone = refl
parcels_in_is cpu (refused why) = refl
parcels_in_is cpu reading = refl
parcels_in_is cpu (empty done) = refl
parcels_in_is cpu (moving fill) = refl
parcels_in_is cpu (page_taken t) = refl
parcels_in_is cpu (wished_for fill) = refl

pub parcels_of_is : (cpu : ℕ) (xs : List Exchange) → parcels_of cpu xs ≡ map (parcel_of cpu) (taken_by xs)
parcels_of_is cpu [] = refl
parcels_of_is cpu (x ∷ xs) =
    (λ i. parcels_in_is cpu x.answer i ++ parcels_of_is cpu xs i)
    ∙ sym (map-append (parcel_of cpu) (taken_in x.answer) (taken_by xs))

-- they are all of this CPU, and none of another
pub all_of_cpu : (cpu : ℕ) (taken : List TakenFill)
    → parcels_from cpu (map (parcel_of cpu) taken) ≡ map (parcel_of cpu) taken
all_of_cpu cpu [] = refl
all_of_cpu cpu (t ∷ taken) =
    rw (eq-eqb cpu cpu refl) (ap (λ (l : List Parcel). parcel_of cpu t ∷ l) (all_of_cpu cpu taken))

pub none_of_cpu : (cpu other : ℕ) (taken : List TakenFill) → other ≢ cpu
    → parcels_from cpu (map (parcel_of other) taken) ≡ []
none_of_cpu cpu other [] apart = refl
none_of_cpu cpu other (t ∷ taken) apart = rw (ne_eqb other cpu apart) (none_of_cpu cpu other taken apart)
