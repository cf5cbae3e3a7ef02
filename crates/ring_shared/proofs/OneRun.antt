-- Where the steps of each end are in the run of both.
use Rattle.std.proofs.Common.{◌≡◌, Bool, true, false, List, [], ◌∷◌, ◌++◌, refl, sym, ap, ◌∙◌, append-nil, append_assoc}
use Rattle.trace_model.specs.Ring.{Core}
use Rattle.trace_model.specs.Steps as model
use Rattle.ring_steps.specs.declared.rule.Shape.{Shape}
use Rattle.ring_steps.specs.Made.{WriterMade, ReaderMade, writer_made, reader_made, trace_of, is_by_writer}
use Rattle.ring_steps.specs.Made.{is_by_reader, kept_if, made_by}
use Rattle.ring_steps.proofs.Made.{run_on, reached_on, made_more, made_same, part_then}
use Rattle.ring_steps.proofs.ReaderSteps.{step_read}
use Rattle.ring_shared.specs.RunLaws.{RunsAreReached, WriterStepsStand, ReaderStepsStand, WriterCallsEndRuns}
use Rattle.ring_shared.specs.RunLaws.{ReaderStepsEndRuns}

pub runs_are_reached : RunsAreReached
runs_are_reached shape writing reading run before later core parts front =
    record { from = run.from; exchanges = before; may_start = run.may_start; is_new = run.is_new; run = front }

-- ---- a step of one end, in a run

module _ {M : Type 0} (is : model.Event → Bool) (made : model.Exchange → Core → M) (exchange : M → model.Exchange)
    (exchange_is : (x : model.Exchange) (c : Core) → exchange (made x c) ≡ x) (shape : Shape) (from last : Core) where
  abbrev RunTo : Core → List model.Exchange → Core → Type 0
  RunTo a exchanges b = model.Run shape.pages shape.size a exchanges b

  -- what this end made of a run
  abbrev made_in : (a : Core) (exchanges : List model.Exchange) (b : Core) → RunTo a exchanges b → List M
  made_in a exchanges b run = made_by is made (trace_of shape.pages shape.size a exchanges b run)

  -- it is in a run of these exchanges
  pub record Stands (exchanges : List model.Exchange) (earlier : List M) (one : M) : Type 0 where
    pub before : List model.Exchange
    pub x : model.Exchange
    pub later : List model.Exchange
    pub core : Core
    pub exchanges_are : exchanges ≡ before ++ x ∷ later
    pub front : RunTo from (before ++ x ∷ []) core
    pub rest : RunTo core later last
    pub x_is : x ≡ exchange one
    pub part_is : made x core ≡ one
    pub steps_are : made_in from (before ++ x ∷ []) core front ≡ earlier ++ one ∷ []

  -- in the rest of the run; or it is the step that was made last
  module _ (done : List model.Exchange) (c : Core) (front : RunTo from done c) (x : model.Exchange) (between : Core)
      (step : model.Step shape.pages shape.size c x.event x.answer between) (exchanges : List model.Exchange)
      (run : RunTo between exchanges last) (one : M) (later : List M) where
    abbrev on : RunTo from (done ++ x ∷ []) between
    on = run_on shape.pages shape.size from c done x between front step

    abbrev others : List M
    others = made_in between exchanges last run

    stands_after : ((earlier : List M) → others ≡ earlier ++ one ∷ later
        → Stands ((done ++ x ∷ []) ++ exchanges) (made_in from (done ++ x ∷ []) between on ++ earlier) one)
        → (b : Bool) → is x.event ≡ b → (earlier : List M)
        → kept_if (is x.event) (made x between) others ≡ earlier ++ one ∷ later
        → Stands (done ++ x ∷ exchanges) (made_in from done c front ++ earlier) one
    stands_after again false other earlier at =
        let s = again earlier (sym (ap (λ (b : Bool). kept_if b (made x between) others) other) ∙ at) in record {
          before = s.before;
          x = s.x;
          later = s.later;
          core = s.core;
          exchanges_are = sym (append_assoc done (x ∷ []) exchanges) ∙ s.exchanges_are;
          front = s.front;
          rest = s.rest;
          x_is = s.x_is;
          part_is = s.part_is;
          steps_are =
              s.steps_are
              ∙ ap (λ (xs : List M). (xs ++ earlier) ++ one ∷ [])
              (made_same is made shape.pages shape.size from c done x between front step other);
        }
    stands_after again true own [] at =
        let here : made x between ∷ others ≡ one ∷ later =
        sym (ap (λ (b : Bool). kept_if b (made x between) others) own) ∙ at in
        let first : made x between ≡ one = cc in record {
          before = done;
          x = x;
          later = exchanges;
          core = between;
          exchanges_are = refl;
          front = on;
          rest = run;
          x_is = sym (exchange_is x between) ∙ ap exchange first;
          part_is = first;
          steps_are = made_more is made shape.pages shape.size from c done x between front step own
              ∙ (ap (λ (y : M). made_in from done c front ++ y ∷ []) first
              ∙ ap (λ (xs : List M). xs ++ one ∷ []) (sym (append-nil (made_in from done c front))));
        }
    stands_after again true own (y ∷ earlier) at =
        let here : made x between ∷ others ≡ y ∷ (earlier ++ one ∷ later) =
        sym (ap (λ (b : Bool). kept_if b (made x between) others) own) ∙ at in
        let first : made x between ≡ y = cc in
        let rest_is : others ≡ earlier ++ one ∷ later = cc in
        let s = again earlier rest_is in record {
          before = s.before;
          x = s.x;
          later = s.later;
          core = s.core;
          exchanges_are = sym (append_assoc done (x ∷ []) exchanges) ∙ s.exchanges_are;
          front = s.front;
          rest = s.rest;
          x_is = s.x_is;
          part_is = s.part_is;
          steps_are = s.steps_are
              ∙ ap (λ (xs : List M). xs ++ one ∷ [])
              (ap (λ (xs : List M). xs ++ earlier)
              (made_more is made shape.pages shape.size from c done x between front step own
              ∙ ap (λ (z : M). made_in from done c front ++ z ∷ []) first)
              ∙ append_assoc (made_in from done c front) (y ∷ []) earlier);
        }

  pub stands_from : (done : List model.Exchange) (c : Core) (front : RunTo from done c)
      (exchanges : List model.Exchange) (run : RunTo c exchanges last) (earlier : List M) (one : M) (later : List M)
      → made_in c exchanges last run ≡ earlier ++ one ∷ later
      → Stands (done ++ exchanges) (made_in from done c front ++ earlier) one
  stands_from done c front [] run [] one later e = absurd (cc)
  stands_from done c front [] run (y ∷ earlier) one later e = absurd (cc)
  stands_from done c front (x ∷ exchanges) (between, step, run) earlier one later e =
      stands_after done c front x between step exchanges run one later
      (λ before at.
      stands_from (done ++ x ∷ []) between (on done c front x between step exchanges run one later) exchanges run
      before one later at) (is x.event) refl earlier e

-- ---- of the run of both ends

pub writer_steps_stand : WriterStepsStand
writer_steps_stand shape writing reading run earlier later one e =
    let s =
    stands_from is_by_writer writer_made (λ (m : WriterMade). m.exchange) (λ x c. refl) shape run.from run.last []
    run.from refl run.exchanges run.run earlier one later (run.made.by_writer_are ∙ e) in
    record {
      before = s.before;
      x = s.x;
      later = s.later;
      core = s.core;
      exchanges_are = s.exchanges_are;
      front = s.front;
      rest = s.rest;
      x_is = s.x_is;
      part_is = s.part_is;
      steps_are = s.steps_are;
    }

pub reader_steps_stand : ReaderStepsStand
reader_steps_stand shape writing reading run earlier later one e =
    let s =
    stands_from is_by_reader reader_made (λ (m : ReaderMade). m.exchange) (λ x c. refl) shape run.from run.last []
    run.from refl run.exchanges run.run earlier one later (run.made.by_reader_are ∙ e) in
    record {
      before = s.before;
      x = s.x;
      later = s.later;
      core = s.core;
      exchanges_are = s.exchanges_are;
      front = s.front;
      rest = s.rest;
      x_is = s.x_is;
      part_is = s.part_is;
      steps_are = s.steps_are;
    }

-- ---- of one end

pub writer_calls_end_runs : WriterCallsEndRuns
writer_calls_end_runs shape before event result after call = record {
  core = call.next;
  reached = reached_on shape.pages shape.size shape.start call.core event call.answer call.next call.reached call.step;
  is =
      part_then shape.pages shape.size shape.start call.core event call.answer call.next call.reached call.step before
      after call.is_own call.before_is call.after_is;
}

pub reader_steps_end_runs : ReaderStepsEndRuns
reader_steps_end_runs shape before event answer after s = record {
  core = s.next;
  reached = reached_on shape.pages shape.size shape.start s.core event answer s.next s.reached s.step;
  is = s.after_is;
  made_is = step_read shape before _ event answer after s;
}
