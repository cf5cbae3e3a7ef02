-- The lines of a reader, from a ring that matches an account: they are lines of the account, and it matches again.
use Rattle.std.proofs.Common.{◌≡◌, ℕ, ◌+◌, ◌<◌, List, [], ◌∷◌, ◌++◌, length, refl, sym, ap, ◌∙◌, subst, ⊎_elim, arith}
use Rattle.std.proofs.Common.{append_assoc, append-nil}
use Rattle.std.proofs.lemmas.List.{length-append}
use Rattle.trace_model.specs.Frames.{Frame}
use Rattle.trace_model.specs.Window.{Window, RingEvent, takes}
use Rattle.trace_model.specs.Ring.{Core, window_of}
use Rattle.trace_model.specs.ReaderSteps.{with_wish}
use Rattle.trace_model.specs.Steps.{Exchange}
use Rattle.trace_model.proofs.steps.StepSound.{cases_of}
use Rattle.ring_model.specs.Reached.{IsReached}
use Rattle.ring_model.specs.RunsAsEvents.{AreEventsOfRun}
use Rattle.text_model.specs.Script.{Command, wish, Script}
use Rattle.world_model.specs.Lanes.{Lane, HasPayloads, ReaderRun, HasTakeAnswer, IsRead, LineRun}
use Rattle.world_model.proofs.LanePayloads.{line_fits}
use Rattle.world_model.proofs.LineRuns.{line_run}
use Rattle.world_model.proofs.WorldsKept.{reached_on}
use Rattle.line_model.specs.Due.{window_at, situation_after, IsDue}
use Rattle.line_model.specs.Accounts.{CpuState, ReadsOn, TakesPage, StepsReader, reads_on, ends_before, Asks}
use Rattle.line_model.proofs.Standing.{FramesStand, take_of, Stands, AreDue}
use Rattle.line_model.proofs.StandingKept.{window_stands, payloads_many, all_left, run_rests, run_takes}
use Rattle.line_model.proofs.ReaderLines.{TakesNone, TakesOne, Stays, wish_is, reader_stays}
use Rattle.line_model.proofs.ReaderGoes.{Follows, read_to, taken_to, Reads, on, ends_none, ends_one, run_reads}

-- A line's part adds these events, each of them due, and the ring matches the account again.
pub record PartStands (script : Script) (Part : CpuState → List RingEvent → CpuState → Type 0) (state : CpuState)
    (next : Lane)
    : Type 0 where
  pub own : List RingEvent
  pub after : CpuState
  pub part : Part state own after
  pub due : AreDue script state.wish state.events own
  pub stands : Stands script next after

-- ---- events that are due

abbrev first_of : RingEvent → List RingEvent → RingEvent
first_of other [] = other
first_of other (event ∷ events) = event

abbrev others_of : List RingEvent → List RingEvent
others_of [] = []
others_of (event ∷ events) = events

module _ (script : Script) (asked : ℕ) where
  pub none_due : (before : List RingEvent) → AreDue script asked before []
  none_due before front rest event is =
      let long = ap (λ (l : List RingEvent). length l) is in
      let sum = length-append front (event ∷ rest) in
      absurd (let no : ⊥ = omega (arith, long, sum) in no)

  -- one event more before them
  pub more_due : (before own : List RingEvent) (event : RingEvent)
      → IsDue (situation_after script asked before) event
      → AreDue script asked (before ++ event ∷ []) own
      → AreDue script asked before (event ∷ own)
  more_due before own event first due [] rest here is =
      subst (λ (e : RingEvent). IsDue (situation_after script asked (before ++ [])) e) (ap (first_of event) is)
      (subst (λ (l : List RingEvent). IsDue (situation_after script asked l) event) (sym (append-nil before)) first)
  more_due before own event first due (other ∷ front) rest here is =
      subst (λ (e : RingEvent). IsDue (situation_after script asked (before ++ e ∷ front)) here)
      (ap (first_of event) is)
      (subst (λ (l : List RingEvent). IsDue (situation_after script asked l) here)
      (append_assoc before (event ∷ []) front)
      (due front rest here (ap others_of is)))

-- ---- lines

module _ (script : Script) (lane next : Lane) (state : CpuState) (stands : Stands script lane state)
    (xs : List Exchange) (command : Command) (line : LineRun script.pages script.size command lane xs next) where
  pub next_reached : IsReached script.pages script.size script.start next.core
  next_reached = reached_on script.pages script.size script.start lane.core next.core xs stands.reached
      (line_run script.pages script.size command lane next xs line)

  pub next_fits : HasPayloads next
  next_fits = line_fits script.pages script.size command lane next xs stands.payloads line

  module _ (run : ReaderRun script.pages script.size lane xs next) where
    kept_writer : Stays lane.core next.core × (next.payloads ≡ lane.payloads)
    kept_writer = reader_stays script.pages script.size script.start lane next xs stands.reached
        (payloads_many lane.core.frames lane.payloads state.frames stands.frames) run

    stays : Stays lane.core next.core
    stays = kept_writer.0

    frames_stand : FramesStand next.core.frames next.payloads state.frames
    frames_stand =
        subst (λ (frames : List Frame). FramesStand frames next.payloads state.frames) (sym stays.frames)
        (subst (λ (l : List (List ℕ)). FramesStand lane.core.frames l state.frames) (sym kept_writer.1) stands.frames)

    abbrev now : Window
    now = window_at script.start state.events

    done_now : lane.core.done ≡ now.done
    done_now = sym (ap (λ (w : Window). w.done) (window_stands script lane state stands))

    head_now : lane.core.head ≡ now.head
    head_now = sym (ap (λ (w : Window). w.head) (window_stands script lane state stands))

    follows : Follows script lane.payloads lane.core state
    follows = record {
      reached = stands.reached;
      window = window_stands script lane state stands;
      frames = stands.frames;
      seen = stands.seen;
      hint = stands.hint;
      take = stands.take;
    }

    -- the ring stands beside the state again, after these events of the reader
    stands_again : (events : List RingEvent)
        → AreEventsOfRun script.pages script.start next.core events
        → Stands script next (record (read_to state next.core) { events = events })
    stands_again events are = record {
      reached = next_reached;
      payloads = next_fits;
      run = are;
      frames = frames_stand;
      seen = refl;
      hint = refl;
      take = refl;
      wish = stands.wish ∙ sym stays.wish;
    }

    none_taken : TakesNone lane.core next.core → Stands script next (read_to state next.core)
    none_taken none = stands_again state.events
        (run_rests script.pages script.start lane.core next.core state.events stands.run stays.history
        (λ i. record { head = sym none.head i; done = sym stays.done i; opened = sym stays.opened i }) none.taken)

    one_taken : TakesOne lane.core next.core → Stands script next (taken_to state next.core)
    one_taken one = stands_again (state.events ++ takes ∷ [])
        (run_takes script.pages script.start lane.core next.core state.events stands.run one.page one.fill
        one.closed one.head stays.done stays.opened stays.history one.taken)

    one_due : TakesOne lane.core next.core → AreDue script state.wish state.events (takes ∷ [])
    one_due one =
        let closed : now.head < now.done =
        subst (λ (k : ℕ). k < now.done) head_now (subst (λ (k : ℕ). lane.core.head < k) done_now one.closed) in
        more_due script state.wish state.events [] takes closed
        (none_due script state.wish (state.events ++ takes ∷ []))

    abbrev Read : Type 0
    Read = Reads script (HasTakeAnswer xs) (length xs) state lane.core next.core

    read : Read
    read = run_reads script lane.payloads lane next xs state follows run

    -- `r`
    pub reads_stand : (count : ℕ) → IsRead count xs → PartStands script (StepsReader script count) state next
    reads_stand count (most, all) = by_read read
      where
        by_read : Read → PartStands script (StepsReader script count) state next
        by_read (on not none steps) =
            let same : length xs ≡ count = ⊎_elim (λ same. same) (λ answered. absurd (not answered)) all in record {
              own = [];
              after = read_to state next.core;
              part = reads_on refl (subst (λ (k : ℕ). ReadsOn script k state (read_to state next.core)) same steps);
              due = none_due script state.wish state.events;
              stands = none_taken none;
            }
        by_read (ends_none answered none fewer between sum steps ending) = record {
          own = [];
          after = read_to state next.core;
          part = ends_before record { count = fewer; between = between; reads = steps; ends = ending }
              (omega (arith, sum, most));
          due = none_due script state.wish state.events;
          stands = none_taken none;
        }
        by_read (ends_one answered one fewer between sum steps ending) = record {
          own = takes ∷ [];
          after = taken_to state next.core;
          part = ends_before record { count = fewer; between = between; reads = steps; ends = ending }
              (omega (arith, sum, most));
          due = one_due one;
          stands = one_taken one;
        }

    -- `t`
    pub takes_stand : HasTakeAnswer xs → PartStands script (TakesPage script) state next
    takes_stand answered = by_read read
      where
        by_read : Read → PartStands script (TakesPage script) state next
        by_read (on not none steps) = absurd (not answered)
        by_read (ends_none is none fewer between sum steps ending) = record {
          own = [];
          after = read_to state next.core;
          part = record { count = fewer; between = between; reads = steps; ends = ending };
          due = none_due script state.wish state.events;
          stands = none_taken none;
        }
        by_read (ends_one is one fewer between sum steps ending) = record {
          own = takes ∷ [];
          after = taken_to state next.core;
          part = record { count = fewer; between = between; reads = steps; ends = ending };
          due = one_due one;
          stands = one_taken one;
        }

-- `a`
module _ (script : Script) (lane next : Lane) (state : CpuState) (stands : Stands script lane state)
    (xs : List Exchange) (at : ℕ) (line : LineRun script.pages script.size (wish at) lane xs next) where
  core_is : line.core ≡ with_wish lane.core
  core_is = wish_is script.pages script.size lane.core line.answer line.core (cases_of line.step)

  pub asks_stand : PartStands script Asks state next
  asks_stand = record {
    own = [];
    after = record state { wish = state.seen + 1 };
    part = (refl, refl);
    due = none_due script state.wish state.events;
    stands = record {
      reached = next_reached script lane next state stands xs (wish at) line;
      payloads = next_fits script lane next state stands xs (wish at) line;
      run = run_rests script.pages script.start lane.core next.core state.events stands.run
          (ap (λ (c : Core). c.history) next_is) (sym (ap window_of next_is))
          (ap (λ (c : Core). c.reader.taken) next_is);
      frames =
          subst (λ (c : Core). FramesStand c.frames next.payloads state.frames) (sym next_is)
          (subst (λ (l : List (List ℕ)). FramesStand lane.core.frames l state.frames) (sym payloads_are) stands.frames);
      seen = stands.seen ∙ sym (ap (λ (c : Core). c.reader.seen) next_is);
      hint = stands.hint ∙ sym (ap (λ (c : Core). c.reader.hint) next_is);
      take = stands.take ∙ sym (ap (λ (c : Core). take_of c.reader.phase) next_is);
      wish = ap (λ (k : ℕ). k + 1) stands.seen ∙ sym (ap (λ (c : Core). c.wish) next_is);
    };
  }
    where
      next_is : next.core ≡ with_wish lane.core
      next_is = ap (λ (l : Lane). l.core) line.after_is ∙ core_is

      many : length lane.payloads ≡ length line.core.frames
      many = payloads_many lane.core.frames lane.payloads state.frames stands.frames
          ∙ sym (ap (λ (c : Core). length c.frames) core_is)

      payloads_are : next.payloads ≡ lane.payloads
      payloads_are = ap (λ (l : Lane). l.payloads) line.after_is ∙ all_left line.core.frames lane.payloads many
