-- What a replay makes of a CPU's writer lines.
use Rattle.std.proofs.Common.{◌≡◌, ◌≢◌, ℕ, suc, ◌<◌, ◌⊎◌, Bool, true, false, List, [], ◌∷◌, ◌++◌, length, get_or, Some}
use Rattle.std.proofs.Common.{refl, sym, ap, ◌∙◌, subst, inl, inr, arith}
use Rattle.std.specs.Prelude.{if◌then◌else◌, nat_eq, slice_set, All}
use Rattle.std.specs.List.{slice_get}
use Rattle.std.proofs.lemmas.Bool.{eq-eqb, ne_eqb}
use Rattle.std.proofs.lemmas.Option.{slice_get_within, slice_get-get_or}
use mathlib.Core.Logic.{dite}
use native.Mathlib.Decide.{ℕ_discrete}
use Rattle.trace_model.specs.Steps.{Exchange}
use Rattle.trace_model.specs.Window.{RingEvent}
use Rattle.trace_model.proofs.collections.Elements.{some_is}
use Rattle.text_model.specs.Script.{Command, begin_frame, step_frame, finish_frame, write, close, step_reader}
use Rattle.text_model.specs.Script.{take_page, wish, deliver, Script}
use Rattle.text_model.specs.ScriptLimits.{IsCommandWithin, IsWithinLimits}
use Rattle.world_model.specs.Lanes.{Lane, IsNewLane, HasPayloads, LineRun}
use Rattle.world_model.specs.World.{World, RunsLine, DeliversFill, delivers, lacks, Obeys, ObeysAll, WorldBehind}
use Rattle.world_model.proofs.Lookups.{get_set_here, get_set_other}
use Rattle.world_model.proofs.LanePayloads.{new_fits, line_fits}
use Rattle.world_model.proofs.WorldsKept.{IsWorldKept, new_kept, obeys_kept, world_kept}
use Rattle.line_model.specs.Lines.{LineState, first_state, LineParts, writer_line, writer_lines, IsBegunByLines}
use Rattle.line_model.specs.Lines.{IsMadeByLines}
use Rattle.line_model.specs.WriterCalls.{LineWriting, writer_of, first_writer, NoCalls, LineCalls}
use Rattle.line_model.specs.LineParts.{IsBetweenLines}
use Rattle.line_model.specs.ReplayedLines.{commands_of, ReplayMakesLines, ReplayCommitsWholeLines, WorldsMakeLines}
use Rattle.line_model.proofs.PartsJoined.{start_between}
use Rattle.line_model.proofs.LineCallsMade.{none_counted, line_calls_make}
use Rattle.ring_model.proofs.partition.RingsKept.{reached_kept}
use Rattle.ring_model.proofs.contents.PackedRuns.{runs_packed}
use Rattle.line_model.proofs.WrittenLines.{whole_lines_have_committed}
use Rattle.line_model.proofs.RunCalls.{line_runs_are_calls}

-- ---- one line

-- the ring of a CPU after a line: its writer has made the calls of the line if it is one of its own, else none
record Moved (script : Script) (command : Command) (cpu : ℕ) (lane : Lane) (after : World) : Type 0 where
  next : Lane
  next_is : slice_get after.lanes cpu ≡ Some next
  fit : HasPayloads next
  called : ((writer_line cpu command ≡ true)
      × (made : List Exchange)
      × LineCalls script.pages script.size script.start command (writer_of lane.core) lane.payloads made
      (writer_of next.core) next.payloads)
      ⊎ ((writer_line cpu command ≡ false)
      × (made : List Exchange)
      × NoCalls (writer_of lane.core) lane.payloads made (writer_of next.core) next.payloads)

module _ (script : Script) (line : ℕ) (before after : World) (kept : IsWorldKept script before) (cpu : ℕ) (lane : Lane)
    (at : slice_get before.lanes cpu ≡ Some lane) (fit : HasPayloads lane) where
  abbrev Here : Command → Type 0
  Here command = Moved script command cpu lane after

  -- another ring, or a collector
  elsewhere : (command : Command)
      → slice_get after.lanes cpu ≡ slice_get before.lanes cpu
      → writer_line cpu command ≡ false
      → Here command
  elsewhere command same not =
      record { next = lane; next_is = same ∙ at; fit = fit; called = inr (not, [], (refl, refl, refl)) }

  module _ (command : Command) (of : ℕ) (r : RunsLine script line command of before after) where
    apart : cpu ≢ of → slice_get after.lanes cpu ≡ slice_get before.lanes cpu
    apart ne = ap (λ (w : World). slice_get w.lanes cpu) r.after_is ∙ get_set_other before.lanes of cpu r.next ne

    module _ (e : cpu ≡ of) where
      own : r.lane ≡ lane
      own = some_is r.lane lane (sym r.lane_is ∙ ap (slice_get before.lanes) (sym e) ∙ at)

      own_run : LineRun script.pages script.size command lane r.exchanges r.next
      own_run = subst (λ (l : Lane). LineRun script.pages script.size command l r.exchanges r.next) own r.run

      next_at : slice_get after.lanes cpu ≡ Some r.next
      next_at = ap (λ (w : World). slice_get w.lanes cpu) r.after_is
          ∙ ap (slice_get (slice_set before.lanes of r.next)) e
          ∙ get_set_here before.lanes of r.next (slice_get_within before.lanes of r.lane r.lane_is)

      own_calls : IsCommandWithin script.cpus script.collectors command
          → (made : List Exchange)
          × LineCalls script.pages script.size script.start command (writer_of lane.core) lane.payloads made
          (writer_of r.next.core) r.next.payloads
      own_calls within =
          line_runs_are_calls script.pages script.size script.start script.cpus script.collectors command lane r.next
          r.exchanges (kept.reached cpu lane at) fit within own_run

      own_fit : HasPayloads r.next
      own_fit = line_fits script.pages script.size command lane r.next r.exchanges fit own_run

    -- a line of the writer
    by_writer : IsCommandWithin script.cpus script.collectors command
        → writer_line cpu command ≡ nat_eq of cpu
        → Here command
    by_writer within is = dite (ℕ_discrete cpu of)
        (λ e. record {
          next = r.next;
          next_is = next_at e;
          fit = own_fit e;
          called = let (made, calls) = own_calls e within in inl (is ∙ eq-eqb of cpu (sym e), made, calls);
        })
        (λ ne. elsewhere command (apart ne) (is ∙ ne_eqb of cpu (λ e. ne (sym e))))

    -- a line of the reader
    by_reader : (cpu ≡ of
        → (made : List Exchange)
        × NoCalls (writer_of lane.core) lane.payloads made (writer_of r.next.core) r.next.payloads)
        → writer_line cpu command ≡ false
        → Here command
    by_reader none not = dite (ℕ_discrete cpu of)
        (λ e.
        record {
          next = r.next;
          next_is = next_at e;
          fit = own_fit e;
          called = let (made, calls) = none e in inr (not, made, calls);
        })
        (λ ne. elsewhere command (apart ne) not)

  delivered : (collector of fill : ℕ)
      → DeliversFill line collector of fill before after
      → slice_get after.lanes cpu ≡ slice_get before.lanes cpu
  delivered collector of fill (delivers d) = ap (λ (w : World). slice_get w.lanes cpu) d.after_is
  delivered collector of fill (lacks d) = ap (λ (w : World). slice_get w.lanes cpu) d.after_is

  line_moves : (command : Command)
      → IsCommandWithin script.cpus script.collectors command
      → Obeys script line command before after
      → Here command
  line_moves (begin_frame of moment payload) within r = by_writer _ of r within refl
  line_moves (step_frame of count) within r = by_writer _ of r within refl
  line_moves (finish_frame of) within r = by_writer _ of r within refl
  line_moves (write of moment payload) within r = by_writer _ of r within refl
  line_moves (close of) within r = by_writer _ of r within refl
  line_moves (step_reader of count) within r = by_reader _ of r (λ e. own_calls _ of r e within) refl
  line_moves (take_page of) within r = by_reader _ of r (λ e. own_calls _ of r e within) refl
  line_moves (wish of) within r = by_reader _ of r (λ e. own_calls _ of r e within) refl
  line_moves (deliver collector of fill) within d = elsewhere _ (delivered collector of fill d) refl

-- ---- lines

record MadeLines (script : Script) (cpu : ℕ) (lines : List Command) (p : LineState) (lane : Lane) : Type 0 where
  events : List RingEvent
  reached : LineState
  parts : LineParts script.pages script.size (writer_lines cpu lines) p events reached
  between : IsBetweenLines script.pages reached lane.payloads (writer_of lane.core)

-- one line before others
module _ (script : Script) (cpu : ℕ) (command : Command) (lines : List Command) (p : LineState) (lane next last : Lane)
    (here : IsBetweenLines script.pages p lane.payloads (writer_of lane.core)) where
  line_made : ((q : LineState) → IsBetweenLines script.pages q next.payloads (writer_of next.core)
      → MadeLines script cpu lines q last)
      → ((writer_line cpu command ≡ true)
      × (made : List Exchange)
      × LineCalls script.pages script.size script.start command (writer_of lane.core) lane.payloads made
      (writer_of next.core) next.payloads)
      ⊎ ((writer_line cpu command ≡ false)
      × (made : List Exchange)
      × NoCalls (writer_of lane.core) lane.payloads made (writer_of next.core) next.payloads)
      → MadeLines script cpu (command ∷ lines) p last
  line_made on (inl (is, made, calls)) =
      let (front, q, part, there) =
      line_calls_make script.pages script.size script.start command (writer_of lane.core) lane.payloads made
      (writer_of next.core) next.payloads p here calls in
      let m = on q there in
      record {
        events = front ++ m.events;
        reached = m.reached;
        parts = subst (λ (b : Bool). LineParts script.pages script.size
            (if b then command ∷ writer_lines cpu lines else writer_lines cpu lines) p (front ++ m.events) m.reached)
            (sym is)
            (front, m.events, q, refl, part, m.parts);
        between = m.between;
      }
  line_made on (inr (not, made, (none, same, all))) =
      let m = on p
      (subst (λ (w : LineWriting). IsBetweenLines script.pages p next.payloads w) (sym same)
      (subst (λ (l : List (List ℕ)). IsBetweenLines script.pages p l (writer_of lane.core)) (sym all) here)) in
      record {
        events = m.events;
        reached = m.reached;
        parts = subst (λ (b : Bool). LineParts script.pages script.size
            (if b then command ∷ writer_lines cpu lines else writer_lines cpu lines) p m.events m.reached)
            (sym not) m.parts;
        between = m.between;
      }

lines_made : (script : Script) (lines : List (ℕ × Command)) (before after : World) (cpu : ℕ) (lane last : Lane)
    (p : LineState)
    → IsWorldKept script before
    → All (λ line. IsCommandWithin script.cpus script.collectors line.1) lines
    → ObeysAll script lines before after
    → slice_get before.lanes cpu ≡ Some lane
    → slice_get after.lanes cpu ≡ Some last
    → HasPayloads lane
    → IsBetweenLines script.pages p lane.payloads (writer_of lane.core)
    → MadeLines script cpu (commands_of lines) p last
lines_made script [] before after cpu lane last p kept within same at there fit here =
    let is : lane ≡ last = some_is lane last (sym at ∙ ap (λ (w : World). slice_get w.lanes cpu) same ∙ there) in
    record {
      events = [];
      reached = p;
      parts = (refl, refl);
      between = subst (λ (l : Lane). IsBetweenLines script.pages p l.payloads (writer_of l.core)) is here;
    }
lines_made script (line ∷ lines) before after cpu lane last p kept within (between, obeys, all) at there fit here =
    let m = line_moves script line.0 before between kept cpu lane at fit line.1 (within 0 line (omega arith)) obeys in
    line_made script cpu line.1 (commands_of lines) p lane m.next last here
    (λ q on. lines_made script lines between after cpu m.next last q
    (obeys_kept script line.0 line.1 before between kept obeys)
    (λ k d low. within (suc k) d (omega arith)) all m.next_is there m.fit on)
    m.called

-- ---- the whole

module _ (script : Script) (lines : List (ℕ × Command)) (w : World) (cpu : ℕ) (lane : Lane)
    (limits : IsWithinLimits script) where
  start_is : (first : Lane)
      → IsNewLane script.pages script.start first
      → IsBetweenLines script.pages (first_state script.start) first.payloads (writer_of first.core)
  start_is first new =
      let is : writer_of first.core ≡ first_writer script.start =
      (λ i. record {
        frames = new.0.frames i;
        history = new.0.history i;
        done = new.0.done i;
        opened = new.0.opened i;
      }) in
      subst (λ (v : LineWriting). IsBetweenLines script.pages (first_state script.start) first.payloads v) (sym is)
      (subst (λ (l : List (List ℕ)). IsBetweenLines script.pages (first_state script.start) l
      (first_writer script.start)) (sym new.1)
      (start_between script.pages script.start (let low = limits.min_pages in omega arith)))

  lane_made : All (λ line. IsCommandWithin script.cpus script.collectors line.1) lines
      → WorldBehind script lines w
      → slice_get w.lanes cpu ≡ Some lane
      → MadeLines script cpu (commands_of lines) (first_state script.start) lane
  lane_made within of at =
      let kept = world_kept script lines w limits of in
      let low : cpu < length of.new.lanes = let here = slice_get_within w.lanes cpu lane at in let count = kept.cpus in
      let new = of.is_new.cpus in omega arith in
      let first : Lane = get_or of.new.lanes cpu lane in
      let is_new : IsNewLane script.pages script.start first = of.is_new.new cpu lane low in
      lines_made script lines of.new w cpu first lane (first_state script.start)
      (new_kept script of.new limits of.is_new) within of.obeyed
      (slice_get-get_or of.new.lanes cpu lane low) at (new_fits script.pages script.start first is_new)
      (start_is first is_new)

  -- without a frame on the stack no parts as of `f` are needed
  begun_and_made : MadeLines script cpu (commands_of lines) (first_state script.start) lane
      → IsBegunByLines script.pages script.size script.start (writer_lines cpu (commands_of lines)) lane.core.history
      × (lane.core.frames ≡ []
      → IsMadeByLines script.pages script.size script.start (writer_lines cpu (commands_of lines)) lane.core.history)
  begun_and_made m = (
    record {
      events = m.events;
      after = m.reached;
      parts = m.parts;
      history_is = sym m.between.agrees.history;
    },
    λ none. record {
      by_lines = m.events;
      behind = m.reached;
      parts = m.parts;
      count = 0;
      by_rest = [];
      last = m.reached;
      rest = (refl, refl);
      none_left =
          none_counted script.pages script.size m.reached lane.payloads (writer_of lane.core) m.between.agrees none;
      history_is = sym m.between.agrees.history;
    },
  )

pub replay_makes_lines : ReplayMakesLines
replay_makes_lines script lines w cpu lane limits within of at =
    begun_and_made script lines w cpu lane limits (lane_made script lines w cpu lane limits within of at)

pub worlds_make_lines : WorldsMakeLines
worlds_make_lines script w cpu lane limits of at =
    replay_makes_lines script script.commands w cpu lane limits limits.each_command of at

pub replay_commits_whole_lines : ReplayCommitsWholeLines
replay_commits_whole_lines script lines w cpu lane limits within of at whole room =
    let reached = (world_kept script lines w limits of).reached cpu lane at in
    let kept = reached_kept script.pages script.size script.start lane.core reached in
    let (begun, made) = replay_makes_lines script lines w cpu lane limits within of at in
    whole_lines_have_committed script.pages script.size script.start (writer_lines cpu (commands_of lines))
    lane.core.history limits.min_pages whole room kept.history.allowed
    (runs_packed script.pages script.size script.start lane.core kept) begun
