-- The world of a script has an account of each CPU.
use Rattle.std.proofs.Common.{◌≡◌, ◌≢◌, ℕ, zero, suc, ◌<◌, List, [], ◌∷◌, length, map, Some, refl, sym, ap, ◌∙◌, subst}
use Rattle.std.proofs.Common.{⊎_elim, arith}
use Rattle.std.specs.Prelude.{All}
use Rattle.std.specs.List.{slice_get}
use Rattle.std.proofs.lemmas.Option.{none-some, slice_get_within, slice_get_cases, get_or_from_slice_get}
use mathlib.Core.Logic.{dite}
use native.Mathlib.Decide.{ℕ_discrete}
use Rattle.trace_model.specs.Window.{first_window}
use Rattle.trace_model.specs.Frames.{Frame}
use Rattle.trace_model.specs.Ring.{TakenFill, Reader, window_of}
use Rattle.trace_model.specs.Parcel.{Parcel}
use Rattle.trace_model.proofs.collections.Elements.{some_is}
use Rattle.text_model.specs.Script.{Command, begin_frame, step_frame, finish_frame, write, close, step_reader}
use Rattle.text_model.specs.Script.{take_page, wish, deliver, Script}
use Rattle.text_model.specs.ScriptLimits.{IsCommandWithin, IsWithinLimits}
use Rattle.ring_model.specs.Reached.{IsReached}
use Rattle.ring_model.specs.RunsAsEvents.{fills_taken, numbers_of, AreEventsOfRun}
use Rattle.world_model.specs.Lanes.{Lane, IsNewLane}
use Rattle.world_model.specs.World.{World, parcel_of, RunsLine, DeliversFill, delivers, lacks, Obeys, ObeysAll, WorldOf}
use Rattle.world_model.specs.GenuineWorlds.{parcels_from}
use Rattle.world_model.proofs.Lookups.{get_set_here, get_set_other}
use Rattle.world_model.proofs.LanePayloads.{new_fits}
use Rattle.world_model.proofs.WorldsKept.{IsWorldKept, new_kept}
use Rattle.world_model.proofs.WorldsAt.{other_lines, second_world, others_obeyed, world_at, kept_at, world_last}
use Rattle.line_model.specs.LineParts.{AreForRecords}
use Rattle.line_model.specs.Accounts.{CpuState, new_cpu, IsLine, IsAccount}
use Rattle.line_model.proofs.Standing.{FramesStand, take_of, Stands}
use Rattle.line_model.proofs.RecordsStand.{HasRecords, line_records}
use Rattle.line_model.proofs.LinesStand.{IsOn, NotOn, no_line, line_stands}

-- ---- one line

module _ (script : Script) (cpu : ℕ) where
  -- the ring of the CPU in a world, beside that CPU in an account
  record Beside (w : World) : Type 0 where
    state : CpuState
    lane : Lane
    at : slice_get w.lanes cpu ≡ Some lane
    stands : Stands script lane state
    for_records : HasRecords lane

  -- what a line makes of it
  record Goes (command : Command) (after : World) (state : CpuState) : Type 0 where
    next : Beside after
    line : IsLine script cpu command state next.state

module _ (script : Script) (cpu : ℕ) where
  module _ (w after : World) (here : Beside script cpu w) where
    -- another ring, or a collector
    elsewhere : (command : Command)
        → NotOn cpu command
        → slice_get after.lanes cpu ≡ slice_get w.lanes cpu
        → Goes script cpu command after here.state
    elsewhere command apart same = record {
      next = record {
        state = here.state;
        lane = here.lane;
        at = same ∙ here.at;
        stands = here.stands;
        for_records = here.for_records;
      };
      line = no_line script cpu command here.state apart;
    }

    ring_goes : (line : ℕ) (command : Command)
        → RunsLine script line command cpu w after
        → IsOn cpu command
        → IsCommandWithin script.cpus script.collectors command
        → Goes script cpu command after here.state
    ring_goes line command r on within =
        let is : here.lane ≡ r.lane = some_is here.lane r.lane (sym here.at ∙ r.lane_is) in
        let are : HasRecords r.lane = subst HasRecords is here.for_records in
        let s = line_stands script cpu r.lane r.next here.state
        (subst (λ (l : Lane). Stands script l here.state) is here.stands) are r.exchanges command on within r.run in
        record {
          next = record {
            state = s.after;
            lane = r.next;
            at = ap (λ (v : World). slice_get v.lanes cpu) r.after_is
                ∙ get_set_here w.lanes cpu r.next (slice_get_within w.lanes cpu r.lane r.lane_is);
            stands = s.stands;
            for_records = line_records script.pages script.size command r.lane r.next r.exchanges r.run are;
          };
          line = s.line;
        }

    ringed : (line : ℕ) (command : Command) (of : ℕ)
        → RunsLine script line command of w after
        → IsCommandWithin script.cpus script.collectors command
        → (of ≡ cpu → IsOn cpu command)
        → (of ≢ cpu → NotOn cpu command)
        → Goes script cpu command after here.state
    ringed line command of r within on off = dite (ℕ_discrete of cpu)
        (λ e. ring_goes line command (subst (λ (j : ℕ). RunsLine script line command j w after) e r) (on e) within)
        (λ apart. elsewhere command (off apart)
        (ap (λ (v : World). slice_get v.lanes cpu) r.after_is
        ∙ get_set_other w.lanes of cpu r.next (λ e. apart (sym e))))

    delivered : (line collector of fill : ℕ)
        → DeliversFill line collector of fill w after
        → slice_get after.lanes cpu ≡ slice_get w.lanes cpu
    delivered line collector of fill (delivers d) = ap (λ (v : World). slice_get v.lanes cpu) d.after_is
    delivered line collector of fill (lacks d) = ap (λ (v : World). slice_get v.lanes cpu) d.after_is

    line_goes : (line : ℕ) (command : Command)
        → IsCommandWithin script.cpus script.collectors command
        → Obeys script line command w after
        → Goes script cpu command after here.state
    line_goes line (begin_frame of moment payload) within r = ringed line _ of r within (λ e. e) (λ ne. ne)
    line_goes line (step_frame of count) within r = ringed line _ of r within (λ e. e) (λ ne. ne)
    line_goes line (finish_frame of) within r = ringed line _ of r within (λ e. e) (λ ne. ne)
    line_goes line (write of moment payload) within r = ringed line _ of r within (λ e. e) (λ ne. ne)
    line_goes line (close of) within r = ringed line _ of r within (λ e. e) (λ ne. ne)
    line_goes line (step_reader of count) within r = ringed line _ of r within (λ e. e) (λ ne. ne)
    line_goes line (take_page of) within r = ringed line _ of r within (λ e. e) (λ ne. ne)
    line_goes line (wish of) within r = ringed line _ of r within (λ e. e) (λ ne. ne)
    line_goes line (deliver collector of fill) within d = elsewhere _ tt (delivered line collector of fill d)

  -- ---- lines

  abbrev AreWithin : List (ℕ × Command) → Type 0
  AreWithin lines = All (λ line. IsCommandWithin script.cpus script.collectors line.1) lines

  first_within : (line : ℕ × Command) (lines : List (ℕ × Command))
      → AreWithin (line ∷ lines)
      → IsCommandWithin script.cpus script.collectors line.1
  first_within line lines within = within 0 line (omega arith)

  abbrev others_within : (lines : List (ℕ × Command)) → AreWithin lines → AreWithin (other_lines lines)
  others_within [] within = within
  others_within (line ∷ lines) within = λ j d low. within (suc j) d (omega (arith, low))

  abbrev first_goes : (line : ℕ × Command) (lines : List (ℕ × Command)) (before after : World)
      → AreWithin (line ∷ lines)
      → (all : ObeysAll script (line ∷ lines) before after)
      → (a : Beside script cpu before)
      → Goes script cpu line.1 all.0 a.state
  first_goes line lines before after within all a =
      line_goes before all.0 a line.0 line.1 (first_within line lines within) all.1

  abbrev second_at : (lines : List (ℕ × Command)) (before after : World)
      → AreWithin lines
      → (all : ObeysAll script lines before after)
      → Beside script cpu before
      → Beside script cpu (second_world script lines before after all)
  second_at [] before after within all a = a
  second_at (line ∷ lines) before after within all a = (first_goes line lines before after within all a).next

  abbrev at_line : (lines : List (ℕ × Command)) (before after : World)
      → AreWithin lines
      → (all : ObeysAll script lines before after)
      → Beside script cpu before
      → (k : ℕ)
      → Beside script cpu (world_at script lines before after all k)
  at_line lines before after within all a zero = a
  at_line lines before after within all a (suc k) =
      at_line (other_lines lines) (second_world script lines before after all) after (others_within lines within)
      (others_obeyed script lines before after all) (second_at lines before after within all a) k

  line_leads : (lines : List (ℕ × Command)) (before after : World) (within : AreWithin lines)
      (all : ObeysAll script lines before after) (a : Beside script cpu before) (k line : ℕ) (command : Command)
      → slice_get lines k ≡ Some (line, command)
      → IsLine script cpu command (at_line lines before after within all a k).state
      (at_line lines before after within all a (suc k)).state
  line_leads [] before after within all a k line command at = absurd (none-some (line, command) at)
  line_leads (first ∷ lines) before after within all a zero line command at =
      let g = first_goes first lines before after within all a in
      subst (λ (c : ℕ × Command). IsLine script cpu c.1 a.state g.next.state) (some_is first (line, command) at) g.line
  line_leads (first ∷ lines) before after within all a (suc k) line command at =
      line_leads lines all.0 after (others_within (first ∷ lines) within) all.2
      (second_at (first ∷ lines) before after within all a) k line command at

-- ---- the whole

fills_of_parcels : (cpu : ℕ) (ts : List TakenFill)
    → numbers_of ts ≡ map (λ parcel. parcel.fill) (map (parcel_of cpu) ts)
fills_of_parcels cpu [] = refl
fills_of_parcels cpu (t ∷ ts) = ap (λ (l : List ℕ). t.fill ∷ l) (fills_of_parcels cpu ts)

-- a new ring
new_stands : (script : Script) (lane : Lane)
    → IsReached script.pages script.size script.start lane.core
    → IsNewLane script.pages script.start lane
    → Stands script lane (new_cpu script.start)
new_stands script lane reached new =
    let window : window_of lane.core ≡ first_window script.start =
    (λ i. record { head = new.0.head i; done = new.0.done i; opened = new.0.opened i }) in
    record {
      reached = reached;
      payloads = new_fits script.pages script.start lane new;
      run = record {
        history_events = sym new.0.history;
        window = sym window;
        took = sym (ap (λ (r : Reader). numbers_of r.taken) new.0.reader);
      };
      frames =
          subst (λ (frames : List Frame). FramesStand frames lane.payloads []) (sym new.0.frames)
          (subst (λ (l : List (List ℕ)). FramesStand [] l []) (sym new.1) tt);
      seen = sym (ap (λ (r : Reader). r.seen) new.0.reader);
      hint = sym (ap (λ (r : Reader). r.hint) new.0.reader);
      take = sym (ap (λ (r : Reader). take_of r.phase) new.0.reader);
      wish = sym new.0.wish;
    }

module _ (script : Script) (w : World) (limits : IsWithinLimits script) (of : WorldOf script w)
    (cpu : ℕ) (low : cpu < script.cpus) where
  first_kept : IsWorldKept script of.new
  first_kept = new_kept script of.new limits of.is_new

  has_new : (lane : Lane) × (slice_get of.new.lanes cpu ≡ Some lane) × IsNewLane script.pages script.start lane
  has_new = ⊎_elim
      (λ (lane, within, at, is). (
        lane,
        at,
        subst (IsNewLane script.pages script.start) (get_or_from_slice_get of.new.lanes cpu lane lane at)
            (of.is_new.new cpu lane (slice_get_within of.new.lanes cpu lane at)),
      ))
      (λ (past, none).
      let count = of.is_new.cpus in absurd (let no : ⊥ = omega (arith, count, past, low) in no))
      (slice_get_cases of.new.lanes cpu).1

  -- before the first line
  abbrev first_at : Beside script cpu of.new
  first_at = record {
    state = new_cpu script.start;
    lane = has_new.0;
    at = has_new.1;
    stands = new_stands script has_new.0 (first_kept.reached cpu has_new.0 has_new.1) has_new.2;
    for_records = subst AreForRecords (sym has_new.2.0.frames) tt;
  }

  abbrev at_behind : (k : ℕ) → Beside script cpu (world_at script script.commands of.new w of.obeyed k)
  at_behind k = at_line script cpu script.commands of.new w limits.each_command of.obeyed first_at k

  -- the CPU after each number of lines
  pub states_behind : ℕ → CpuState
  states_behind k = (at_behind k).state

  pub account_behind : IsAccount script cpu states_behind
  unfolding states_behind
  account_behind = record {
    first = refl;
    lines = λ k line command at.
        line_leads script cpu script.commands of.new w limits.each_command of.obeyed first_at k line command at;
  }

  -- the fills that are taken so far are those of the parcels
  pub taken_behind : (k : ℕ)
      → fills_taken script.start (states_behind k).events
      ≡ map (λ parcel. parcel.fill) (parcels_from cpu (world_at script script.commands of.new w of.obeyed k).taken)
  unfolding states_behind
  taken_behind k =
      (at_behind k).stands.run.took
      ∙ fills_of_parcels cpu (at_behind k).lane.core.reader.taken
      ∙ ap (map (λ (parcel : Parcel). parcel.fill))
      (sym ((kept_at script script.commands of.new w of.obeyed first_kept k).taken cpu (at_behind k).lane
      (at_behind k).at))

  -- after all lines the events are those of the CPU's ring
  pub last_reported : (lane : Lane) × (slice_get w.lanes cpu ≡ Some lane)
      × AreEventsOfRun script.pages script.start lane.core (states_behind (length script.commands)).events
  unfolding states_behind
  last_reported = (
    (at_behind (length script.commands)).lane,
    subst (λ (v : World). slice_get v.lanes cpu ≡ Some (at_behind (length script.commands)).lane)
        (world_last script script.commands of.new w of.obeyed) (at_behind (length script.commands)).at,
    (at_behind (length script.commands)).stands.run,
  )

pub worlds_have_accounts : (script : Script) (w : World) (cpu : ℕ)
    → IsWithinLimits script
    → WorldOf script w
    → cpu < script.cpus
    → (states : ℕ → CpuState) × IsAccount script cpu states
    × (lane : Lane) × (slice_get w.lanes cpu ≡ Some lane)
    × AreEventsOfRun script.pages script.start lane.core (states (length script.commands)).events
worlds_have_accounts script w cpu limits of low =
    let (lane, at, are) = last_reported script w limits of cpu low in
    (states_behind script w limits of cpu low, account_behind script w limits of cpu low, lane, at, are)
