-- The printing of a script's world is an account of it.
use Rattle.std.proofs.Common.{◌≡◌, ◌⊎◌, ℕ, zero, suc, ◌<◌, ◌≤◌, Bool, true, false, List, [], ◌∷◌, ◌++◌, length, map}
use Rattle.std.proofs.Common.{flat_map, Some, refl, sym, ap, ◌∙◌, subst, inl, inr, arith}
use Rattle.std.specs.Prelude.{Contains, slice_index_or, ◌↔◌, ◌==◌, if◌then◌else◌}
use Rattle.std.specs.List.{slice_get, AllZip}
use Rattle.std.proofs.lemmas.List.{length-map}
use Rattle.std.proofs.lemmas.Bool.{eq-eqb, eqb-true}
use mathlib.Core.Logic.{dite}
use native.Mathlib.Decide.{dec_le}
use Rattle.trace_model.specs.Record.{Record}
use Rattle.trace_model.specs.History.{HistoryEvent, committed_records}
use Rattle.trace_model.specs.Window.{RingEvent, history_events_of}
use Rattle.trace_model.specs.Parcel.{Parcel}
use Rattle.trace_model.specs.Collection.{Has, Misses}
use Rattle.trace_model.proofs.collections.Elements.{some_is}
use Rattle.ring_model.specs.RunsAsEvents.{fills_taken}
use Rattle.text_model.proofs.ReadLimits.{script_in-within}
use Rattle.text_model.specs.Text.{line_feed}
use Rattle.text_model.specs.Log.{LogLine}
use Rattle.text_model.specs.Printing.{printed_log_line}
use Rattle.text_model.specs.Script.{deliver, Script}
use Rattle.text_model.specs.ScriptLimits.{IsWithinLimits}
use Rattle.replay_command.proofs.OneOutput.{cases_given}
use Rattle.command_io.specs.CommandRun.{SourceRun, SinkRun, WritesOutput, IsCommandRun}
use Rattle.command_io.specs.declared.status.TheConstants.{DONE, REFUSED}
use Rattle.collector.specs.Runs.{AreRuns}
use Rattle.collector_text.specs.Prints.{IsPrintOf}
use Rattle.world_model.specs.World.{World, WorldOf, IsFill}
use Rattle.world_model.specs.GenuineWorlds.{StandsIn, IsOverwrittenBefore, parcels_from, IsOneOf, IsExact}
use Rattle.world_model.specs.GenuineWorlds.{IsGenuineWorld}
use Rattle.world_model.specs.Printing.{Shown, printed_collectors}
use Rattle.world_model.proofs.Lookups.{element_at, contains_at, get_map, get_from_map, kept_by}
use Rattle.world_model.proofs.KeptElements.{kept_from}
use Rattle.world_model.proofs.WorldsKept.{IsWorldKept, new_kept}
use Rattle.world_model.proofs.WorldsAt.{world_at, kept_at}
use Rattle.world_model.proofs.DeliveredLines.{IsHanded, handed_by_lines, hands_lines}
use Rattle.world_model.proofs.LostFills.{overwritten_same}
use Rattle.world_model.proofs.GenuineWorlds.{world_genuine}
use Rattle.line_model.specs.Accounts.{CpuState, new_cpu, IsAccount}
use Rattle.line_model.specs.Shown.{IsShownOf, IsAccounted}
use Rattle.line_model.proofs.AccountsOfWorlds.{states_behind, account_behind, taken_behind, last_reported}
use Rattle.line_model.proofs.LogLines.{log_lines, are_log_lines, log_printed}
use Rattle.replay_command.specs.Commands.{AccountGives, IsPrinting, PrintsReplay, PrintsFault, ReplayGives}

-- a parcel's CPU and fill
abbrev key_of : Parcel → ℕ × ℕ
key_of parcel = (parcel.cpu, parcel.fill)

abbrev keys_of : List Parcel → List (ℕ × ℕ)
keys_of parcels = map key_of parcels

-- of the same numbers the runs are the same
same_runs : (holds other : ℕ → Type 0) (runs : List (ℕ × ℕ)) → ((number : ℕ) → holds number ↔ other number)
    → AreRuns holds runs → AreRuns other runs
same_runs holds other runs both are = record {
  forward = are.forward;
  apart = are.apart;
  of_them = λ number within. (both number).0 (are.of_them number within);
  whole = λ number has. are.whole number ((both number).1 has);
}

module _ (script : Script) (w : World) (limits : IsWithinLimits script) (of : WorldOf script w)
    (genuine : IsGenuineWorld script w) where
  -- ---- the states of a CPU

  data Known (cpu : ℕ) : Type 0 where
    known : cpu < script.cpus → Known cpu
    unknown : script.cpus ≤ cpu → Known cpu

  known_at : (cpu : ℕ) → Known cpu
  known_at cpu = dite (dec_le (suc cpu) script.cpus) (λ low. known low) (λ high. unknown (omega (arith, high)))

  abbrev states_of : (cpu : ℕ) → Known cpu → ℕ → CpuState
  states_of cpu (known low) k = states_behind script w limits of cpu low k
  states_of cpu (unknown past) k = new_cpu script.start

  abbrev states : ℕ → ℕ → CpuState
  states cpu k = states_of cpu (known_at cpu) k

  -- in the end
  abbrev all_lines : ℕ
  all_lines = length script.commands

  abbrev all_of : (cpu : ℕ) → Known cpu → List RingEvent
  all_of cpu known_cpu = (states_of cpu known_cpu all_lines).events

  abbrev all_events : ℕ → List RingEvent
  all_events cpu = (states cpu all_lines).events

  account : (cpu : ℕ) (k : Known cpu) → cpu < script.cpus → IsAccount script cpu (states_of cpu k)
  account cpu (known low) below = account_behind script w limits of cpu low
  account cpu (unknown past) low = absurd (let no : ⊥ = omega (arith, past, low) in no)

  -- ---- what was delivered

  -- the world after a number of lines
  abbrev behind : ℕ → World
  behind k = world_at script script.commands of.new w of.obeyed k

  behind_kept : (k : ℕ) → IsWorldKept script (behind k)
  behind_kept k = kept_at script script.commands of.new w of.obeyed (new_kept script of.new limits of.is_new) k

  was_taken : (cpu : ℕ) (is_known : Known cpu) (k : ℕ) (parcel : Parcel) → parcel.cpu ≡ cpu
      → Contains (behind k).taken parcel
      → Contains (fills_taken script.start (states_of cpu is_known k).events) parcel.fill
  was_taken cpu (known low) k parcel is has =
      let (i, there) = element_at (behind k).taken parcel has in
      let (j, place) = kept_by (λ p. p.cpu == cpu) (behind k).taken i parcel there (eq-eqb parcel.cpu cpu is) in
      subst (λ (l : List ℕ). Contains l parcel.fill) (sym (taken_behind script w limits of cpu low k))
      (contains_at (map (λ p. p.fill) (parcels_from cpu (behind k).taken)) j parcel.fill
      (get_map (λ (p : Parcel). p.fill) (parcels_from cpu (behind k).taken) j parcel place))
  was_taken cpu (unknown past) k parcel is has =
      absurd (let low = (behind_kept k).of_a_cpu parcel has in let no : ⊥ = omega (arith, past, low, is) in no)

  none_in : (x : ℕ) → Contains [] x → ⊥
  none_in x (k, low, is) = omega (arith, low)

  -- a parcel of the fill was taken
  IsTaken : (cpu fill k : ℕ) → Type 0
  IsTaken cpu fill k = (parcel : Parcel) × Contains (behind k).taken parcel × IsFill cpu fill parcel

  taken_from : (cpu : ℕ) (is_known : Known cpu) (fill k : ℕ)
      → Contains (fills_taken script.start (states_of cpu is_known k).events) fill → IsTaken cpu fill k
  unfolding IsTaken
  taken_from cpu (known low) fill k has =
      let (j, at) =
      element_at (map (λ p. p.fill) (parcels_from cpu (behind k).taken)) fill
      (subst (λ (l : List ℕ). Contains l fill) (taken_behind script w limits of cpu low k) has) in
      let (parcel, there, is) = get_from_map (λ (p : Parcel). p.fill) (parcels_from cpu (behind k).taken) j fill at in
      let (i, place, passes) = kept_from (λ p. p.cpu == cpu) (behind k).taken j parcel there in
      (parcel, contains_at (behind k).taken i parcel place, (eqb-true parcel.cpu cpu passes, is))
  taken_from cpu (unknown past) fill k has = absurd (none_in fill has)

  -- a line delivers the fill, which was taken before
  abbrev IsHandedOver : (collector cpu fill : ℕ) → Type 0
  IsHandedOver collector cpu fill = (k line : ℕ)
      × (slice_get script.commands k ≡ Some (line, deliver collector cpu fill))
      × Contains (fills_taken script.start (states cpu k).events) fill

  handed : (collector : ℕ) (parcel : Parcel) → IsHanded script script.commands of.new w of.obeyed collector parcel
      → IsHandedOver collector parcel.cpu parcel.fill
  handed collector parcel (k, line, at, taken) =
      (k, line, at, was_taken parcel.cpu (known_at parcel.cpu) k parcel refl taken)

  is_delivered : (collector : ℕ) (own : List (ℕ × ℕ)) (cpu fill : ℕ)
      → slice_get (map keys_of w.delivered) collector ≡ Some own
      → Contains own (cpu, fill)
      → IsHandedOver collector cpu fill
  is_delivered collector own cpu fill own_at has =
      let (parcels, at, is) = get_from_map keys_of w.delivered collector own own_at in
      let (k, there) = element_at own (cpu, fill) has in
      let (parcel, parcel_at, same) =
      get_from_map key_of parcels k (cpu, fill)
      (subst (λ (l : List (ℕ × ℕ)). slice_get l k ≡ Some (cpu, fill)) (sym is) there) in
      subst (λ (key : ℕ × ℕ). IsHandedOver collector key.0 key.1) same
      (handed collector parcel
      (handed_by_lines script w collector parcels parcel of at (contains_at parcels k parcel parcel_at)))

  was_delivered : (collector : ℕ) (own : List (ℕ × ℕ)) (cpu fill : ℕ)
      → slice_get (map keys_of w.delivered) collector ≡ Some own
      → IsHandedOver collector cpu fill
      → Contains own (cpu, fill)
  unfolding IsTaken
  was_delivered collector own cpu fill own_at (k, line, at, has) =
      let (parcel, taken, is) = taken_from cpu (known_at cpu) fill k has in
      let (other, same, got) =
      hands_lines script script.commands of.new w of.obeyed k line collector cpu fill parcel at taken is in
      let (parcels, parcels_at, one) = got in
      let (i, place) = element_at parcels other one in
      let own_is : own ≡ keys_of parcels =
      some_is own (keys_of parcels) (sym own_at ∙ get_map keys_of w.delivered collector parcels parcels_at) in
      let key : key_of other ≡ (cpu, fill) = (λ i. (same.0 i, same.1 i)) in
      subst (λ (l : List (ℕ × ℕ)). Contains l (cpu, fill)) (sym own_is)
      (contains_at (keys_of parcels) i (cpu, fill)
      (get_map key_of parcels i other place ∙ ap (λ (x : ℕ × ℕ). Some x) key))

  -- ---- what is shown

  module _ (collector : ℕ) (parcels : List Parcel) (at_parcels : slice_get w.delivered collector ≡ Some parcels) where
    low : (cpu : ℕ) (parcel : Parcel) → parcel.cpu ≡ cpu → Contains parcels parcel → cpu < script.cpus
    low cpu parcel is has =
        subst (λ (j : ℕ). j < script.cpus) is
        (genuine.of_a_cpu parcel (genuine.delivered collector parcels parcel at_parcels has))

    key_in : (cpu : ℕ) (parcel : Parcel) → IsOneOf parcels cpu parcel → Contains (keys_of parcels) (cpu, parcel.fill)
    key_in cpu parcel (has, is) = let (k, at) = element_at parcels parcel has in
        subst (λ (j : ℕ). Contains (keys_of parcels) (j, parcel.fill)) is
        (contains_at (keys_of parcels) k (key_of parcel) (get_map key_of parcels k parcel at))

    key_of_one : (cpu fill : ℕ) → Contains (keys_of parcels) (cpu, fill)
        → (parcel : Parcel) × IsOneOf parcels cpu parcel × (parcel.fill ≡ fill)
    key_of_one cpu fill has =
        let (k, at) = element_at (keys_of parcels) (cpu, fill) has in
        let (parcel, there, same) = get_from_map key_of parcels k (cpu, fill) at in
        (parcel, (contains_at parcels k parcel there, ap (λ (p : ℕ × ℕ). p.0) same), ap (λ (p : ℕ × ℕ). p.1) same)

    -- what the collector has and misses of a CPU, by its events
    record IsOf (cpu : ℕ) (of_cpu : List RingEvent) : Type 0 where
      has : (number : ℕ) (r : Record)
          → Has parcels cpu number r
          ↔ ((slice_get (committed_records (history_events_of of_cpu)) number ≡ Some r)
          × (fill : ℕ)
          × Contains (keys_of parcels) (cpu, fill)
          × StandsIn (history_events_of of_cpu) script.start fill number)
      misses : (number : ℕ)
          → Misses parcels cpu number
          ↔ ((fill : ℕ)
          × Contains (keys_of parcels) (cpu, fill)
          × IsOverwrittenBefore script.start of_cpu fill number)

    is_of : (cpu : ℕ) (k : Known cpu) → IsOf cpu (all_of cpu k)
    is_of cpu (known below) =
        let (lane, at, reported) = last_reported script w limits of cpu below in
        let cut = genuine.cut cpu lane at in
        let here : List RingEvent = (states_behind script w limits of cpu below all_lines).events in
        let h : List HistoryEvent = history_events_of here in
        let e : IsExact h script.start cut.events cpu parcels parcels =
        subst (λ (l : List HistoryEvent). IsExact l script.start cut.events cpu parcels parcels)
        (sym reported.history_events) (genuine.exact collector cpu parcels lane at_parcels at) in
        record {
          has = λ number r. (
            λ there. let (committed, parcel, one, stands) = (e.has number r).0 there in
                (committed, parcel.fill, key_in cpu parcel one, stands),
            λ (committed, fill, key, stands). let (parcel, one, is) = key_of_one cpu fill key in
                (e.has number r).1
                (committed, parcel, one, subst (λ (f : ℕ). StandsIn h script.start f number) (sym is) stands),
          );
          misses = λ number. (
            λ there. let (parcel, one, over) = (e.misses number).0 there in (
              parcel.fill,
              key_in cpu parcel one,
              overwritten_same script.pages script.start lane.core cut.events here cut.reported reported parcel.fill
                  number over,
            ),
            λ (fill, key, over). let (parcel, one, is) = key_of_one cpu fill key in
                (e.misses number).1 (
                  parcel,
                  one,
                  subst (λ (f : ℕ). IsOverwrittenBefore script.start cut.events f number) (sym is)
                      (overwritten_same script.pages script.start lane.core here cut.events reported cut.reported fill
                      number over),
                ),
          );
        }
    is_of cpu (unknown past) =
        let none : (parcel : Parcel) → parcel.cpu ≡ cpu → Contains parcels parcel → ⊥ =
        λ parcel is has. (let below = low cpu parcel is has in omega (arith, past, below)) in
        record {
          has = λ number r. (
            λ there.
                absurd
                (none there.parcel (sym there.pair.cpu_is)
                (contains_at parcels there.index there.parcel there.at)),
            λ (committed, fill, key, stands). let (parcel, one, is) = key_of_one cpu fill key in
                absurd (none parcel one.1 one.0),
          );
          misses = λ number. (
            λ there.
                absurd
                (none there.parcel (sym there.missing.cpu_is)
                (contains_at parcels there.index there.parcel there.at)),
            λ (fill, key, over). let (parcel, one, is) = key_of_one cpu fill key in absurd (none parcel one.1 one.0),
          );
        }

    is_shown : (shown : Shown) → IsPrintOf parcels shown → IsShownOf script.start all_events (keys_of parcels) shown
    is_shown shown print = record {
      ordered = print.lines.ordered;
      lines = λ line. let here = is_of line.cpu (known_at line.cpu) in
          let r : Record = record { moment = line.moment; bytes = line.bytes } in (
            λ has. let (k, at) = element_at shown.lines line has in
                (here.has line.number r).0 (print.lines.of_them k line at),
            λ there. let (k, at) = print.lines.whole line.cpu line.number r ((here.has line.number r).1 there) in
                contains_at shown.lines k line at,
          );
      missing =
          λ cpu. same_runs _ _ (slice_index_or shown.runs cpu []) (is_of cpu (known_at cpu)).misses (print.runs cpu);
    }

  all_shown : (delivered : List (List Parcel)) (shown : List Shown)
      → ((k : ℕ) (parcels : List Parcel) → slice_get delivered k ≡ Some parcels
      → (collector : ℕ) × (slice_get w.delivered collector ≡ Some parcels))
      → AllZip IsPrintOf delivered shown
      → AllZip (IsShownOf script.start all_events) (map keys_of delivered) shown
  all_shown [] [] places all = tt
  all_shown [] (s ∷ shown) places all = absurd all
  all_shown (d ∷ delivered) [] places all = absurd all
  all_shown (d ∷ delivered) (s ∷ shown) places all = let (collector, at) = places zero d refl in (
    is_shown collector d at s all.0,
    all_shown delivered shown (λ k parcels there. places (suc k) parcels there) all.1,
  )

-- the log before the collectors, as lines
same_log : (asked : Bool) (log : List LogLine) (rest : List ℕ)
    → (if asked then flat_map printed_log_line log else []) ++ rest
    ≡ (if asked then flat_map (λ line. line ++ line_feed ∷ []) (log_lines log) else []) ++ rest
same_log false log rest = refl
same_log true log rest = ap (λ (text : List ℕ). text ++ rest) (log_printed log)

pub accounted : (script : Script) (asked : Bool) (bytes : List ℕ) → IsWithinLimits script
    → IsPrinting script asked bytes → IsAccounted script asked bytes
accounted script asked bytes limits p =
    let w : World = p.world in
    let of : WorldOf script w = p.of_script in
    let genuine : IsGenuineWorld script w = world_genuine script script.commands w limits of in record {
      states = states script w limits of genuine;
      accounts = λ cpu low. account script w limits of genuine cpu (known_at script w limits of genuine cpu) low;
      fills = map keys_of w.delivered;
      collectors = length-map w.delivered keys_of ∙ genuine.collectors;
      delivered = λ collector cpu fill own at. (
        is_delivered script w limits of genuine collector own cpu fill at,
        was_delivered script w limits of genuine collector own cpu fill at,
      );
      shown = p.shown;
      each = all_shown script w limits of genuine w.delivered p.shown (λ k parcels at. (k, at)) p.reported;
      log = log_lines w.log;
      logged = are_log_lines w.log;
      printed = p.printed ∙ same_log asked w.log (printed_collectors p.shown);
    }

-- what `replay` gives with the status 0 is an account
case_accounted : (asked : Bool) (text bytes : List ℕ) (status : ℕ)
    → PrintsReplay asked text bytes status ⊎ PrintsFault text bytes status → status ≡ DONE
    → AccountGives asked text bytes status
case_accounted asked text bytes status (inl p) is =
    (p.script, p.spelled, accounted p.script asked bytes (script_in-within text p.script p.spelled) p.printing)
case_accounted asked text bytes status (inr f) is =
    absurd (let other : DONE ≡ REFUSED = sym is ∙ f.refused in let no : ⊥ = cc in no)

pub account_written : (asked : Bool) (source : SourceRun) (sink : SinkRun) (status : ℕ)
    → IsCommandRun (ReplayGives asked) source sink status → status ≡ DONE
    → WritesOutput (AccountGives asked) source.unread source.left sink.contents sink.contents_after status
account_written asked source sink status run is =
    let (bytes, output, written) = run.finished (inl is) in
    let (text, read, at_end, limited, given) = output in (
      bytes,
      (
        text,
        read,
        at_end,
        limited,
        case_accounted asked text bytes status (cases_given asked text bytes status given) is,
      ),
      written,
    )
