-- What holds between two lines of a script holds after one line more.
use Rattle.std.proofs.Common.{◌≡◌, ◌≢◌, ℕ, ◌+◌, ◌<◌, List, [], ◌∷◌, ◌++◌, length, get_or, take, Option, Some, refl, sym}
use Rattle.std.proofs.Common.{ap, ◌∙◌, subst, ⊎_elim, arith}
use Rattle.std.specs.Prelude.{Contains, All, IfSome, slice_set}
use Rattle.std.specs.List.{slice_get}
use Rattle.std.proofs.lemmas.Option.{slice_get_within, slice_get-get_or, get_or_from_slice_get}
use Rattle.std.proofs.lemmas.List.{length-set, map-append, take_more}
use Rattle.std.proofs.lemmas.List.Elements.{Contains-append_left, Contains-push, Contains-push_cases}
use mathlib.Core.Logic.{dite}
use native.Mathlib.Decide.{ℕ_discrete}
use Rattle.trace_model.specs.Parcel.{Parcel}
use Rattle.trace_model.specs.Collection.{IsSame, Agree}
use Rattle.trace_model.proofs.collections.Elements.{some_is}
use Rattle.trace_model.proofs.collections.Collections.{below_itself, below_below, below_both, same_itself, same_same}
use Rattle.trace_model.proofs.collections.Collections.{same_joined}
use Rattle.trace_model.proofs.collections.Joined.{joined_left, joined_below}
use Rattle.text_model.specs.Log as model
use Rattle.text_model.specs.Log.{no_page, delivery_line}
use Rattle.text_model.specs.Script.{Command, deliver, Script}
use Rattle.text_model.specs.ScriptLimits.{IsWithinLimits, IsCommandWithin}
use Rattle.world_model.specs.Log.{log_of}
use Rattle.world_model.specs.World.{World, parcels_of, IsFill, Brings, RunsLine, DeliversTaken, DeliversNothing}
use Rattle.world_model.specs.World.{delivers, lacks}
use Rattle.world_model.proofs.Lookups.{get_set_here, get_set_other}
use Rattle.world_model.proofs.WorldsKept.{IsWorldKept, world_kept}
use Rattle.world_model.proofs.OneWorld.{lane_of, behind_next}
use Rattle.world_model.proofs.GenuineWorlds.{world_genuine, taken_agree}
use Rattle.collector.specs.declared.added.Added.{Added}
use Rattle.collector.specs.declared.added.Added.TheVariants.{New, Known}
use Rattle.script_replay.specs.declared.log.line.LogLine.{LogLine}
use Rattle.page_numbers.specs.Parcels.{as_parcels}
use Rattle.script_replay.specs.declared.replaying.ReplayState.{ReplayState}
use Rattle.script_replay.specs.log.LogTypes.{shown_log, shown_log_line}
use Rattle.script_replay.specs.Value.{LaneValue}
use Rattle.script_replay.specs.RingCommands.{IsOfRing, cpu_of}
use Rattle.script_replay.specs.Lanes.{IsReportedLane, HasLine}
use Rattle.script_replay.specs.LanesByCpu.{lane_at, AreSameBut, IsLaneFrom, IsLaneAt}
use Rattle.collector.specs.deliveries.Deliveries.{AreRising, Adds}
use Rattle.script_replay.specs.Collected.{HasParcel, delivery_of, IsCollected, AreCollected}
use Rattle.text_model.specs.Printing.{printed_log_line}
use Rattle.step_model.specs.RunTexts.{delivery_step_text}
use Rattle.script_replay.specs.Tells.{IsTextTold}
use Rattle.script_replay.specs.Replay.{IsNewText, IsStateAfter, IsReady, LeadsOn}
use Rattle.script_replay.proofs.StepsTold.{told_first, known_lane, told_ring, still_told, told_page, told_none}
use Rattle.script_replay.proofs.Placed.{from_is_lane, first_world, new_at, obeys_ring, place_rises, found_taken}
use Rattle.script_replay.proofs.Placed.{not_taken}

-- ---- the log

pub log_more : (log new : List LogLine) (line : LogLine) (reported : model.LogLine) → new ≡ log ++ line ∷ []
    → shown_log_line line ≡ reported → shown_log new ≡ shown_log log ++ reported ∷ []
log_more log new line reported more same =
    ap shown_log more ∙ map-append shown_log_line log (line ∷ [])
    ∙ ap (λ (l : model.LogLine). shown_log log ++ l ∷ []) same

-- ---- before the first line

none_collected : (kept parcels : List Parcel) → kept ≡ [] → parcels ≡ [] → IsCollected kept parcels
none_collected kept parcels none none' =
    subst (IsCollected kept) (none ∙ sym none') (record { same = same_itself kept; among = λ parcel has. has })

pub element : {A : Type 0} (P : A → Type 0) (xs : List A) (k : ℕ) (x : A) → All P xs → slice_get xs k ≡ Some x → P x
element P xs k x all at = subst P (get_or_from_slice_get xs k x x at) (all k x (slice_get_within xs k x at))

pub first_part_way : {T : Type 0} (script : Script) (state : ReplayState T) → IsWithinLimits script
    → state.lanes.items ≡ []
    → length state.collectors.items ≡ script.collectors → All (λ kept. kept ≡ []) state.collectors.items
    → state.reports.log ≡ [] → IfSome state.reports.steps (λ s. IsNewText script s) → IsStateAfter script [] state
first_part_way script state limits no_lanes count no_pages no_log text =
    let (w, new) = first_world script limits in
    record {
      world = w;
      behind = record { new = w; is_new = new; obeyed = refl };
      lanes_are = λ cpu lane at. let fresh = new_at script w new cpu lane at in rw no_lanes fresh;
      collectors_are = record {
        count = count ∙ sym new.collectors;
        each =
            λ k kept parcels at at'.
            none_collected kept parcels
            (element (λ (l : List Parcel). l ≡ []) state.collectors.items k kept no_pages at)
            (element (λ (l : List Parcel). l ≡ []) w.delivered k parcels new.none_delivered at');
      };
      log_is = ap shown_log no_log ∙ sym new.no_log;
      steps_are = told_first script w state.reports.steps new text;
    }

-- ---- between two lines

module _ {T : Type 0} (script : Script) (lines : List (ℕ × Command)) (state : ReplayState T)
    (limits : IsWithinLimits script)
    (part_way : IsStateAfter script lines state) where
  abbrev w : World
  w = part_way.world

  kept : IsWorldKept script part_way.world
  kept = world_kept script lines part_way.world limits part_way.behind

  pub is_reported_lane : (cpu : ℕ) (v : LaneValue) → cpu < script.cpus
      → IsLaneFrom script (lane_at state.lanes.items cpu) v → IsReportedLane cpu v state.reports
  is_reported_lane cpu v low from =
      let (lane, at) = lane_of script part_way.world kept cpu low in (
        script.pages,
        script.size,
        script.start,
        lane,
        from_is_lane script cpu (lane_at state.lanes.items cpu) v lane limits low from (part_way.lanes_are cpu lane at),
        known_lane script lines part_way.world state.reports.steps cpu lane part_way.steps_are at,
      )

  pub rises : (cpu : ℕ) → cpu < script.cpus
      → IfSome (lane_at state.lanes.items cpu) (λ v. AreRising (as_parcels v.taken))
  rises cpu low =
      let (lane, at) = lane_of script part_way.world kept cpu low in
      place_rises script part_way.world kept cpu lane at (lane_at state.lanes.items cpu)
      (part_way.lanes_are cpu lane at)

  pub collectors_count : length state.collectors.items ≡ script.collectors
  collectors_count = part_way.collectors_are.count ∙ kept.collectors

  pub found_page : (cpu fill : ℕ) (parcel : Parcel) → cpu < script.cpus
      → HasParcel (lane_at state.lanes.items cpu) fill parcel
      → Contains part_way.world.taken parcel × IsFill cpu fill parcel
  found_page cpu fill parcel low found =
      let (lane, at) = lane_of script part_way.world kept cpu low in
      found_taken script part_way.world kept cpu lane at (lane_at state.lanes.items cpu) fill parcel
      (part_way.lanes_are cpu lane at) found

  pub none_taken : (cpu fill : ℕ) → cpu < script.cpus
      → IfSome (lane_at state.lanes.items cpu) (λ v. All (λ parcel. parcel.fill ≢ fill) (as_parcels v.taken))
      → All (λ parcel. IsFill cpu fill parcel → ⊥) part_way.world.taken
  none_taken cpu fill low none =
      let (lane, at) = lane_of script part_way.world kept cpu low in
      not_taken script part_way.world kept cpu lane at (lane_at state.lanes.items cpu) fill
      (part_way.lanes_are cpu lane at) none

  -- what was delivered to a collector of these
  pub delivered_to : (collector : ℕ) (pages : List Parcel) → slice_get state.collectors.items collector ≡ Some pages
      → (delivered : List Parcel) × (slice_get part_way.world.delivered collector ≡ Some delivered)
      × IsCollected pages delivered
  delivered_to collector pages at =
      let low = slice_get_within state.collectors.items collector pages at in
      let count = part_way.collectors_are.count in
      let there : slice_get part_way.world.delivered collector ≡ Some (get_or part_way.world.delivered collector []) =
      slice_get-get_or part_way.world.delivered collector [] (omega arith) in (
        get_or part_way.world.delivered collector [],
        there,
        part_way.collectors_are.each collector pages (get_or part_way.world.delivered collector []) at there,
      )

  pub may_add : (cpu fill collector : ℕ) (pages : List Parcel) (parcel : Parcel) → cpu < script.cpus
      → HasParcel (lane_at state.lanes.items cpu) fill parcel → slice_get state.collectors.items collector ≡ Some pages
      → Agree (pages ++ parcel ∷ [])
  may_add cpu fill collector pages parcel low found at =
      let (delivered, delivered_at, collected) = delivered_to collector pages at in
      let genuine = world_genuine script lines part_way.world limits part_way.behind in
      taken_agree script part_way.world (pages ++ parcel ∷ []) genuine
      (λ p has. ⊎_elim (λ old. genuine.delivered collector delivered p delivered_at (collected.among p old))
      (λ is. subst (Contains part_way.world.taken) is (found_page cpu fill parcel low found).0)
      (Contains-push_cases pages parcel p has))

-- ---- a line of a ring

module _ {T : Type 0} (script : Script) (line cpu : ℕ) (command : Command) (old new : ReplayState T)
    (v after : LaneValue) (ring : IsOfRing command) (is : cpu_of command ≡ cpu)
    (limits : IsWithinLimits script)
    (low : cpu < script.cpus)
    (from : IsLaneFrom script (lane_at old.lanes.items cpu) v)
    (has : HasLine command line cpu v old.reports after new.reports)
    (placed : lane_at new.lanes.items cpu ≡ Some after)
    (others : AreSameBut cpu new.lanes.items old.lanes.items)
    (collectors : new.collectors.items ≡ old.collectors.items) where
  pub ring_leads : LeadsOn script (line, command) old new
  ring_leads = λ lines part_way.
      let kept : IsWorldKept script part_way.world = world_kept script lines part_way.world limits part_way.behind in
      let (lane, at) = lane_of script part_way.world kept cpu low in
      let is_lane =
      from_is_lane script cpu (lane_at old.lanes.items cpu) v lane limits low from
      (part_way.lanes_are cpu lane at) in
      let h = has script.pages script.size script.start lane is_lane
      (known_lane script lines part_way.world old.reports.steps cpu lane part_way.steps_are at) in
      let w : World = record {
        lanes = slice_set part_way.world.lanes cpu h.after;
        taken = part_way.world.taken ++ parcels_of cpu h.exchanges;
        delivered = part_way.world.delivered;
        log = part_way.world.log ++ log_of line cpu h.exchanges;
      } in
      let runs : RunsLine script line command cpu part_way.world w =
      record {
        lane = lane;
        lane_is = at;
        exchanges = h.exchanges;
        next = h.after;
        run = h.happened;
        after_is = refl;
      } in
      let here : IsLaneAt script cpu (lane_at new.lanes.items cpu) h.after =
      subst (λ (p : Option LaneValue). IsLaneAt script cpu p h.after) (sym placed) h.is_lane in (
        record {
          world = w;
          behind = behind_next script lines line command part_way.world w part_way.behind
              (obeys_ring script line cpu command part_way.world w ring is runs);
          lanes_are = λ other next next_at. dite (ℕ_discrete other cpu)
              (λ e. subst (λ (j : ℕ). IsLaneAt script j (lane_at new.lanes.items j) next) (sym e)
              (subst (IsLaneAt script cpu (lane_at new.lanes.items cpu))
              (some_is h.after next
              (sym (get_set_here part_way.world.lanes cpu h.after (slice_get_within part_way.world.lanes cpu lane at))
              ∙ subst (λ (j : ℕ). slice_get w.lanes j ≡ Some next) e next_at))
              here))
              (λ apart. subst (λ (p : Option LaneValue). IsLaneAt script other p next) (sym (others other apart))
              (part_way.lanes_are other next
              (sym (get_set_other part_way.world.lanes cpu other h.after apart) ∙ next_at)));
          collectors_are =
              subst (λ (l : List (List Parcel)). AreCollected l part_way.world.delivered) (sym collectors)
              part_way.collectors_are;
          log_is = h.reported.log ∙ ap (λ (l : List model.LogLine). l ++ log_of line cpu h.exchanges) part_way.log_is;
          steps_are =
              told_ring script lines line cpu command part_way.world w ring is runs old.reports.steps new.reports.steps
              h.reported.steps part_way.steps_are;
        },
        still_told script.pages script.size line cpu lane.core h.after.core h.exchanges old.reports.steps
            new.reports.steps h.reported.steps,
      )

-- ---- a delivery

brings : (added : Added) (kept delivered new : List Parcel) (parcel : Parcel) → IsSame kept delivered
    → Adds added kept parcel new → Brings delivered parcel (delivery_of added)
brings New kept delivered new parcel same (adds, is) =
    λ below. adds (below_below (parcel ∷ []) delivered kept below same.above)
brings Known kept delivered new parcel same (below, is) = below_below (parcel ∷ []) kept delivered below same.below

collected_more : (added : Added) (kept delivered new : List Parcel) (parcel : Parcel) → IsCollected kept delivered
    → Adds added kept parcel new → IsCollected new (delivered ++ parcel ∷ [])
collected_more New kept delivered new parcel collected (adds, is) =
    subst (λ (l : List Parcel). IsCollected l (delivered ++ parcel ∷ [])) (sym is) (record {
      same = same_joined kept (parcel ∷ []) delivered (parcel ∷ []) collected.same (same_itself (parcel ∷ []));
      among =
          λ p has.
          ⊎_elim (λ old. Contains-append_left delivered (parcel ∷ []) p (collected.among p old))
          (λ e. subst (Contains (delivered ++ parcel ∷ [])) e (Contains-push delivered parcel))
          (Contains-push_cases kept parcel p has);
    })
collected_more Known kept delivered new parcel collected (below, is) =
    subst (λ (l : List Parcel). IsCollected l (delivered ++ parcel ∷ [])) (sym is) (record {
      same = same_same kept (kept ++ parcel ∷ []) (delivered ++ parcel ∷ [])
          (below_both kept (kept ++ parcel ∷ []) (joined_left kept (parcel ∷ []))
          (joined_below kept (parcel ∷ []) kept (below_itself kept) below))
          (same_joined kept (parcel ∷ []) delivered (parcel ∷ []) collected.same (same_itself (parcel ∷ [])));
      among = λ p has. Contains-append_left delivered (parcel ∷ []) p (collected.among p has);
    })

module _ {T : Type 0} (script : Script) (line collector cpu fill : ℕ) (lines : List (ℕ × Command))
    (old new : ReplayState T)
    (limits : IsWithinLimits script)
    (low : cpu < script.cpus)
    (lanes : new.lanes.items ≡ old.lanes.items)
    (part_way : IsStateAfter script lines old) where
  pub untaken_line : IfSome (lane_at old.lanes.items cpu) (λ v. All (λ parcel. parcel.fill ≢ fill) (as_parcels v.taken))
      → new.collectors.items ≡ old.collectors.items
      → shown_log new.reports.log
      ≡ shown_log old.reports.log ++ delivery_line line collector cpu fill no_page ∷ []
      → IsTextTold (printed_log_line (delivery_line line collector cpu fill no_page)) old.reports.steps
      new.reports.steps
      → IsStateAfter script (lines ++ (line, deliver collector cpu fill) ∷ []) new
  untaken_line none collectors log told =
      let after : World =
      record part_way.world { log = part_way.world.log ++ delivery_line line collector cpu fill no_page ∷ [] } in
      let d : DeliversNothing line collector cpu fill part_way.world after =
      record { not_taken = none_taken script lines old limits part_way cpu fill low none; after_is = refl } in
      record {
        world = after;
        behind =
            behind_next script lines line (deliver collector cpu fill) part_way.world after part_way.behind (lacks d);
        lanes_are = λ other lane at. rw lanes (part_way.lanes_are other lane at);
        collectors_are =
            subst (λ (l : List (List Parcel)). AreCollected l part_way.world.delivered) (sym collectors)
            part_way.collectors_are;
        log_is =
            log
            ∙ ap (λ (l : List model.LogLine). l ++ delivery_line line collector cpu fill no_page ∷ [])
            part_way.log_is;
        steps_are = told_none script lines line collector cpu fill part_way.world after old.reports.steps
            new.reports.steps d told part_way.steps_are;
      }

  pub taken_line : (parcel : Parcel) (added : Added) (kept more : List Parcel)
      → HasParcel (lane_at old.lanes.items cpu) fill parcel
      → slice_get old.collectors.items collector ≡ Some kept
      → Adds added kept parcel more
      → new.collectors.items ≡ slice_set old.collectors.items collector more
      → shown_log new.reports.log
      ≡ shown_log old.reports.log ++ delivery_line line collector cpu fill (delivery_of added) ∷ []
      → IsTextTold (delivery_step_text line collector cpu fill (delivery_of added) parcel) old.reports.steps
      new.reports.steps
      → IsStateAfter script (lines ++ (line, deliver collector cpu fill) ∷ []) new
  taken_line parcel added kept more found kept_at adds collectors log told =
      let (delivered, at, collected) = delivered_to script lines old limits part_way collector kept kept_at in
      let (was_taken, fill_is) = found_page script lines old limits part_way cpu fill parcel low found in
      let pages : List Parcel = delivered ++ parcel ∷ [] in
      let after : World = record part_way.world {
        delivered = slice_set part_way.world.delivered collector pages;
        log = part_way.world.log ++ delivery_line line collector cpu fill (delivery_of added) ∷ [];
      } in
      let d : DeliversTaken line collector cpu fill part_way.world after = record {
        parcel = parcel;
        was_taken = was_taken;
        fill_is = fill_is;
        earlier = delivered;
        earlier_are = at;
        delivery = delivery_of added;
        brings = brings added kept delivered more parcel collected.same adds;
        after_is = refl;
      } in
      let more_collected : IsCollected more pages = collected_more added kept delivered more parcel collected adds in
      let each_collected : (k : ℕ) (one parcels : List Parcel)
      → slice_get (slice_set old.collectors.items collector more) k ≡ Some one
      → slice_get (slice_set part_way.world.delivered collector pages) k ≡ Some parcels → IsCollected one parcels =
      (λ k one parcels one_at parcels_at. dite (ℕ_discrete k collector)
      (λ e. let one_is : more ≡ one =
      some_is more one
      (sym (get_set_here old.collectors.items collector more
      (slice_get_within old.collectors.items collector kept kept_at))
      ∙ subst (λ (j : ℕ). slice_get (slice_set old.collectors.items collector more) j ≡ Some one) e one_at) in
      let parcels_are : pages ≡ parcels =
      some_is pages parcels
      (sym (get_set_here part_way.world.delivered collector pages
      (slice_get_within part_way.world.delivered collector delivered at))
      ∙ subst (λ (j : ℕ). slice_get (slice_set part_way.world.delivered collector pages) j ≡ Some parcels) e
      parcels_at) in
      subst (λ (l : List Parcel). IsCollected l parcels) one_is (subst (IsCollected more) parcels_are more_collected))
      (λ apart.
      part_way.collectors_are.each k one parcels
      (sym (get_set_other old.collectors.items collector k more apart) ∙ one_at)
      (sym (get_set_other part_way.world.delivered collector k pages apart) ∙ parcels_at))) in
      let all_collected : AreCollected (slice_set old.collectors.items collector more)
      (slice_set part_way.world.delivered collector pages) =
      record {
        count =
            length-set old.collectors.items collector more ∙ part_way.collectors_are.count
            ∙ sym (length-set part_way.world.delivered collector pages);
        each = each_collected;
      } in
      record {
        world = after;
        behind =
            behind_next script lines line (deliver collector cpu fill) part_way.world after part_way.behind
            (delivers d);
        lanes_are = λ other lane lane_is. rw lanes (part_way.lanes_are other lane lane_is);
        collectors_are =
            subst (λ (l : List (List Parcel)). AreCollected l (slice_set part_way.world.delivered collector pages))
            (sym collectors) all_collected;
        log_is =
            log
            ∙ ap (λ (l : List model.LogLine). l ++ delivery_line line collector cpu fill (delivery_of added) ∷ [])
            part_way.log_is;
        steps_are = told_page script lines line collector cpu fill part_way.world after old.reports.steps
            new.reports.steps d told part_way.steps_are;
      }

-- ---- one line more, of all

pub one_more : {T : Type 0} (script : Script) (commands : List (ℕ × Command)) (index : ℕ) (line : ℕ × Command)
    (old new : ReplayState T)
    → slice_get commands index ≡ Some line
    → commands ≡ script.commands
    → IsStateAfter script (take index script.commands) old
    → LeadsOn script line old new
    → IsStateAfter script (take (index + 1) script.commands) new
one_more script commands index line old new at same part_way leads =
    let there : slice_get script.commands index ≡ Some line =
    ap (λ (l : List (ℕ × Command)). slice_get l index) (sym same) ∙ at in
    let behind : take (index + 1) script.commands ≡ take index script.commands ++ line ∷ [] =
    take_more script.commands index line (slice_get_within script.commands index line there)
    ∙ ap (λ (l : ℕ × Command). take index script.commands ++ l ∷ [])
    (get_or_from_slice_get script.commands index line line there) in
    subst (λ (l : List (ℕ × Command)). IsStateAfter script l new) (sym behind)
    (leads (take index script.commands) part_way).0

pub may_obey : {T : Type 0} (script : Script) (commands : List (ℕ × Command)) (index : ℕ) (line : ℕ × Command)
    (state : ReplayState T)
    → IsWithinLimits script
    → slice_get commands index ≡ Some line
    → commands ≡ script.commands
    → IsStateAfter script (take index script.commands) state
    → IsReady script line.1 state
may_obey script commands index line state limits at same part_way = record {
  limits = limits;
  within =
      element (λ (l : ℕ × Command). IsCommandWithin script.cpus script.collectors l.1) script.commands index line
      limits.each_command (ap (λ (l : List (ℕ × Command)). slice_get l index) (sym same) ∙ at);
  lines = take index script.commands;
  part_way = part_way;
}
