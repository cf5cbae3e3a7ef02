-- What every line of a script keeps of a world: its rings are rings that steps reach, and what was taken from each is
-- what its reader took.
use Rattle.std.proofs.Common.{◌≡◌, ◌≢◌, ℕ, ◌<◌, List, [], ◌∷◌, ◌++◌, length, map, Some, refl, sym, ap, ◌∙◌, subst}
use Rattle.std.proofs.Common.{⊎_elim, arith, append-nil}
use Rattle.std.specs.Prelude.{Contains, slice_set}
use Rattle.std.specs.List.{slice_get}
use Rattle.std.proofs.lemmas.Option.{slice_get_within, get_or_from_slice_get}
use Rattle.std.proofs.lemmas.List.{map-append, length-set}
use Rattle.std.proofs.lemmas.List.Elements.{filter-append, All-contains, All-map, Contains-append_left}
use Rattle.std.proofs.lemmas.List.Elements.{Contains-append_cases, Contains-push_cases}
use mathlib.Core.Logic.{dite}
use native.Mathlib.Decide.{ℕ_discrete}
use Rattle.trace_model.specs.Ring.{Reader, Core}
use Rattle.trace_model.specs.Steps.{Exchange, Run}
use Rattle.trace_model.specs.Parcel.{Parcel}
use Rattle.trace_model.proofs.collections.Elements.{some_is}
use Rattle.text_model.specs.Script.{Command, begin_frame, step_frame, finish_frame, write, close, step_reader}
use Rattle.text_model.specs.Script.{take_page, wish, deliver, Script}
use Rattle.text_model.specs.ScriptLimits.{IsWithinLimits}
use Rattle.ring_model.specs.Reached.{IsReached}
use Rattle.ring_model.proofs.partition.RingsKept.{reached_kept}
use Rattle.world_model.specs.Lanes.{Lane, IsNewLane}
use Rattle.world_model.specs.World.{World, IsNewWorld, parcel_of, parcels_of, RunsLine, DeliversTaken, DeliversNothing}
use Rattle.world_model.specs.World.{DeliversFill, delivers, lacks, Obeys, ObeysAll, WorldBehind}
use Rattle.world_model.specs.GenuineWorlds.{parcels_from}
use Rattle.world_model.proofs.Lookups.{get_set_here, get_set_other}
use Rattle.world_model.proofs.LineRuns.{line_run}
use Rattle.world_model.proofs.TakenPages.{taken_by, run_takes, parcels_of_is, all_of_cpu, none_of_cpu}

pub record IsWorldKept (script : Script) (w : World) : Type 0 where
  pub cpus : length w.lanes ≡ script.cpus
  pub collectors : length w.delivered ≡ script.collectors
  pub reached : (cpu : ℕ) (lane : Lane)
      → slice_get w.lanes cpu ≡ Some lane
      → IsReached script.pages script.size script.start lane.core
  pub taken : (cpu : ℕ) (lane : Lane)
      → slice_get w.lanes cpu ≡ Some lane
      → parcels_from cpu w.taken ≡ map (parcel_of cpu) lane.core.reader.taken
  pub of_a_cpu : (parcel : Parcel) → Contains w.taken parcel → parcel.cpu < script.cpus
  pub delivered : (collector : ℕ) (parcels : List Parcel) (parcel : Parcel)
      → slice_get w.delivered collector ≡ Some parcels
      → Contains parcels parcel
      → Contains w.taken parcel

-- ---- the start

has_none : {A : Type 0} {P : Type 0} (x : A) → Contains [] x → P
has_none x (k, low, is) = absurd (omega arith)

pub new_kept : (script : Script) (w : World) → IsWithinLimits script → IsNewWorld script w → IsWorldKept script w
new_kept script w limits new =
    let first : (cpu : ℕ) (lane : Lane) → slice_get w.lanes cpu ≡ Some lane → IsNewLane script.pages script.start lane =
    λ cpu lane at.
    subst (IsNewLane script.pages script.start) (get_or_from_slice_get w.lanes cpu lane lane at)
    (new.new cpu lane (slice_get_within w.lanes cpu lane at)) in
    record {
      cpus = new.cpus;
      collectors = new.collectors;
      reached = λ cpu lane at. record {
        from = lane.core;
        exchanges = [];
        may_start = record { some_pages = limits.min_pages; numbers_left = let high = limits.max_start in omega arith };
        is_new = (first cpu lane at).0;
        run = refl;
      };
      taken =
          λ cpu lane at.
          ap (parcels_from cpu) new.none_taken
          ∙ ap (λ (r : Reader). map (parcel_of cpu) r.taken) (sym (first cpu lane at).0.reader);
      of_a_cpu = λ parcel has. has_none parcel (subst (λ (l : List Parcel). Contains l parcel) new.none_taken has);
      delivered = λ collector parcels parcel at has. has_none parcel (subst (λ (l : List Parcel). Contains l parcel)
          (sym (get_or_from_slice_get w.delivered collector parcels parcels at)
          ∙ new.none_delivered collector parcels (slice_get_within w.delivered collector parcels at)) has);
    }

-- ---- a line of a ring

run_behind : (n size : ℕ) (c between after : Core) (xs ys : List Exchange) → Run n size c xs between
    → Run n size between ys after → Run n size c (xs ++ ys) after
run_behind n size c between after [] ys run rest = subst (λ (s : Core). Run n size s ys after) (sym run) rest
run_behind n size c between after (x ∷ xs) ys (next, step, run) rest =
    (next, step, run_behind n size next between after xs ys run rest)

pub reached_on : (n size start : ℕ) (c after : Core) (xs : List Exchange) → IsReached n size start c
    → Run n size c xs after → IsReached n size start after
reached_on n size start c after xs r run = record {
  from = r.from;
  exchanges = r.exchanges ++ xs;
  may_start = r.may_start;
  is_new = r.is_new;
  run = run_behind n size r.from c after r.exchanges xs r.run run;
}

module _ (script : Script) (line : ℕ) (command : Command) (cpu : ℕ) (before after : World)
    (kept : IsWorldKept script before) (r : RunsLine script line command cpu before after) where
  abbrev runs : Run script.pages script.size r.lane.core r.exchanges r.next.core
  runs = line_run script.pages script.size command r.lane r.next r.exchanges r.run

  abbrev lanes : List Lane
  lanes = slice_set before.lanes cpu r.next

  here : (lane : Lane) → slice_get lanes cpu ≡ Some lane → r.next ≡ lane
  here lane at =
      some_is r.next lane
      (sym (get_set_here before.lanes cpu r.next (slice_get_within before.lanes cpu r.lane r.lane_is)) ∙ at)

  there : (other : ℕ) (lane : Lane) → other ≢ cpu → slice_get lanes other ≡ Some lane
      → slice_get before.lanes other ≡ Some lane
  there other lane apart at = sym (get_set_other before.lanes cpu other r.next apart) ∙ at

  brought : (other : ℕ)
      → parcels_from other (before.taken ++ parcels_of cpu r.exchanges)
      ≡ parcels_from other before.taken ++ parcels_from other (map (parcel_of cpu) (taken_by r.exchanges))
  brought other =
      ap (λ (l : List Parcel). parcels_from other (before.taken ++ l)) (parcels_of_is cpu r.exchanges)
      ∙ filter-append _ before.taken (map (parcel_of cpu) (taken_by r.exchanges))

  taken_here : parcels_from cpu (before.taken ++ parcels_of cpu r.exchanges)
      ≡ map (parcel_of cpu) r.next.core.reader.taken
  taken_here = brought cpu
      ∙ (λ i. kept.taken cpu r.lane r.lane_is i ++ all_of_cpu cpu (taken_by r.exchanges) i)
      ∙ sym (map-append (parcel_of cpu) r.lane.core.reader.taken (taken_by r.exchanges))
      ∙ ap (map (parcel_of cpu))
      (sym (run_takes script.pages script.size script.start r.lane.core r.next.core r.exchanges
      (reached_kept script.pages script.size script.start r.lane.core (kept.reached cpu r.lane r.lane_is))
      runs))

  taken_there : (other : ℕ) (lane : Lane) → other ≢ cpu → slice_get lanes other ≡ Some lane
      → parcels_from other (before.taken ++ parcels_of cpu r.exchanges) ≡ map (parcel_of other) lane.core.reader.taken
  taken_there other lane apart at = brought other
      ∙ ap (λ (l : List Parcel). parcels_from other before.taken ++ l)
      (none_of_cpu other cpu (taken_by r.exchanges) (λ e. apart (sym e)))
      ∙ append-nil (parcels_from other before.taken)
      ∙ kept.taken other lane (there other lane apart at)

  within : cpu < script.cpus
  within = let low = slice_get_within before.lanes cpu r.lane r.lane_is in let count = kept.cpus in omega arith

  brought_of_cpu : (parcel : Parcel) → Contains (parcels_of cpu r.exchanges) parcel → parcel.cpu ≡ cpu
  brought_of_cpu parcel has =
      All-contains (λ p. p.cpu ≡ cpu) (map (parcel_of cpu) (taken_by r.exchanges)) parcel
      (All-map (λ p. p.cpu ≡ cpu) (parcel_of cpu) (taken_by r.exchanges) (λ k d low. refl))
      (subst (λ (l : List Parcel). Contains l parcel) (parcels_of_is cpu r.exchanges) has)

  line_kept : IsWorldKept script after
  line_kept = subst (IsWorldKept script) (sym r.after_is) record {
    cpus = length-set before.lanes cpu r.next ∙ kept.cpus;
    collectors = kept.collectors;
    reached = λ other lane at. dite (ℕ_discrete other cpu)
        (λ e.
        subst (λ (l : Lane). IsReached script.pages script.size script.start l.core)
        (here lane (subst (λ (j : ℕ). slice_get lanes j ≡ Some lane) e at))
        (reached_on script.pages script.size script.start r.lane.core r.next.core r.exchanges
        (kept.reached cpu r.lane r.lane_is) runs))
        (λ apart. kept.reached other lane (there other lane apart at));
    taken = λ other lane at. dite (ℕ_discrete other cpu)
        (λ e.
        subst
        (λ (j : ℕ).
        parcels_from j (before.taken ++ parcels_of cpu r.exchanges)
        ≡ map (parcel_of j) lane.core.reader.taken) (sym e)
        (subst
        (λ (l : Lane).
        parcels_from cpu (before.taken ++ parcels_of cpu r.exchanges) ≡ map (parcel_of cpu) l.core.reader.taken)
        (here lane (subst (λ (j : ℕ). slice_get lanes j ≡ Some lane) e at)) taken_here))
        (λ apart. taken_there other lane apart at);
    of_a_cpu =
        λ parcel has.
        ⊎_elim (λ old. kept.of_a_cpu parcel old)
        (λ new. subst (λ (j : ℕ). j < script.cpus) (sym (brought_of_cpu parcel new)) within)
        (Contains-append_cases before.taken (parcels_of cpu r.exchanges) parcel has);
    delivered =
        λ collector parcels parcel at has.
        Contains-append_left before.taken (parcels_of cpu r.exchanges) parcel
        (kept.delivered collector parcels parcel at has);
  }

-- ---- a delivery

module _ (script : Script) (line collector cpu fill : ℕ) (before after : World) (kept : IsWorldKept script before)
    (d : DeliversTaken line collector cpu fill before after) where
  abbrev delivered : List (List Parcel)
  delivered = slice_set before.delivered collector (d.earlier ++ d.parcel ∷ [])

  to_it : (parcels : List Parcel) → slice_get delivered collector ≡ Some parcels → d.earlier ++ d.parcel ∷ [] ≡ parcels
  to_it parcels at = some_is (d.earlier ++ d.parcel ∷ []) parcels
      (sym (get_set_here before.delivered collector (d.earlier ++ d.parcel ∷ [])
      (slice_get_within before.delivered collector d.earlier d.earlier_are)) ∙ at)

  to_collector : (parcels : List Parcel) (parcel : Parcel) → slice_get delivered collector ≡ Some parcels
      → Contains parcels parcel → Contains before.taken parcel
  to_collector parcels parcel at has =
      ⊎_elim (λ old. kept.delivered collector d.earlier parcel d.earlier_are old)
      (λ is. subst (Contains before.taken) is d.was_taken)
      (Contains-push_cases d.earlier d.parcel parcel
      (subst (λ (l : List Parcel). Contains l parcel) (sym (to_it parcels at)) has))

  taken_kept : IsWorldKept script after
  taken_kept = subst (IsWorldKept script) (sym d.after_is) record {
    cpus = kept.cpus;
    collectors = length-set before.delivered collector (d.earlier ++ d.parcel ∷ []) ∙ kept.collectors;
    reached = kept.reached;
    taken = kept.taken;
    of_a_cpu = kept.of_a_cpu;
    delivered = λ other parcels parcel at has. dite (ℕ_discrete other collector)
        (λ e. to_collector parcels parcel (subst (λ (j : ℕ). slice_get delivered j ≡ Some parcels) e at) has)
        (λ apart.
        kept.delivered other parcels parcel
        (sym (get_set_other before.delivered collector other (d.earlier ++ d.parcel ∷ []) apart) ∙ at) has);
  }

module _ (script : Script) (line collector cpu fill : ℕ) (before after : World) (kept : IsWorldKept script before) where
  nothing_kept : DeliversNothing line collector cpu fill before after → IsWorldKept script after
  nothing_kept d = subst (IsWorldKept script) (sym d.after_is) record {
    cpus = kept.cpus;
    collectors = kept.collectors;
    reached = kept.reached;
    taken = kept.taken;
    of_a_cpu = kept.of_a_cpu;
    delivered = kept.delivered;
  }

  fill_kept : DeliversFill line collector cpu fill before after → IsWorldKept script after
  fill_kept (delivers d) = taken_kept script line collector cpu fill before after kept d
  fill_kept (lacks d) = nothing_kept d

-- ---- the whole

pub obeys_kept : (script : Script) (line : ℕ) (command : Command) (before after : World) → IsWorldKept script before
    → Obeys script line command before after → IsWorldKept script after
obeys_kept script line (begin_frame cpu moment payload) before after kept r =
    line_kept script line _ cpu before after kept r
obeys_kept script line (step_frame cpu count) before after kept r = line_kept script line _ cpu before after kept r
obeys_kept script line (finish_frame cpu) before after kept r = line_kept script line _ cpu before after kept r
obeys_kept script line (write cpu moment payload) before after kept r = line_kept script line _ cpu before after kept r
obeys_kept script line (close cpu) before after kept r = line_kept script line _ cpu before after kept r
obeys_kept script line (step_reader cpu count) before after kept r = line_kept script line _ cpu before after kept r
obeys_kept script line (take_page cpu) before after kept r = line_kept script line _ cpu before after kept r
obeys_kept script line (wish cpu) before after kept r = line_kept script line _ cpu before after kept r
obeys_kept script line (deliver collector cpu fill) before after kept r =
    fill_kept script line collector cpu fill before after kept r

pub obeys_all_kept : (script : Script) (lines : List (ℕ × Command)) (before after : World) → IsWorldKept script before
    → ObeysAll script lines before after → IsWorldKept script after
obeys_all_kept script [] before after kept all = subst (IsWorldKept script) all kept
obeys_all_kept script (line ∷ lines) before after kept (between, obeys, all) =
    obeys_all_kept script lines between after (obeys_kept script line.0 line.1 before between kept obeys) all

pub world_kept : (script : Script) (lines : List (ℕ × Command)) (w : World) → IsWithinLimits script
    → WorldBehind script lines w → IsWorldKept script w
world_kept script lines w limits of =
    obeys_all_kept script lines of.new w (new_kept script of.new limits of.is_new) of.obeyed
