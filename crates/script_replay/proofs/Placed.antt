-- The lanes of a world, between two lines of a script: each is the one in its CPU's place, and what was taken from its
-- ring rises by fill.
use Rattle.std.proofs.Common.{◌≡◌, ◌≢◌, ℕ, ◌<◌, ◌≤◌, List, [], get_or, map, replicate, Option, Some, None, refl, sym}
use Rattle.std.proofs.Common.{ap, ◌∙◌, subst, arith}
use Rattle.std.specs.Prelude.{Contains, All, IfSome, ◌==◌}
use Rattle.std.specs.List.{slice_get}
use Rattle.std.proofs.lemmas.Bool.{eq-eqb}
use Rattle.std.proofs.lemmas.Option.{slice_get_within, get_or_from_slice_get}
use Rattle.std.proofs.lemmas.List.{length-replicate}
use Rattle.std.proofs.lemmas.List.Elements.{All-contains, All-contains_itself, All-filter, All-map, All-replicate}
use Rattle.std.proofs.lemmas.List.Elements.{Contains-get_or}
use Rattle.trace_model.specs.Ring.{Reader}
use Rattle.trace_model.specs.Parcel.{Parcel}
use Rattle.text_model.specs.Script.{Script, Command, begin_frame, step_frame, finish_frame, write, close, step_reader}
use Rattle.text_model.specs.Script.{take_page, wish, deliver}
use Rattle.text_model.specs.ScriptLimits.{IsWithinLimits, IsCommandWithin}
use Rattle.ring_model.proofs.partition.OneNewRing.{new_ring_is_one}
use Rattle.ring_model.proofs.partition.RingsKept.{reached_kept}
use Rattle.world_model.specs.Lanes.{Lane, IsNewLane}
use Rattle.world_model.specs.World.{World, IsNewWorld, parcel_of, IsFill, RunsLine, Obeys}
use Rattle.world_model.specs.GenuineWorlds.{parcels_from}
use Rattle.world_model.proofs.Lookups.{element_at, contains_at, kept_by, get_from_map}
use Rattle.world_model.proofs.WorldsKept.{IsWorldKept}
use Rattle.page_numbers.specs.Parcels.{as_parcels}
use Rattle.script_replay.specs.Value.{LaneValue}
use Rattle.script_replay.specs.Lanes.{IsLane}
use Rattle.script_replay.specs.LanesByCpu.{IsLaneFrom, IsLaneAt}
use Rattle.collector.specs.deliveries.Deliveries.{AreRising}
use Rattle.script_replay.specs.Collected.{HasParcel}
use Rattle.script_replay.specs.RingCommands.{IsOfRing, cpu_of}

-- ---- new lanes

pub one_new_lane : (n start : ℕ) (a b : Lane) → 1 ≤ n → IsNewLane n start a → IsNewLane n start b → a ≡ b
one_new_lane n start a b some (s, none) (t, none') =
    let (ring, is_new, only) = new_ring_is_one n start some in
    let cores : a.core ≡ b.core = only a.core s ∙ sym (only b.core t) in
    λ i. record { core = cores i; payloads = (none ∙ sym none') i }

-- the value is the lane at the CPU, whether it was made before or is made now
pub from_is_lane : (script : Script) (cpu : ℕ) (place : Option LaneValue) (v : LaneValue) (lane : Lane)
    → IsWithinLimits script → cpu < script.cpus → IsLaneFrom script place v → IsLaneAt script cpu place lane
    → IsLane script.pages script.size script.start cpu v lane
from_is_lane script cpu None v lane limits low (new, is_new, each) at =
    let pages = limits.min_pages in let cpus = limits.max_cpus in
    subst (IsLane script.pages script.size script.start cpu v)
    (one_new_lane script.pages script.start new lane (omega arith) is_new at) (each cpu (omega arith))
from_is_lane script cpu (Some before) v lane limits low same at =
    subst (λ (x : LaneValue). IsLane script.pages script.size script.start cpu x lane) (sym same) at

-- ---- the world before the first line

pub first_world : (script : Script) → IsWithinLimits script → (w : World) × IsNewWorld script w
first_world script limits =
    let (ring, is_new, only) =
    new_ring_is_one script.pages script.start (let pages = limits.min_pages in omega arith) in
    let lane : Lane = record { core = ring; payloads = [] } in (
      record { lanes = replicate script.cpus lane; taken = []; delivered = replicate script.collectors []; log = [] },
      record {
        cpus = length-replicate script.cpus lane;
        new = All-replicate (IsNewLane script.pages script.start) script.cpus lane (is_new, refl);
        none_taken = refl;
        collectors = length-replicate script.collectors [];
        none_delivered = All-replicate (λ (parcels : List Parcel). parcels ≡ []) script.collectors [] refl;
        no_log = refl;
      },
    )

pub new_at : (script : Script) (w : World) → IsNewWorld script w → (cpu : ℕ) (lane : Lane)
    → slice_get w.lanes cpu ≡ Some lane → IsNewLane script.pages script.start lane
new_at script w new cpu lane at =
    subst (IsNewLane script.pages script.start) (get_or_from_slice_get w.lanes cpu lane lane at)
    (new.new cpu lane (slice_get_within w.lanes cpu lane at))

-- ---- a line of a ring

pub obeys_ring : (script : Script) (line cpu : ℕ) (command : Command) (before after : World)
    → IsOfRing command
    → cpu_of command ≡ cpu
    → RunsLine script line command cpu before after
    → Obeys script line command before after
obeys_ring script line cpu command before after ring is r =
    obeys command ring (subst (λ (k : ℕ). RunsLine script line command k before after) (sym is) r)
  where
    obeys : (command : Command)
        → IsOfRing command
        → RunsLine script line command (cpu_of command) before after
        → Obeys script line command before after
    obeys (begin_frame own moment payload) ring r = r
    obeys (step_frame own count) ring r = r
    obeys (finish_frame own) ring r = r
    obeys (write own moment payload) ring r = r
    obeys (close own) ring r = r
    obeys (step_reader own count) ring r = r
    obeys (take_page own) ring r = r
    obeys (wish own) ring r = r
    obeys (deliver collector own fill) ring r = absurd ring

pub ring_within : (cpus collectors : ℕ) (command : Command) → IsCommandWithin cpus collectors command
    → cpu_of command < cpus
ring_within cpus collectors (begin_frame cpu moment payload) within = within.0
ring_within cpus collectors (step_frame cpu count) within = within.0
ring_within cpus collectors (finish_frame cpu) within = within
ring_within cpus collectors (write cpu moment payload) within = within.0
ring_within cpus collectors (close cpu) within = within
ring_within cpus collectors (step_reader cpu count) within = within.0
ring_within cpus collectors (take_page cpu) within = within
ring_within cpus collectors (wish cpu) within = within
ring_within cpus collectors (deliver collector cpu fill) within = within.1

-- ---- what was taken

-- the pages that were taken from the ring in a place
abbrev pub taken_of : Option LaneValue → List Parcel
taken_of None = []
taken_of (Some lane) = as_parcels lane.taken

module _ (script : Script) (w : World) (kept : IsWorldKept script w) (cpu : ℕ) (lane : Lane)
    (lane_at : slice_get w.lanes cpu ≡ Some lane) where
  pub taken_at : (place : Option LaneValue) → IsLaneAt script cpu place lane → taken_of place ≡ parcels_from cpu w.taken
  taken_at None at =
      ap (λ (r : Reader). map (parcel_of cpu) r.taken) (sym at.0.reader) ∙ sym (kept.taken cpu lane lane_at)
  taken_at (Some v) at = at.taken_are ∙ sym (kept.taken cpu lane lane_at)

  rising : AreRising (parcels_from cpu w.taken)
  rising j k earlier later low at_j at_k =
      let same = kept.taken cpu lane lane_at in
      let (p, p_at, p_is) =
      get_from_map (parcel_of cpu) lane.core.reader.taken j earlier
      (subst (λ (l : List Parcel). slice_get l j ≡ Some earlier) same at_j) in
      let (q, q_at, q_is) =
      get_from_map (parcel_of cpu) lane.core.reader.taken k later
      (subst (λ (l : List Parcel). slice_get l k ≡ Some later) same at_k) in
      let less : p.fill < q.fill =
      (reached_kept script.pages script.size script.start lane.core
      (kept.reached cpu lane lane_at)).partition.fills.rising
      j k p q low p_at q_at in
      let one : p.fill ≡ earlier.fill = ap (λ (x : Parcel). x.fill) p_is in
      let other : q.fill ≡ later.fill = ap (λ (x : Parcel). x.fill) q_is in
      omega arith

  pub place_rises : (place : Option LaneValue) → IsLaneAt script cpu place lane
      → IfSome place (λ v. AreRising (as_parcels v.taken))
  place_rises None at = tt
  place_rises (Some v) at = subst AreRising (sym (taken_at (Some v) at)) rising

  among : (parcel : Parcel) → Contains (parcels_from cpu w.taken) parcel → Contains w.taken parcel
  among parcel has =
      All-contains (Contains w.taken) (parcels_from cpu w.taken) parcel
      (All-filter (λ p. p.cpu == cpu) (Contains w.taken) w.taken (All-contains_itself w.taken)) has

  of_cpu : (parcel : Parcel) → Contains (parcels_from cpu w.taken) parcel → parcel.cpu ≡ cpu
  of_cpu parcel has =
      All-contains (λ p. p.cpu ≡ cpu) (map (parcel_of cpu) lane.core.reader.taken) parcel
      (All-map (λ p. p.cpu ≡ cpu) (parcel_of cpu) lane.core.reader.taken (λ k d low. refl))
      (subst (λ (l : List Parcel). Contains l parcel) (kept.taken cpu lane lane_at) has)

  pub found_taken : (place : Option LaneValue) (fill : ℕ) (parcel : Parcel) → IsLaneAt script cpu place lane
      → HasParcel place fill parcel → Contains w.taken parcel × IsFill cpu fill parcel
  found_taken None fill parcel at found = absurd found
  found_taken (Some v) fill parcel at (has, is) =
      let has' : Contains (parcels_from cpu w.taken) parcel =
      subst (λ (l : List Parcel). Contains l parcel) (taken_at (Some v) at) has in
      (among parcel has', (of_cpu parcel has', is))

  none_in : (place : Option LaneValue) (fill : ℕ)
      → IfSome place (λ v. All (λ parcel. parcel.fill ≢ fill) (as_parcels v.taken))
      → All (λ parcel. parcel.fill ≢ fill) (taken_of place)
  none_in None fill none = λ k d low. absurd (omega arith)
  none_in (Some v) fill none = none

  pub not_taken : (place : Option LaneValue) (fill : ℕ) → IsLaneAt script cpu place lane
      → IfSome place (λ v. All (λ parcel. parcel.fill ≢ fill) (as_parcels v.taken))
      → All (λ parcel. IsFill cpu fill parcel → ⊥) w.taken
  not_taken place fill at none = λ k d low is.
      let parcel : Parcel = get_or w.taken k d in
      let (i, there) = element_at w.taken parcel (Contains-get_or w.taken k d low) in
      let (j, place_j) = kept_by (λ p. p.cpu == cpu) w.taken i parcel there (eq-eqb parcel.cpu cpu is.0) in
      let others : All (λ p. p.fill ≢ fill) (parcels_from cpu w.taken) =
      subst (All (λ p. p.fill ≢ fill)) (taken_at place at) (none_in place fill none) in
      All-contains (λ p. p.fill ≢ fill) (parcels_from cpu w.taken) parcel others
      (contains_at (parcels_from cpu w.taken) j parcel place_j) is.1
