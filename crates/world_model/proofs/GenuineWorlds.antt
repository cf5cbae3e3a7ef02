-- A world that its lines made is genuine.
use Rattle.std.proofs.Common.{◌≡◌, ℕ, List, [], ◌∷◌, ◌++◌, replicate, Some, refl, sym, ap, ◌∙◌, ⊎_elim}
use Rattle.std.specs.Prelude.{Contains}
use Rattle.std.specs.List.{slice_get}
use Rattle.std.proofs.lemmas.List.Elements.{Contains-append_cases}
use Rattle.std.proofs.lemmas.List.{length-replicate}
use Rattle.trace_model.specs.Record.{Record}
use Rattle.trace_model.specs.Partition.{Piece, IsPartition, first_of}
use Rattle.trace_model.specs.Parcel.{Parcel, IsGenuine, AreGenuine}
use Rattle.trace_model.specs.Collection.{Agree, IsLeastUpperBound}
use Rattle.trace_model.proofs.collections.Joined.{below_agrees, joined_least}
use Rattle.trace_model.proofs.collections.Collections.{below_more}
use Rattle.trace_model.proofs.collections.Genuine.{genuine_agree}
use Rattle.text_model.specs.Script.{Command, Script}
use Rattle.text_model.specs.ScriptLimits.{IsWithinLimits}
use Rattle.ring_model.specs.KeptPartition.{pieces_of}
use Rattle.ring_model.proofs.partition.RingsKept.{reached_kept}
use Rattle.world_model.specs.World.{World, WorldBehind}
use Rattle.world_model.specs.GenuineWorlds.{parcels_from, piece_in, pieces_in, IsGenuineWorld}
use Rattle.world_model.proofs.Lookups.{contains_at, get_map}
use Rattle.world_model.proofs.WorldsKept.{IsWorldKept, world_kept}
use Rattle.world_model.proofs.OneWorld.{taken_by_reader, lane_of}
use Rattle.world_model.proofs.Cuts.{pieces_same, is_cut, is_exact}

-- some records that pieces part
some_records : (pieces : List Piece) → (records : List Record) × IsPartition records pieces []
some_records [] = ([], refl)
some_records (p ∷ pieces) = let (behind, partition) = some_records pieces in
    let lost : List Record = replicate p.skipped record { moment = 0; bytes = [] } in
    (lost ++ (p.records ++ behind), (lost, behind, length-replicate p.skipped _, refl, partition))

-- genuine parcels agree, whatever their records are part of
pub genuine_parcels_agree : (parcels : List Parcel) (pieces : ℕ → List Piece) → AreGenuine parcels pieces
    → Agree parcels
genuine_parcels_agree parcels pieces genuine =
    genuine_agree (λ cpu. (some_records (pieces cpu)).0) pieces (λ cpu. []) parcels
    (λ cpu. (some_records (pieces cpu)).1) genuine

module _ (script : Script) (w : World) (kept : IsWorldKept script w) where
  is_genuine : (k : ℕ) (parcel : Parcel) → slice_get w.taken k ≡ Some parcel
      → IsGenuine parcel (pieces_in (parcels_from parcel.cpu w.taken))
  is_genuine k parcel at =
      let has = contains_at w.taken k parcel at in
      let (lane, lane_at) = lane_of script w kept parcel.cpu (kept.of_a_cpu parcel has) in
      let t = taken_by_reader script w kept parcel.cpu lane parcel lane_at refl has in
      let ring = reached_kept script.pages script.size script.start lane.core (kept.reached parcel.cpu lane lane_at) in
      let same : pieces_of lane.core.reader.taken ≡ pieces_in (parcels_from parcel.cpu w.taken) =
      pieces_same script.pages script.size script.start lane.core (kept.reached parcel.cpu lane lane_at) parcel.cpu
      lane.core.reader.taken ∙ ap pieces_in (sym (kept.taken parcel.cpu lane lane_at)) in
      record {
        index = t.index;
        piece_is = get_map piece_in (parcels_from parcel.cpu w.taken) t.index parcel t.in_place;
        first_is =
            ap (λ (l : List Piece). first_of l t.index) (sym same) ∙ ring.partition.firsts t.index t.page t.page_at
            ∙ ap (λ (p : Parcel). Some p.first) t.parcel_is;
      }

  pub kept_genuine : IsGenuineWorld script w
  kept_genuine = record {
    cpus = kept.cpus;
    collectors = kept.collectors;
    cut =
        λ cpu lane at.
        is_cut script.pages script.size script.start lane.core (kept.reached cpu lane at) cpu
        (parcels_from cpu w.taken) (kept.taken cpu lane at);
    of_a_cpu = kept.of_a_cpu;
    genuine = is_genuine;
    agree = genuine_parcels_agree w.taken (λ cpu. pieces_in (parcels_from cpu w.taken)) is_genuine;
    delivered = kept.delivered;
    exact =
        λ collector cpu parcels lane at_parcels at.
        is_exact script.pages script.size script.start lane.core (kept.reached cpu lane at) cpu parcels
        (λ parcel one. let t =
        taken_by_reader script w kept cpu lane parcel at one.1
        (kept.delivered collector parcels parcel at_parcels one.0) in
        record { index = t.index; taken_page = t.page; page_at = t.page_at; parcel_is = t.parcel_is });
  }

pub world_genuine : (script : Script) (lines : List (ℕ × Command)) (w : World) → IsWithinLimits script
    → WorldBehind script lines w → IsGenuineWorld script w
world_genuine script lines w limits of = kept_genuine script w (world_kept script lines w limits of)

-- ---- collectors

pub taken_agree : (script : Script) (w : World) (parcels : List Parcel) → IsGenuineWorld script w
    → ((parcel : Parcel) → Contains parcels parcel → Contains w.taken parcel) → Agree parcels
taken_agree script w parcels g were_taken = below_agrees parcels w.taken (below_more parcels w.taken were_taken) g.agree

pub collectors_join : (script : Script) (w : World) (one other : ℕ) (parcels others : List Parcel)
    → IsGenuineWorld script w → slice_get w.delivered one ≡ Some parcels → slice_get w.delivered other ≡ Some others
    → IsLeastUpperBound parcels others (parcels ++ others)
collectors_join script w one other parcels others g at at_other =
    joined_least parcels others (taken_agree script w (parcels ++ others) g
    (λ parcel has.
    ⊎_elim (λ h. g.delivered one parcels parcel at h) (λ h. g.delivered other others parcel at_other h)
    (Contains-append_cases parcels others parcel has)))
