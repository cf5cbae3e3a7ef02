-- What is found among the pages that were taken, and what collectors keep of what was delivered to them.
use Rattle.std.specs.Prelude.{◌≡◌, ℕ, List, length, Option, Some, None, Contains}
use Rattle.std.specs.List.{slice_get}
use Rattle.trace_model.specs.Parcel.{Parcel}
use Rattle.trace_model.specs.Collection.{IsSame}
use Rattle.text_model.specs.Log.{Delivery, new_page, known_page}
use Rattle.page_numbers.specs.Parcels.{as_parcels}
use Rattle.collector.specs.declared.added.Added.{Added}
use Rattle.collector.specs.declared.added.Added.TheVariants.{New, Known}
use Rattle.script_replay.specs.Value.{LaneValue}

-- the parcel of this fill was taken from the ring of a lane
abbrev pub HasParcel : Option LaneValue → (fill : ℕ) → Parcel → Type 0
HasParcel None fill parcel = ⊥
HasParcel (Some lane) fill parcel = Contains (as_parcels lane.taken) parcel × (parcel.fill ≡ fill)

-- the outcome of a delivery, by what becomes of its parcel
abbrev pub delivery_of : Added → Delivery
delivery_of New = new_page
delivery_of Known = known_page

-- A collector keeps some of the parcels that were delivered to it, which have and miss together what all of them do.
pub record IsCollected (kept delivered : List Parcel) : Type 0 where
  pub same : IsSame kept delivered
  pub among : (parcel : Parcel) → Contains kept parcel → Contains delivered parcel

-- So it is of each collector.
pub record AreCollected (collectors delivered : List (List Parcel)) : Type 0 where
  pub count : length collectors ≡ length delivered
  pub each : (collector : ℕ) (kept parcels : List Parcel)
      → slice_get collectors collector ≡ Some kept
      → slice_get delivered collector ≡ Some parcels
      → IsCollected kept parcels
