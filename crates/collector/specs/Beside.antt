-- What two collectors know of one number, side by side.
use Rattle.std.specs.Prelude.{◌≡◌, ℕ, ◌-◌, ◌^◌, ◌<◌, ◌≤◌, ◌↔◌, ◌⊎◌, List, Option, Some, None}
use Rattle.trace_model.specs.Record.{Record}
use Rattle.trace_model.specs.Parcel.{Parcel}
use Rattle.trace_model.specs.Collection.{Has, Misses, Agree}
use Rattle.collector.specs.declared.ranges.Content.{Content}
use Rattle.collector.specs.declared.ranges.Content.TheVariants.{Kept, Missing}
use Rattle.collector.specs.declared.beside.Beside.{Beside}
use Rattle.collector.specs.declared.beside.Both.{Both}
use Rattle.collector.specs.declared.beside.Beside.TheVariants.{Alike, Records, AtOdds, OneKnows}
use Rattle.collector.specs.Index.{IsIn}
use Rattle.collector.specs.Shown.{IsUnknown}
use Rattle.collector.specs.Known.{IsTaken, IsKnown}

abbrev pub pair_of : Option Content → Option Content → Beside
pair_of None None = Alike
pair_of None (Some content) = OneKnows
pair_of (Some content) None = OneKnows
pair_of (Some Missing) (Some Missing) = Alike
pair_of (Some Missing) (Some (Kept there)) = AtOdds
pair_of (Some (Kept here)) (Some Missing) = AtOdds
pair_of (Some (Kept here)) (Some (Kept there)) = Records here there

abbrev pub IsBeside : List Parcel → List Parcel → ℕ → ℕ → Beside → Type 0
IsBeside parcels others cpu number Alike = (IsUnknown parcels cpu number × IsUnknown others cpu number)
    ⊎ (Misses parcels cpu number × Misses others cpu number)
IsBeside parcels others cpu number (Records here there) = IsIn parcels here cpu number × IsIn others there cpu number
IsBeside parcels others cpu number AtOdds = (IsTaken parcels cpu number × Misses others cpu number)
    ⊎ (Misses parcels cpu number × IsTaken others cpu number)
IsBeside parcels others cpu number OneKnows =
    (IsUnknown parcels cpu number × IsKnown others cpu number)
    ⊎ (IsKnown parcels cpu number × IsUnknown others cpu number)

-- What was seen of the numbers from this one on, up to the end that is stated, in both collections.
pub record IsSeen (parcels others : List Parcel) (cpu number : ℕ) (both : Both) : Type 0 where
  pub shown : (n : ℕ) → number ≤ n → n < both.end → IsBeside parcels others cpu n both.beside
  pub goes_on : number < 2 ^ 64 - 1 → number < both.end
  pub up_to : both.end ≤ 2 ^ 64 - 1
  pub agree : Agree parcels
  pub others_agree : Agree others

-- both have and miss the same under the number
pub record IsSameAt (parcels others : List Parcel) (cpu number : ℕ) : Type 0 where
  pub has : (r : Record) → (Has parcels cpu number r ↔ Has others cpu number r)
  pub misses : Misses parcels cpu number ↔ Misses others cpu number

-- they aren't at odds under the number
pub record FitTogether (parcels others : List Parcel) (cpu number : ℕ) : Type 0 where
  pub one_record : (r other : Record) → Has parcels cpu number r → Has others cpu number other → r ≡ other
  pub not_missing : (r : Record) → Has parcels cpu number r → Misses others cpu number → ⊥
  pub not_taken : (r : Record) → Misses parcels cpu number → Has others cpu number r → ⊥
