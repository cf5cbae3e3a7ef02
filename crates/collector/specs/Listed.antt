-- The records of a CPU in a list, each with its number.
use Rattle.std.specs.Prelude.{◌≡◌, ℕ, zero, suc, ◌+◌, ◌-◌, ◌^◌, ◌<◌, ◌≤◌, cond, eqb, leb, ◌&&◌, List, [], ◌∷◌, Option}
use Rattle.std.specs.Prelude.{Some, None}
use Rattle.std.specs.List.{slice_get}
use Rattle.trace_model.specs.Record.{Record}
use Rattle.trace_model.specs.Parcel.{Parcel}
use Rattle.trace_model.specs.Collection.{Has}

-- The list has each number of which this holds once, with what belongs to it, and no other, in rising order.
pub record AreListed {X : Type 0} (holds : ℕ → X → Type 0) (list : List (ℕ × X)) : Type 0 where
  pub rising : (k : ℕ) (a b : ℕ × X)
      → slice_get list k ≡ Some a
      → slice_get list (suc k) ≡ Some b
      → a.0 < b.0
  pub of_them : (k : ℕ) (a : ℕ × X) → slice_get list k ≡ Some a → holds a.0 a.1
  pub whole : (number : ℕ) (x : X) → holds number x → (k : ℕ) × (slice_get list k ≡ Some (number, x))

-- the records that parcels have of a CPU
abbrev pub AreRecordsOf : List Parcel → ℕ → List (ℕ × Record) → Type 0
AreRecordsOf parcels cpu list = AreListed (Has parcels cpu) list

-- the parcels have this record of a CPU under the number, which isn't before `from`
pub record HasFrom (parcels : List Parcel) (cpu from number : ℕ) (r : Record) : Type 0 where
  pub has : Has parcels cpu number r
  pub up : from ≤ number

-- the records that parcels have of a CPU under this number and those after it
abbrev pub AreRecordsFrom : List Parcel → (cpu from : ℕ) → List (ℕ × Record) → Type 0
AreRecordsFrom parcels cpu from list = AreListed (HasFrom parcels cpu from) list

-- ---- the same, computed

-- the first of both that is there
abbrev pub first_there : {X : Type 0} → Option X → Option X → Option X
first_there None other = other
first_there (Some x) other = Some x

-- the record that a parcel has under a CPU and a number
abbrev pub record_under : Parcel → ℕ → ℕ → Option Record
record_under p cpu number = cond (eqb cpu p.cpu && leb p.first number) (slice_get p.records (number - p.first)) None

-- the one that the first of the parcels has that has one
abbrev pub first_record : List Parcel → ℕ → ℕ → Option Record
first_record [] cpu number = None
first_record (p ∷ parcels) cpu number = first_there (record_under p cpu number) (first_record parcels cpu number)

-- what belongs to a number, before others
abbrev pub with_found : {X : Type 0} → ℕ → Option X → List (ℕ × X) → List (ℕ × X)
with_found number None list = list
with_found number (Some x) list = (number, x) ∷ list

-- what belongs to `count` numbers, from this one on
unfoldable pub listed_within : {X : Type 0} → (ℕ → Option X) → ℕ → ℕ → List (ℕ × X)
listed_within find number zero = []
listed_within find number (suc count) = with_found number (find number) (listed_within find (suc number) count)

-- the records of a CPU from this number on
abbrev pub records_left : List Parcel → ℕ → ℕ → List (ℕ × Record)
records_left parcels cpu number = listed_within (first_record parcels cpu) number (2 ^ 64 - 1 - number)

-- ---- where a walk is

-- the entries continue with the records of this number and of all after it up to the end
abbrev pub GoOn : List Parcel → ℕ → List (ℕ × Record) → ℕ → ℕ → Type 0
GoOn parcels cpu entries number end = (k : ℕ) → number + k < end
    → (r : Record) × (slice_get entries k ≡ Some (number + k, r)) × (first_record parcels cpu (number + k) ≡ Some r)

-- so do these, if there are any
abbrev pub GoOnIfAny : List Parcel → ℕ → Option (List (ℕ × Record)) → ℕ → ℕ → Type 0
GoOnIfAny parcels cpu None number end = end ≤ number
GoOnIfAny parcels cpu (Some entries) number end = (end ≤ 2 ^ 64 - 1) × GoOn parcels cpu entries number end
