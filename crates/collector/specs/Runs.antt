-- The missing numbers of a CPU, and those of which nothing is known, as runs.
use Rattle.std.specs.Prelude.{ℕ, zero, suc, ◌+◌, ◌-◌, ◌<◌, Bool, true, false, not, cond, eqb, leb, ltb, ◌&&◌, ◌||◌}
use Rattle.std.specs.Prelude.{is_some, List, [], ◌∷◌, Option, Some, None}
use Rattle.trace_model.specs.Parcel.{Parcel}
use Rattle.trace_model.specs.Collection.{Misses}
pub use Rattle.trace_model.specs.Runs.{InRun, AreRuns}
use Rattle.trace_model.specs.declared.numbers.RecordNo.{RecordNo}
use Rattle.collector.specs.declared.kinds.Kind.{Kind}
use Rattle.collector.specs.declared.kinds.Kind.TheVariants.{Missing as MissingKind, Unknown as UnknownKind}
use Rattle.collector.specs.declared.ranges.Content.{Content}
use Rattle.collector.specs.declared.ranges.Content.TheVariants.{Kept, Missing}
use Rattle.collector.specs.Shown.{IsUnknown}
use Rattle.collector.specs.Listed.{first_record}

-- the runs of the numbers of a CPU that parcels miss
abbrev pub AreMissingRuns : List Parcel → ℕ → List (ℕ × ℕ) → Type 0
AreMissingRuns parcels cpu runs = AreRuns (Misses parcels cpu) runs

-- nothing is known of the number, and it is below the end
pub record IsUnknownBelow (parcels : List Parcel) (cpu end number : ℕ) : Type 0 where
  pub unknown : IsUnknown parcels cpu number
  pub below : number < end

-- the runs of the numbers of a CPU below the end of which nothing is known
abbrev pub AreUnknownRuns : List Parcel → (cpu end : ℕ) → List (ℕ × ℕ) → Type 0
AreUnknownRuns parcels cpu end runs = AreRuns (IsUnknownBelow parcels cpu end) runs

-- the number is of this kind
abbrev pub IsOfKind : Kind → List Parcel → (cpu number : ℕ) → Type 0
IsOfKind MissingKind parcels cpu number = Misses parcels cpu number
IsOfKind UnknownKind parcels cpu number = IsUnknown parcels cpu number

-- ---- the same, computed

-- the numbers of a pair
abbrev pub run_numbers : RecordNo × RecordNo → ℕ × ℕ
run_numbers run = (run.0.0, run.1.0)

-- whether some of the parcels misses the number
abbrev pub is_missed : List Parcel → ℕ → ℕ → Bool
is_missed [] cpu number = false
is_missed (p ∷ parcels) cpu number =
    (eqb cpu p.cpu && (leb p.first (number + p.missed) && ltb number p.first)) || is_missed parcels cpu number

-- whether nothing is known of the number
abbrev pub is_unknown : List Parcel → ℕ → ℕ → Bool
is_unknown parcels cpu number = not (is_some (first_record parcels cpu number) || is_missed parcels cpu number)

-- whether the number is of this kind
abbrev pub is_of_kind : Kind → List Parcel → ℕ → ℕ → Bool
is_of_kind MissingKind = is_missed
is_of_kind UnknownKind = is_unknown

-- whether numbers of which this is stated are of this kind
abbrev pub states_kind : Kind → Option Content → Bool
states_kind MissingKind None = false
states_kind MissingKind (Some (Kept index)) = false
states_kind MissingKind (Some Missing) = true
states_kind UnknownKind None = true
states_kind UnknownKind (Some content) = false

-- the runs with one number more, before all of them
abbrev pub with_number : ℕ → List (ℕ × ℕ) → List (ℕ × ℕ)
with_number number [] = (number, number) ∷ []
with_number number (run ∷ runs) =
    cond (eqb run.0 (suc number)) ((number, run.1) ∷ runs) ((number, number) ∷ run ∷ runs)

-- the runs of those of `count` numbers, from this one on, that pass the test
unfoldable pub runs_within : (ℕ → Bool) → ℕ → ℕ → List (ℕ × ℕ)
runs_within test number zero = []
runs_within test number (suc count) =
    cond (test number) (with_number number (runs_within test (suc number) count)) (runs_within test (suc number) count)

-- the runs of a CPU's numbers of this kind, from this number on and below the end
abbrev pub runs_from : Kind → List Parcel → (cpu number end : ℕ) → List (ℕ × ℕ)
runs_from kind parcels cpu number end = runs_within (is_of_kind kind parcels cpu) number (end - number)
