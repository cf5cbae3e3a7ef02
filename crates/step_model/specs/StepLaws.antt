-- The laws of step texts, as statements: each is a clause of a function of src/laws.
use Rattle.std.specs.Prelude.{◌≡◌, ℕ, ◌+◌, ◌≤◌, ◌<◌, ◌⊎◌, ◌↔◌, List, [], ◌∷◌, ◌++◌, length}
use Rattle.trace_model.specs.Record.{Record}
use Rattle.trace_model.specs.Ring.{Core}
use Rattle.trace_model.specs.Steps.{Event, Answer, Step}
use Rattle.trace_model.specs.Parcel.{Parcel}
use Rattle.trace_model.specs.Collection.{Has, Misses}
use Rattle.text_model.specs.Log.{Delivery}
use Rattle.text_model.specs.Script.{Script}
use Rattle.text_model.specs.ScriptLimits.{IsWithinLimits}
use Rattle.ring_model.specs.Reached.{IsReached}
use Rattle.world_model.specs.World.{World, WorldOf, Brings}
use Rattle.step_model.specs.Seen.{RingSeen, ring_seen, all_assigned}
use Rattle.step_model.specs.Changes.{changes, all_keys}
use Rattle.step_model.specs.StepCounts.{CountsFollow}
use Rattle.step_model.specs.RunTexts.{Gain, has_run, misses_run, brought, IsStepText}

-- what a step prints, assigned to what was seen of the ring before it, is what is seen of it after it
abbrev pub ChangesLeadOn : Type 0
ChangesLeadOn = (n size start : ℕ) (before after : Core) (event : Event) (answer : Answer)
    → IsReached n size start before
    → Step n size before event answer after
    → all_assigned (changes (ring_seen before) (ring_seen after)) (ring_seen before) ≡ ring_seen after

-- all keys of a ring without frames, assigned to what is seen of any ring of as many pages, are what is seen of it
abbrev pub KeysAreAll : Type 0
KeysAreAll = (v w : RingSeen)
    → length v.links ≡ length w.links
    → length v.order ≡ length w.order
    → v.frames ≡ []
    → w.frames ≡ []
    → all_assigned (all_keys w) v ≡ w

-- what follows of the counts after each step
abbrev pub CountsFollowSteps : Type 0
CountsFollowSteps = (n size start : ℕ) (before after : Core) (event : Event) (answer : Answer)
    → IsReached n size start before
    → Step n size before event answer after
    → CountsFollow before answer after

-- ---- collectors

-- a record of this number
abbrev pub HasNumber : List Parcel → (cpu number : ℕ) → Type 0
HasNumber parcels cpu number = (r : Record) × Has parcels cpu number r

abbrev pub IsIn : (of first count cpu number : ℕ) → Type 0
IsIn of first count cpu number = (cpu ≡ of) × (first ≤ number) × (number < first + count)

-- the number is among those that a collector has from now on
abbrev pub GainsHas : List Gain → (cpu number : ℕ) → Type 0
GainsHas [] cpu number = ⊥
GainsHas (has_run of first count ∷ gains) cpu number = IsIn of first count cpu number ⊎ GainsHas gains cpu number
GainsHas (misses_run of first count ∷ gains) cpu number = GainsHas gains cpu number

-- or misses from now on
abbrev pub GainsMissing : List Gain → (cpu number : ℕ) → Type 0
GainsMissing [] cpu number = ⊥
GainsMissing (has_run of first count ∷ gains) cpu number = GainsMissing gains cpu number
GainsMissing (misses_run of first count ∷ gains) cpu number =
    IsIn of first count cpu number ⊎ GainsMissing gains cpu number

-- What is printed of a delivery, added to what the collector had and missed before, is what it has and misses after it.
abbrev pub GainsLeadOn : Type 0
GainsLeadOn = (earlier : List Parcel) (parcel : Parcel) (delivery : Delivery) (cpu number : ℕ)
    → parcel.missed ≤ parcel.first
    → Brings earlier parcel delivery
    → (HasNumber (earlier ++ parcel ∷ []) cpu number
    ↔ (HasNumber earlier cpu number ⊎ GainsHas (brought delivery parcel) cpu number))
    × (Misses (earlier ++ parcel ∷ []) cpu number
    ↔ (Misses earlier cpu number ⊎ GainsMissing (brought delivery parcel) cpu number))

-- ---- scripts

-- a step text is that of the script's world
abbrev pub TextsAreOfWorlds : Type 0
TextsAreOfWorlds =
    (script : Script) (after : World) (text : List ℕ) → IsStepText script after text → WorldOf script after

-- and there is one
abbrev pub TextsAreOne : Type 0
TextsAreOne = (script : Script) (after other : World) (text others : List ℕ)
    → IsWithinLimits script
    → IsStepText script after text
    → IsStepText script other others
    → text ≡ others
