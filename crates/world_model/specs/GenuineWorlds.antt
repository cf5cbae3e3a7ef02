-- What the headline of a replay (`IsHeadline` of script_replay, specs/Replay.antt) says of the pages: of each CPU, the
-- committed records of whole fills, under their own numbers, with exactly those numbers missing before them that were
-- overwritten unread.
use Rattle.std.specs.Prelude.{◌≡◌, ℕ, suc, ◌<◌, ◌≤◌, ◌==◌, ◌↔◌, List, length, map, filter, Contains, Some}
use Rattle.std.specs.List.{slice_get}
use Rattle.trace_model.specs.Record.{Record}
use Rattle.trace_model.specs.History.{HistoryEvent, IsHistory, as_record, committed_records}
use Rattle.trace_model.specs.Packing.{IsPacked, first_of_fill}
use Rattle.trace_model.specs.Partition.{Piece, IsPartition}
use Rattle.trace_model.specs.Parcel.{Parcel, IsMissingOf, AreGenuine}
use Rattle.trace_model.specs.Collection.{Has, Misses, Agree}
use Rattle.trace_model.specs.Ring.{Core, IsStart, fill_of}
use Rattle.trace_model.specs.Steps.{Exchange}
use Rattle.trace_model.specs.Window.{RingEvent, history_events_of}
use Rattle.ring_model.specs.RunsAsEvents.{fills_taken, fills_lost, AreEventsOfRun}
use Rattle.text_model.specs.Script.{Script}
use Rattle.world_model.specs.Lanes.{Lane}
use Rattle.world_model.specs.World.{World}
use Rattle.world_model.specs.RunEvents.{AreEventsOfSteps}

-- the parcels of a CPU, in their order
abbrev pub parcels_from : ℕ → List Parcel → List Parcel
parcels_from cpu parcels = filter (λ parcel. parcel.cpu == cpu) parcels

-- a parcel as a piece: what is missing before it, and its records
abbrev pub piece_in : Parcel → Piece
piece_in parcel = record { skipped = parcel.missed; records = parcel.records }

abbrev pub pieces_in : List Parcel → List Piece
pieces_in parcels = map piece_in parcels

-- The parcel is the whole of its fill: it has all of that fill's records and no others, under their own numbers.
pub record IsWholeFill (history : List HistoryEvent) (start : ℕ) (parcel : Parcel) : Type 0 where
  pub first_is : parcel.first ≡ (fill_of history start parcel.fill).first
  pub records_are : parcel.records ≡ map as_record (fill_of history start parcel.fill).records

-- The record of this number is in this fill of the history. This holds of no record of the tail, since the fill after
-- it isn't begun: the first number of that is 0.
abbrev pub StandsIn : (history : List HistoryEvent) (start fill number : ℕ) → Type 0
StandsIn history start fill number =
    (first_of_fill history start fill ≤ number) × (number < first_of_fill history start (suc fill))

-- By the events of a ring, the record of this number was overwritten unread before a fill: it is in one that was lost,
-- after all that were taken before that fill.
pub record IsOverwrittenBefore (start : ℕ) (events : List RingEvent) (fill number : ℕ) : Type 0 where
  pub lost : ℕ
  pub was_lost : Contains (fills_lost start events) lost
  pub stands : StandsIn (history_events_of events) start lost number
  pub before : lost < fill
  pub after_taken : (taken : ℕ) → Contains (fills_taken start events) taken → taken < fill → taken < lost

-- What the ring of a CPU, of n positions, did up to this state, and the parcels that were taken from it. Its frames
-- made a packed history. Steps lead to this state from a new ring, and the events are those of these steps, one step
-- after the other: so a fill was lost only if the step that lost it found it closed and the ring full. Together the
-- events are the history, the window and the takes of this state. The parcels are the fills that were taken, in order,
-- each whole; they part the committed records; and the numbers that are missing before one are exactly those of the
-- records that were overwritten unread between it and the one that was taken before it, or the start.
pub record AreParcelsOfRing (n size start : ℕ) (c : Core) (parcels : List Parcel) : Type 0 where
  pub is_history : IsHistory c.history
  pub packed : IsPacked c.history size
  pub from : Core
  pub is_new : IsStart n start from
  pub exchanges : List Exchange
  pub events : List RingEvent
  pub run : AreEventsOfSteps n size from exchanges events c
  pub reported : AreEventsOfRun n start c events
  pub took : fills_taken start events ≡ map (λ parcel. parcel.fill) parcels
  pub whole : (parcel : Parcel) → Contains parcels parcel → IsWholeFill c.history start parcel
  pub rest : List Record
  pub partition : IsPartition (committed_records c.history) (pieces_in parcels) rest
  pub missing : (parcel : Parcel) (number : ℕ)
      → Contains parcels parcel
      → IsMissingOf parcel parcel.cpu number ↔ IsOverwrittenBefore start events parcel.fill number

-- of these parcels, this one is of the CPU
abbrev pub IsOneOf : List Parcel → (cpu : ℕ) → Parcel → Type 0
IsOneOf parcels cpu parcel = Contains parcels parcel × (parcel.cpu ≡ cpu)

-- What a collector keeps of the parcels that were delivered to it, beside the history of a CPU: it has exactly the
-- committed records that are in the fill of one of these, under their own numbers, and misses exactly the numbers that
-- were overwritten unread before one of these.
pub record IsExact (history : List HistoryEvent) (start : ℕ) (events : List RingEvent) (cpu : ℕ)
    (kept delivered : List Parcel)
    : Type 0 where
  pub has : (number : ℕ) (r : Record)
      → Has kept cpu number r
      ↔ ((slice_get (committed_records history) number ≡ Some r)
      × (parcel : Parcel)
      × IsOneOf delivered cpu parcel
      × StandsIn history start parcel.fill number)
  pub misses : (number : ℕ)
      → Misses kept cpu number
      ↔ ((parcel : Parcel)
      × IsOneOf delivered cpu parcel
      × IsOverwrittenBefore start events parcel.fill number)

-- Of a world: it has the CPUs and the collectors of its script. Each CPU's history is cut into the parcels that were
-- taken from its ring, and each parcel that was taken is one of a CPU that there is, and genuine for that CPU's. So
-- they agree. What was delivered is among them, and each collector is exact for each CPU.
pub record IsGenuineWorld (script : Script) (w : World) : Type 0 where
  pub cpus : length w.lanes ≡ script.cpus
  pub collectors : length w.delivered ≡ script.collectors
  pub cut : (cpu : ℕ) (lane : Lane)
      → slice_get w.lanes cpu ≡ Some lane
      → AreParcelsOfRing script.pages script.size script.start lane.core (parcels_from cpu w.taken)
  pub of_a_cpu : (parcel : Parcel) → Contains w.taken parcel → parcel.cpu < script.cpus
  pub genuine : AreGenuine w.taken (λ cpu. pieces_in (parcels_from cpu w.taken))
  pub agree : Agree w.taken
  pub delivered : (collector : ℕ) (parcels : List Parcel) (parcel : Parcel)
      → slice_get w.delivered collector ≡ Some parcels
      → Contains parcels parcel
      → Contains w.taken parcel
  pub exact : (collector cpu : ℕ) (parcels : List Parcel) (lane : Lane)
      → slice_get w.delivered collector ≡ Some parcels
      → (at : slice_get w.lanes cpu ≡ Some lane)
      → IsExact lane.core.history script.start (cut cpu lane at).events cpu parcels parcels
