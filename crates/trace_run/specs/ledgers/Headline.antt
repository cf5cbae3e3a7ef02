-- What an audit without a fault says of a collector, if the ledgers are those of rings.
use Rattle.std.specs.Prelude.{◌≡◌, ℕ, ◌≤◌, List, length, map, Some}
use Rattle.std.specs.List.{slice_get}
use Rattle.trace_model.specs.Record.{Record}
use Rattle.trace_model.specs.Parcel.{Parcel}
use Rattle.trace_model.specs.Collection.{Has, Misses}
use Rattle.trace_model.specs.Ring.{Core}
use Rattle.ring_model.specs.Reached.{IsReached}
use Rattle.world_model.specs.World.{parcel_of}
use Rattle.world_model.specs.GenuineWorlds.{AreParcelsOfRing, IsExact}
use Rattle.trace_run.specs.declared.ledgers.ledger.Ledger.{Ledger}
use Rattle.trace_run.specs.ledgers.Audit.{taken_of}

-- Each ledger is that of a ring of n pages: steps led from a new ring to a state in which its reader had taken these
-- parcels, in this order.
abbrev pub AreOfRings : (n size start : ℕ) → (ℕ → Core) → List Ledger → Type 0
AreOfRings n size start cores ledgers = (cpu : ℕ) (ledger : Ledger)
    → slice_get ledgers cpu ≡ Some ledger
    → IsReached n size start (cores cpu)
    × (taken_of ledger ≡ map (parcel_of cpu) (cores cpu).reader.taken)

-- The history of a CPU's ring is cut into the parcels that were taken from it, by what happened in a run of that ring,
-- and of that CPU exactly this is kept.
pub record IsKept (n size start cpu : ℕ) (c : Core) (kept taken : List Parcel) : Type 0 where
  pub cut : AreParcelsOfRing n size start c taken
  pub exact : IsExact c.history start cut.events cpu kept taken

-- nothing of this CPU is kept
pub record IsUnknown (cpu : ℕ) (kept : List Parcel) : Type 0 where
  pub no_record : (number : ℕ) (r : Record) → Has kept cpu number r → ⊥
  pub not_missing : (number : ℕ) → Misses kept cpu number → ⊥

-- The headline, of a collector that was audited: of each CPU with a ledger it keeps exactly what was taken from that
-- CPU's ring, and nothing of any other CPU.
pub record IsAuditHeadline (n size start : ℕ) (cores : ℕ → Core) (kept : List Parcel) (ledgers : List Ledger)
    : Type 0 where
  pub each : (cpu : ℕ) (ledger : Ledger)
      → slice_get ledgers cpu ≡ Some ledger
      → IsKept n size start cpu (cores cpu) kept (taken_of ledger)
  pub no_others : (cpu : ℕ) → length ledgers ≤ cpu → IsUnknown cpu kept
