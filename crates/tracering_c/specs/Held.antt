-- What a handle can hold, and owns then.
use Rattle.std.specs.Prelude.{◌⊎◌, Option, Some, None}
use mathlib.Core.Logic.{inl, inr}
use base.Fml.{Fml, ftrue}
use denote.RattleType.{RattleType}
use denote.RawPtr.{Ptr}
use Rattle.std_alloc.specs.Box.Ownership.{box_owns}
use Rattle.std.specs.Global.{Global}
use Rattle.std_heap.specs.contracts.GlobalAllocator.TheImpl.{ghosts}
use Rattle.tracering_c.specs.declared.ends.HeldWriter.{HeldWriter}
use Rattle.tracering_c.specs.declared.ends.HeldReader.{HeldReader}
use Rattle.tracering_c.specs.declared.ends.HeldCollector.{HeldCollector}
use Rattle.tracering_c.specs.declared.ends.HeldFleet.{HeldFleet}
use Rattle.tracering_c.specs.contracts.ends.HeldWriter as writer
use Rattle.tracering_c.specs.contracts.ends.HeldReader as reader
use Rattle.tracering_c.specs.contracts.ends.HeldCollector as collector
use Rattle.tracering_c.specs.contracts.ends.HeldFleet as fleet

-- what a handle can hold
abbrev pub End : Type 0
End = HeldWriter ⊎ (HeldReader ⊎ (HeldCollector ⊎ HeldFleet))

-- the one value of its type
abbrev pub heap : Global
heap = record { memory = record { seal = tt } }

-- a value's box at this place
abbrev pub boxed : (R : RattleType) → Ptr → R.Denot → Fml
boxed R p x = box_owns (ghosts.dealloc_token heap) R p x

-- The memory of a handle: the box of what it holds, or nothing.
abbrev pub held : Ptr → Option End → Fml
held p None = ftrue
held p (Some (inl x)) = boxed writer.the_row p x
held p (Some (inr (inl x))) = boxed reader.the_row p x
held p (Some (inr (inr (inl x)))) = boxed collector.the_row p x
held p (Some (inr (inr (inr x)))) = boxed fleet.the_row p x

-- the writer that is held
abbrev pub writer_of : Option End → Option HeldWriter
writer_of None = None
writer_of (Some (inl x)) = Some x
writer_of (Some (inr (inl x))) = None
writer_of (Some (inr (inr (inl x)))) = None
writer_of (Some (inr (inr (inr x)))) = None

-- the reader that is held
abbrev pub reader_of : Option End → Option HeldReader
reader_of None = None
reader_of (Some (inl x)) = None
reader_of (Some (inr (inl x))) = Some x
reader_of (Some (inr (inr (inl x)))) = None
reader_of (Some (inr (inr (inr x)))) = None

-- the collector that is held
abbrev pub collector_of : Option End → Option HeldCollector
collector_of None = None
collector_of (Some (inl x)) = None
collector_of (Some (inr (inl x))) = None
collector_of (Some (inr (inr (inl x)))) = Some x
collector_of (Some (inr (inr (inr x)))) = None

-- the fleet that is held
abbrev pub fleet_of : Option End → Option HeldFleet
fleet_of None = None
fleet_of (Some (inl x)) = None
fleet_of (Some (inr (inl x))) = None
fleet_of (Some (inr (inr (inl x)))) = None
fleet_of (Some (inr (inr (inr x)))) = Some x
