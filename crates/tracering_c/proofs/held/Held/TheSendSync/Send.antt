use mir.Raw.{raw}
use base.Shift.{Keyless}
use denote.Memory.{lone}
use denote.RawPtr.{Ptr}
use denote.Struct.Struct.{exits_of}
use denote.Struct.Owning.{shape, fields, to}
use denote.Param.Send.{IsSend, AllSend, owning_send, struct_send, sendable}
use Rattle.std.specs.Prelude.{Option, Some, None}
use Rattle.std.proofs.Common.{inl, inr}
use Rattle.std.proofs.Crossing as heap
use Rattle.std_alloc.proofs.SendSync.{quiet, lies}
use Rattle.std_heap.proofs.Handle.{handle}
use Rattle.tracering_c.specs.contracts.ends.HeldWriter as writer
use Rattle.tracering_c.proofs.ends.HeldWriter.TheSendSync.{the_send as writer_sent}
use Rattle.tracering_c.specs.contracts.ends.HeldReader as reader
use Rattle.tracering_c.proofs.ends.HeldReader.TheSendSync.{the_send as reader_sent}
use Rattle.tracering_c.specs.contracts.ends.HeldCollector as collector
use Rattle.tracering_c.proofs.ends.HeldCollector.TheSendSync.{the_send as collector_sent}
use Rattle.tracering_c.specs.contracts.ends.HeldFleet as fleet
use Rattle.tracering_c.proofs.ends.HeldFleet.TheSendSync.{the_send as fleet_sent}
use Rattle.tracering_c.specs.Held.{End, held}
use Rattle.tracering_c.specs.contracts.held.Held.{the_row, the_type}

held_keyless : (p : Ptr) (x : Option End) → Keyless (held p x)
held_keyless p None = tt
held_keyless p (Some (inl x)) =
    (lies writer.the_row writer_sent p x, heap.frees.frees handle (raw (lone writer.the_row.mir)) p)
held_keyless p (Some (inr (inl x))) =
    (lies reader.the_row reader_sent p x, heap.frees.frees handle (raw (lone reader.the_row.mir)) p)
held_keyless p (Some (inr (inr (inl x)))) =
    (lies collector.the_row collector_sent p x, heap.frees.frees handle (raw (lone collector.the_row.mir)) p)
held_keyless p (Some (inr (inr (inr x)))) =
    (lies fleet.the_row fleet_sent p x, heap.frees.frees handle (raw (lone fleet.the_row.mir)) p)

pub send : IsSend the_row
send =
    let all : AllSend (fields the_type) = (search sendable, tt) in
    owning_send the_type all (λ d. held_keyless d.at d.value)
    (λ k. quiet (to the_type) (exits_of k (fields the_type)) ((struct_send (shape the_type) all).leaving k))
