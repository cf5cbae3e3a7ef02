use Rattle.std.proofs.Common.{IsSome}
use Rattle.std.specs.Borrow.{Bor}
use Rattle.parcel_streams.specs.declared.piece.StreamId.{StreamId}
use Rattle.stream_collector.specs.Stream.{Stream}
use Rattle.fleet_collector.specs.Fleet.{known_of}
use Rattle.fleet_collector.proofs.Joined.{each_more}
use Rattle.fleet_collector.proofs.merge.put_all_merged.Goals as goal

pub loop-stream-preserved : goal.loop-stream-preserved
loop-stream-preserved c =
    let was = c.loop-stream.invariant in
    let put = c.in_ok-put_merged.ensures in
    let before = c.loop-stream.yielded in
    let item : StreamId × Bor Stream = (c.in-Some.stream, c.in-Some._known) in
    record {
      merges = put.merges;
      there = each_more (λ id. IsSome (known_of c.put_merged.new.joined id)) before item
          (λ k entry at. put.stays entry.0 (was.there k entry at)) put.there;
      stays = λ id some. put.stays id (was.stays id some);
    }
