use Rattle.std.proofs.Common.{[], ◌∙◌, ℕ, List, sym, subst, map}
use Rattle.std.specs.Borrow.{Bor}
use Rattle.std.proofs.lemmas.Iterator.Consumers.{YieldsList-from_first, YieldsList-so_far, YieldsList-turn}
use Rattle.std.proofs.lemmas.Iterator.Consumers.{YieldsList-end}
use Rattle.parcel_streams.specs.declared.piece.StreamId.{StreamId}
use Rattle.stream_collector.specs.Stream.{Stream}
use Rattle.fleet_collector.specs.Fleet.{entry_seen}
use Rattle.fleet_text.specs.declared.cpus.StreamCpu.{StreamCpu}
use Rattle.fleet_text.specs.Cpus.{cpu_seen, AreCpusIn}
use Rattle.fleet_text.proofs.CpusInOrder.{no_streams, cpus_more, all_streams}
use Rattle.fleet_text.proofs.cpus.all_cpus.Goals as goal

pub loop-stream-init : goal.loop-stream-init
loop-stream-init c = subst (λ (xs : List StreamCpu). AreCpusIn [] (map cpu_seen xs)) (sym c.new-list.ensures.items)
    no_streams

pub loop-stream-preserved : goal.loop-stream-preserved
loop-stream-preserved c =
    let fleet = c.args.fleet.now in
    let start = c.streams-stream-items.ensures in
    let begun = c.into_iter-stream-iterator.ensures.into_iter_gives in
    let yields = YieldsList-from_first entry_seen (λ left. left) fleet (begun ∙ start.all) in
    let item : StreamId × Bor Stream = (c.in-Some.stream, c.in-Some.known) in
    let turn = YieldsList-turn yields c.loop-stream.yielded _ c.loop-stream.yielded_by _ _ item c.in-Some.is
    c.next.ensures.steps in
    let put = c.in_ok-put_stream.ensures in
    cpus_more fleet c.loop-stream.yielded item (map cpu_seen c.loop-stream.list.items) put.0
    (map cpu_seen c.put_stream.new.list.items)
    start.rising (YieldsList-so_far yields c.loop-stream.yielded _ c.loop-stream.yielded_by)
    turn.0 turn.1 c.loop-stream.invariant put.1 put.2

pub returns : goal.returns
returns c =
    let fleet = c.args.fleet.now in
    let start = c.streams-stream-items.ensures in
    let begun = c.into_iter-stream-iterator.ensures.into_iter_gives in
    let yields = YieldsList-from_first entry_seen (λ left. left) fleet (begun ∙ start.all) in
    let all = YieldsList-end yields c.loop-stream.yielded _ c.loop-stream.yielded_by _ _ c.in-None.is
    c.next.ensures.steps in
    all_streams fleet (map cpu_seen c.loop-stream.list.items) start.rising
    (subst (λ (es : List (ℕ × Stream)). AreCpusIn es (map cpu_seen c.loop-stream.list.items)) all.0
    c.loop-stream.invariant)
