use Rattle.std.proofs.Common.{[], ◌∙◌, ℕ, List, sym, subst, map}
use Rattle.std.specs.Borrow.{Bor}
use Rattle.parcel_streams.specs.declared.piece.StreamId.{StreamId}
use Rattle.std.proofs.lemmas.Iterator.Consumers.{YieldsList-from_first, YieldsList-so_far, YieldsList-turn}
use Rattle.std.proofs.lemmas.Iterator.Consumers.{YieldsList-end}
use Rattle.fleet_collector.specs.declared.listing.FleetLine.{FleetLine}
use Rattle.stream_collector.specs.Stream.{Stream}
use Rattle.fleet_collector.specs.Fleet.{entry_seen}
use Rattle.fleet_collector.specs.Lines.{line_seen, AreLinesOf, HasIn}
use Rattle.fleet_collector.proofs.ByNumber.{fleet_none}
use Rattle.fleet_collector.proofs.InTurn.{lines_more}
use Rattle.fleet_collector.proofs.listing.all_lines.Goals as goal

pub loop-stream-init : goal.loop-stream-init
loop-stream-init c = subst (λ (ls : List FleetLine). AreLinesOf (HasIn c.args.before []) (map line_seen ls))
    (sym c.new-lines.ensures.items) (fleet_none c.args.before)

pub loop-stream-preserved : goal.loop-stream-preserved
loop-stream-preserved c =
    let fleet = c.args.fleet.now in
    let start = c.streams-stream-items.ensures in
    let begun = c.into_iter-stream-iterator.ensures.into_iter_gives in
    let yields = YieldsList-from_first entry_seen (λ left. left) fleet (begun ∙ start.all) in
    let item : StreamId × Bor Stream = (c.in-Some.stream, c.in-Some.known) in
    let turn = YieldsList-turn yields c.loop-stream.yielded _ c.loop-stream.yielded_by _ _ item c.in-Some.is
    c.next.ensures.steps in
    let put = c.in_ok-put_stream.ensures in
    lines_more c.args.before fleet c.loop-stream.yielded item (map line_seen c.loop-stream.lines.items) put.0
    (map line_seen c.put_stream.new.lines.items)
    start.rising (YieldsList-so_far yields c.loop-stream.yielded _ c.loop-stream.yielded_by)
    turn.0 turn.1 c.loop-stream.invariant put.1 put.2

pub returns : goal.returns
returns c =
    let fleet = c.args.fleet.now in
    let begun = c.into_iter-stream-iterator.ensures.into_iter_gives in
    let yields = YieldsList-from_first entry_seen (λ left. left) fleet (begun ∙ c.streams-stream-items.ensures.all) in
    let all = YieldsList-end yields c.loop-stream.yielded _ c.loop-stream.yielded_by _ _ c.in-None.is
    c.next.ensures.steps in
    subst (λ (es : List (ℕ × Stream)). AreLinesOf (HasIn c.args.before es)
    (map line_seen c.loop-stream.lines.items)) all.0
    c.loop-stream.invariant
