use Rattle.std.proofs.Common.{◌∙◌, ℕ, List, None, subst}
use Rattle.std.specs.Borrow.{Bor}
use Rattle.std.proofs.lemmas.Iterator.Consumers.{YieldsList-from_first, YieldsList-turn, YieldsList-end}
use Rattle.parcel_streams.specs.declared.piece.StreamId.{StreamId}
use Rattle.stream_collector.specs.Stream.{Stream}
use Rattle.fleet_collector.specs.Fleet.{entry_seen}
use Rattle.fleet_collector.proofs.Forgotten.{AreNotBefore, none_before, one_more_not_before, one_more_of_some}
use Rattle.fleet_collector.proofs.Forgotten.{least_of_all}
use Rattle.fleet_collector.proofs.InTurn.{stream_at_place}
use Rattle.fleet_collector.proofs.fleet.Fleet.frontier.Goals as goal

pub loop-stream-init : goal.loop-stream-init
loop-stream-init c = record { of_some = tt; least = none_before None }

pub loop-stream-preserved : goal.loop-stream-preserved
loop-stream-preserved c =
    let fleet = c.args.self.now in
    let begun = c.into_iter-stream-iterator.ensures.into_iter_gives in
    let yields = YieldsList-from_first entry_seen (λ left. left) fleet (begun ∙ c.streams-stream-items.ensures.all) in
    let item : StreamId × Bor Stream = (c.in-Some._stream, c.in-Some.known) in
    let turn = YieldsList-turn yields c.loop-stream.yielded _ c.loop-stream.yielded_by _ _ item c.in-Some.is
    c.next.ensures.steps in
    let is = stream_at_place fleet c.streams-stream-items.ensures.rising _ (entry_seen item) turn.0 turn.1 in
    let e = c.earlier-least.ensures in
    let was = c.loop-stream.invariant in
    record {
      of_some = one_more_of_some fleet c.in-Some._stream.0 c.in-Some.known.now c.loop-stream.least c.frontier.result
          c.earlier-least.result e.of_them was.of_some is c.frontier.ensures;
      least = one_more_not_before c.loop-stream.yielded item c.loop-stream.least c.frontier.result
          c.earlier-least.result e.own e.other was.least c.frontier.ensures;
    }

pub returns : goal.returns
returns c =
    let fleet = c.args.self.now in
    let begun = c.into_iter-stream-iterator.ensures.into_iter_gives in
    let yields = YieldsList-from_first entry_seen (λ left. left) fleet (begun ∙ c.streams-stream-items.ensures.all) in
    let all = YieldsList-end yields c.loop-stream.yielded _ c.loop-stream.yielded_by _ _ c.in-None.is
    c.next.ensures.steps in
    let was = c.loop-stream.invariant in
    record {
      of_some = was.of_some;
      least = least_of_all fleet c.loop-stream.least
          (subst (λ (es : List (ℕ × Stream)). AreNotBefore es c.loop-stream.least) all.0 was.least);
    }
