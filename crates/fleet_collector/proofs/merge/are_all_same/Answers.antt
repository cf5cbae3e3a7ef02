use Rattle.std.proofs.Common.{◌∙◌, ℕ, true≢false, Some, ap, sym, subst}
use Rattle.std.specs.Borrow.{Bor}
use Rattle.std.proofs.lemmas.Iterator.Consumers.{YieldsList-from_first, YieldsList-turn}
use Rattle.std.proofs.lemmas.Option.{slice_get-get_or}
use Rattle.parcel_streams.specs.declared.piece.StreamId.{StreamId}
use Rattle.stream_collector.specs.Stream.{Stream}
use Rattle.stream_collector.specs.Same.{IsSameStream}
use Rattle.fleet_collector.specs.Fleet.{stream_at, entry_seen}
use Rattle.fleet_collector.proofs.Joined.{each_more}
use Rattle.fleet_collector.proofs.merge.are_all_same.Goals as goal

pub loop-stream-preserved : goal.loop-stream-preserved
loop-stream-preserved c =
    let one = c.args.one.now in
    let other = c.args.other.now in
    let id = c.in-Some.stream.0 in
    let item : StreamId × Bor Stream = (c.in-Some.stream, c.in-Some._known) in
    let same : IsSameStream c.known_or.result.now c.known_or-in-loop-stream.result.now =
    c.same.ensures.0 c.if-not-same.false in
    each_more (λ q. IsSameStream (stream_at one q) (stream_at other q)) c.loop-stream.yielded item
    c.loop-stream.invariant
    (subst (λ (s : Stream). IsSameStream s (stream_at other id)) c.known_or.ensures.known
    (subst (λ (o : Stream). IsSameStream c.known_or.result.now o) c.known_or-in-loop-stream.ensures.known same))

pub returns-then-not-same : goal.returns-then-not-same
returns-then-not-same c = (
  λ no. let never : ⊥ = cc in absurd never,
  λ each.
      let one = c.args.one.now in
      let other = c.args.other.now in
      let fleet = c.args.streams.now in
      let id = c.in-Some.stream.0 in
      let begun = c.into_iter-stream-iterator.ensures.into_iter_gives in
      let yields = YieldsList-from_first entry_seen (λ left. left) fleet (begun ∙ c.streams-stream-items.ensures.all) in
      let item : StreamId × Bor Stream = (c.in-Some.stream, c.in-Some._known) in
      let turn = YieldsList-turn yields c.loop-stream.yielded _ c.loop-stream.yielded_by _ _ item c.in-Some.is
      c.next.ensures.steps in
      let same : IsSameStream (stream_at one id) (stream_at other id) = each _ (entry_seen item)
      (slice_get-get_or fleet _ (entry_seen item) turn.0 ∙ ap (λ (x : ℕ × Stream). Some x) (sym turn.1)) in
      let there : IsSameStream c.known_or.result.now c.known_or-in-loop-stream.result.now =
      subst (λ (s : Stream). IsSameStream s c.known_or-in-loop-stream.result.now) (sym c.known_or.ensures.known)
      (subst (λ (o : Stream). IsSameStream (stream_at one id) o) (sym c.known_or-in-loop-stream.ensures.known) same) in
      absurd (true≢false (sym (c.same.ensures.1 there) ∙ c.if-not-same.true)),
)
