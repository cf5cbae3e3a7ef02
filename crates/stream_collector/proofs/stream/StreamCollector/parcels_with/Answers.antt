use Rattle.std.proofs.Common.{◌++◌, subst}
use Rattle.trace_model.specs.Collection.{IsSame}
use Rattle.stream_collector.specs.Marks.{bounds_of}
use Rattle.stream_collector.specs.Stream.{Stream}
use Rattle.stream_collector.proofs.Merging.{kept_from, kept_below}
use Rattle.stream_collector.proofs.stream.StreamCollector.parcels_with.Goals as goal

pub returns-in_ok-without_ended-in-Ok-clause-kept : goal.returns-in_ok-without_ended-in-Ok-clause-kept
returns-in_ok-without_ended-in-Ok-clause-kept c =
    let same = subst (λ (s : Stream). IsSame c.in-Ok.all (s.parcels ++ c.args.other.now.parcels)) c.self.view_is
    (subst (λ (s : Stream). IsSame c.in-Ok.all (c.self.inside.known ++ s.parcels)) c.other.view_is
    c.in-Ok.ensures.same) in
    kept_from (bounds_of c.args.marks.now.cpus.entries) c.in-Ok.all c.in_ok-without_ended-in-Ok.field-0
    (c.args.self.now.parcels ++ c.args.other.now.parcels) same c.in_ok-without_ended-in-Ok.ensures

pub returns-in_ok-without_ended-in-Ok-clause-nothing_else : goal.returns-in_ok-without_ended-in-Ok-clause-nothing_else
returns-in_ok-without_ended-in-Ok-clause-nothing_else c =
    let same = subst (λ (s : Stream). IsSame c.in-Ok.all (s.parcels ++ c.args.other.now.parcels)) c.self.view_is
    (subst (λ (s : Stream). IsSame c.in-Ok.all (c.self.inside.known ++ s.parcels)) c.other.view_is
    c.in-Ok.ensures.same) in
    kept_below (bounds_of c.args.marks.now.cpus.entries) c.in-Ok.all c.in_ok-without_ended-in-Ok.field-0
    (c.args.self.now.parcels ++ c.args.other.now.parcels) same c.in_ok-without_ended-in-Ok.ensures
