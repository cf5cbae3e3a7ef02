use Rattle.std.proofs.Common.{ℕ, List, sym, subst}
use Rattle.stream_collector.specs.Stream.{Stream}
use Rattle.fleet_collector.specs.Merging.{AreMerges}
use Rattle.fleet_collector.proofs.Changed.{cpus_inserted}
use Rattle.fleet_collector.proofs.Joined.{merged_cpus, merges_inserted, merge_of}
use Rattle.fleet_collector.proofs.merge.put_merged.Goals as goal

-- ---- memory is refused for the map

pub invariant_of-joined : goal.invariant_of-joined
invariant_of-joined c =
    let ours = c.known_or-ours.result.now in
    let theirs = c.known_or-theirs.result.now in
    cpus_inserted c.insert.result c.joined.inside.streams.entries c.insert.new.self.entries c.args.stream.0 c.in-Ok.both
    c.insert.ensures.updates (λ u. u.0) c.insert.ensures.err (λ e. e) c.joined.invariant
    (merged_cpus ours theirs c.in-Ok.both c.in-Ok.ensures.merged c.known_or-ours.ensures.cpus
    c.known_or-theirs.ensures.cpus)

pub returns-then-is_err-clause-merges : goal.returns-then-is_err-clause-merges
returns-then-is_err-clause-merges c =
    let one = c.args.one.now in
    let other = c.args.other.now in
    merges_inserted c.insert.result one other c.joined.inside.streams.entries c.insert.new.self.entries
    c.args.stream.0 c.in-Ok.both
    c.insert.ensures.updates (λ u. u.0) c.insert.ensures.err (λ e. e)
    (subst (λ (f : List (ℕ × Stream)). AreMerges one other f) (sym c.joined.view_is) c.requires)
    (merge_of one other c.args.stream.0 c.known_or-ours.result.now c.known_or-theirs.result.now c.in-Ok.both
    c.known_or-ours.ensures.known c.known_or-theirs.ensures.known c.in-Ok.ensures.merged c.in-Ok.ensures.fit)

-- ---- it is put there

pub invariant_of-joined-in-Ok : goal.invariant_of-joined-in-Ok
invariant_of-joined-in-Ok c =
    let ours = c.known_or-ours.result.now in
    let theirs = c.known_or-theirs.result.now in
    cpus_inserted c.insert.result c.joined.inside.streams.entries c.insert.new.self.entries c.args.stream.0 c.in-Ok.both
    c.insert.ensures.updates (λ u. u.0) c.insert.ensures.err (λ e. e) c.joined.invariant
    (merged_cpus ours theirs c.in-Ok.both c.in-Ok.ensures.merged c.known_or-ours.ensures.cpus
    c.known_or-theirs.ensures.cpus)

pub returns-in-Ok-clause-merges : goal.returns-in-Ok-clause-merges
returns-in-Ok-clause-merges c =
    let one = c.args.one.now in
    let other = c.args.other.now in
    merges_inserted c.insert.result one other c.joined.inside.streams.entries c.insert.new.self.entries
    c.args.stream.0 c.in-Ok.both
    c.insert.ensures.updates (λ u. u.0) c.insert.ensures.err (λ e. e)
    (subst (λ (f : List (ℕ × Stream)). AreMerges one other f) (sym c.joined.view_is) c.requires)
    (merge_of one other c.args.stream.0 c.known_or-ours.result.now c.known_or-theirs.result.now c.in-Ok.both
    c.known_or-ours.ensures.known c.known_or-theirs.ensures.known c.in-Ok.ensures.merged c.in-Ok.ensures.fit)
