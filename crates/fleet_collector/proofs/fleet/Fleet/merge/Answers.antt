use Rattle.std.proofs.Common.{ℕ, List, sym, subst}
use Rattle.stream_collector.specs.Stream.{Stream}
use Rattle.stream_collector.specs.Merging.{IsMerge}
use Rattle.fleet_collector.specs.Fleet.{stream_at}
use Rattle.fleet_collector.proofs.Joined.{merged_at, joined_told}
use Rattle.fleet_collector.proofs.fleet.Fleet.merge.Goals as goal

pub returns-clause-merged : goal.returns-clause-merged
returns-clause-merged c id =
    let own = c.args.self.now in
    let other = c.args.other.now in
    let first = c.in_ok-put_all_merged.ensures in
    let second = c.in_ok-put_all_merged-2.ensures in
    let at = merged_at own other c.put_all_merged-2.new.joined second.merges
    (λ k entry at. second.stays entry.0 (first.there k entry at)) second.there id in
    subst (λ (f : List (ℕ × Stream)). IsMerge (stream_at own id) (stream_at other id) (stream_at f id))
    (sym c.joined-2.view_is) at.merge

pub returns-clause-fit : goal.returns-clause-fit
returns-clause-fit c id =
    let first = c.in_ok-put_all_merged.ensures in
    let second = c.in_ok-put_all_merged-2.ensures in
    let at = merged_at c.args.self.now c.args.other.now c.put_all_merged-2.new.joined second.merges
    (λ k entry at. second.stays entry.0 (first.there k entry at)) second.there id in
    at.fit

pub returns-clause-told : goal.returns-clause-told
returns-clause-told c pieces others was too = record {
  streams = λ id.
      let own = c.args.self.now in
      let other = c.args.other.now in
      let new = c.joined-2.inside.streams.entries in
      joined_told pieces others id (stream_at own id) (stream_at other id) (stream_at new id) (was.streams id)
      (too.streams id) (returns-clause-merged c id);
}
