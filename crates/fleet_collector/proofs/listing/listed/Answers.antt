use Rattle.std.proofs.Common.{rules, map}
use Rattle.std.proofs.lemmas.List.Sorted.{answers_always, IsPermutation-map}
use Rattle.std.proofs.lemmas.Map.Keys.{sorted_from_strictly_increasing}
use Rattle.fleet_collector.specs.Lines.{line_seen}
use Rattle.fleet_collector.proofs.ByTime.{sorted_listing}
use Rattle.fleet_collector.proofs.listing.listed.Goals as goal

pub returns : goal.returns
returns c =
    let lines = c.in_ok-lines.lines.items in
    sorted_listing c.args.before c.args.fleet.now (map line_seen lines) c.sort_unstable_by_key.new.self.items
    (sorted_from_strictly_increasing _ c.streams-streams.ensures.rising) c.in_ok-lines.ensures
    (IsPermutation-map line_seen _ _ c.sort_unstable_by_key.ensures.permutation)
    (c.sort_unstable_by_key.ensures.sorted (λ line. (line.moment.0, line.stream.0, line.cpu.0, line.number.0))
    (answers_always _ _ _ (λ f a r g h. search rules)))
