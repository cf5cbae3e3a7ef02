use Rattle.std.proofs.Common.{◌↔◌, IsSome, List, ℕ, sym, subst}
use Rattle.std.specs.Cmp.{nat_cmp_total}
use Rattle.std.specs.List.{Contains}
use Rattle.std.specs.List.Sorted.{IsStrictlyIncreasing}
use Rattle.std.specs.Ordering.{nat_cmp}
use Rattle.std.specs.BTreeMap.{is_at}
use Rattle.std.specs.Map.{lookup}
use Rattle.std.proofs.lemmas.Map.Keys.{IsStrictlyIncreasing-from_sorted}
use Rattle.std.proofs.lemmas.Map.Lookups.{exact_unsigned}
use Rattle.std.proofs.lemmas.Map.Views.{btree_map_contains_key_iff}
use Rattle.stream_collector.proofs.marks.CpuMarks.cpus.Goals as goal

pub returns-clause-rising : goal.returns-clause-rising
returns-clause-rising c = subst IsStrictlyIncreasing (sym c.keys.ensures.rest)
    (IsStrictlyIncreasing-from_sorted _ c.keys.ensures.ordered)

pub returns-clause-there : goal.returns-clause-there
returns-clause-there c cpu =
    let both = btree_map_contains_key_iff nat_cmp_total exact_unsigned c.args.self.now.cpus cpu in
    subst (λ (xs : List ℕ). Contains xs cpu ↔ IsSome (lookup (is_at (nat_cmp cpu)) c.args.self.now.cpus.entries))
    (sym c.keys.ensures.rest) (both.1, both.0)
