use Rattle.std.proofs.Common.{◌↔◌, List, ℕ, sym, subst}
use Rattle.std.specs.Cmp.{nat_cmp_total}
use Rattle.std.specs.List.{Contains}
use Rattle.std.specs.List.Sorted.{IsStrictlyIncreasing}
use Rattle.std.proofs.lemmas.Map.Keys.{IsStrictlyIncreasing-from_sorted}
use Rattle.std.proofs.lemmas.Map.Lookups.{exact_unsigned}
use Rattle.std.proofs.lemmas.Map.Views.{btree_map_contains_key_iff}
use Rattle.collector.specs.Index.{HasCpu}
use Rattle.collector.proofs.index.Index.cpus.Goals as goal

pub returns-clause-rising : goal.returns-clause-rising
returns-clause-rising c = subst IsStrictlyIncreasing (sym c.keys.ensures.rest)
    (IsStrictlyIncreasing-from_sorted _ c.keys.ensures.ordered)

pub returns-clause-there : goal.returns-clause-there
returns-clause-there c cpu =
    let both = btree_map_contains_key_iff nat_cmp_total exact_unsigned c.args.self.now.cpus cpu in
    subst (λ (xs : List ℕ). Contains xs cpu ↔ HasCpu c.args.self.now cpu) (sym c.keys.ensures.rest) (both.1, both.0)
