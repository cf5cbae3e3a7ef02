use Rattle.std.proofs.Common.{ap}
use Rattle.std.specs.Ordering.{nat_cmp}
use Rattle.std.specs.BTreeMap.{is_at}
use Rattle.std.proofs.lemmas.Map.Entries.{lookup_clone}
use Rattle.collector.proofs.index.Index.copied.Goals as goal

pub returns : goal.returns
returns c cpu = lookup_clone _ _ (is_at (nat_cmp cpu)) (λ x y e. ap (is_at (nat_cmp cpu)) e)
    c.args.self.now.cpus.entries c.in_ok-clone.field-0.entries c.in_ok-clone.ensures.cases
