use Rattle.std.proofs.Common.{rules}
use Rattle.page_numbers.specs.Parcels.{as_parcel}
use Rattle.collector.proofs.Adding.{known_same, not_grown}
use Rattle.collector.proofs.collector.Collector.add.Goals as goal

pub returns-then-not-branch-clause-union : goal.returns-then-not-branch-clause-union
returns-then-not-branch-clause-union c = known_same c.args.self.now (as_parcel c.args.parcel)
    (not_grown c.in_ok-would_grow.field-0 _ _ (search rules) c.in_ok-would_grow.ensures.grows)
