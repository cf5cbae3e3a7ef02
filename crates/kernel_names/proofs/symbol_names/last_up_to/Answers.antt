use Rattle.std.proofs.Common.{rules}
use Rattle.std.specs.declared.ops.Bound.TheVariants.{Included}
use Rattle.kernel_names.proofs.SymbolPlaces.{none_behind_last}
use Rattle.kernel_names.proofs.symbol_names.last_up_to.Goals as goal

pub returns-clause-last : goal.returns-clause-last
returns-clause-last c q behind up_to =
    none_behind_last c.args.places.now (Included c.args.number) c.range.result c.next_back.new.self
    c.in_ok-key.key.now c.in_ok-key.place.now (c.range.ensures.in_range tt) c.in_ok-key.ensures.steps
    q behind (search rules)
