use Rattle.kernel_names.proofs.SymbolText.{whole_if_named}
use Rattle.kernel_names.proofs.symbols.symbol_in.Goals as goal

pub returns-clause-whole : goal.returns-clause-whole
returns-clause-whole c =
    whole_if_named c.in_ok-named.named.now c.name_at.result.now c.symbol_of.result c.name_at.ensures
    c.symbol_of.ensures.named
