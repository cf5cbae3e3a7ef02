use Rattle.std.proofs.Common.{map}
use Rattle.kernel_names.specs.Entries.{entry_seen}
use Rattle.kernel_names.proofs.TableLemmas.{zero_names, zero_rest}
use Rattle.kernel_names.proofs.tables.first_flag.Goals as goal

pub returns-then-number-eq0-clause-names : goal.returns-then-number-eq0-clause-names
returns-then-number-eq0-clause-names c =
    zero_names (map entry_seen c.args.entries.now) c.args.number c.if-number-eq0.true

pub returns-then-number-eq0-clause-rest : goal.returns-then-number-eq0-clause-rest
returns-then-number-eq0-clause-rest c =
    zero_rest (map entry_seen c.args.entries.now) c.args.number c.if-number-eq0.true
