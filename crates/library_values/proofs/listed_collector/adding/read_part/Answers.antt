use Rattle.std.proofs.Common.{drop, sym}
use Rattle.std.proofs.lemmas.List.{take-append-drop}
use Rattle.library_values.proofs.listed_collector.adding.read_part.Goals as goal

pub returns : goal.returns
returns c = (drop c.min-end.result c.args.bytes.now, sym (take-append-drop c.min-end.result c.args.bytes.now))
