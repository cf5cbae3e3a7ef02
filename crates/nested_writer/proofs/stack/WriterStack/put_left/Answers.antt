use Rattle.std.proofs.Common.{rules}
use Rattle.nested_writer.proofs.Promises.{stands_alone}
use Rattle.nested_writer.proofs.stack.WriterStack.put_left.Goals as goal

pub returns : goal.returns
returns c = stands_alone c.args.moment c.args.len c.args.self.now _ c.requires.none c.requires.may (search rules)
