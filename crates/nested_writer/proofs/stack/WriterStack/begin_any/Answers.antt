use Rattle.nested_writer.proofs.Promises.{begins}
use Rattle.nested_writer.proofs.stack.WriterStack.begin_any.Goals as goal

pub returns : goal.returns
returns c = let (room, short, early) = c.in_ok-admit.ensures.ok in
    begins c.args.moment c.args.len c.args.self.now c.push.new.self room short early c.push.ensures
