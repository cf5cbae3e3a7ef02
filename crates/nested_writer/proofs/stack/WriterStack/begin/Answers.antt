use Rattle.std.proofs.Common.{rules, ◌-◌, ◌≤◌, arith}
use Rattle.nested_writer.specs.Inside.{stack_of}
use Rattle.nested_writer.proofs.Pushing.{surely_fits}
use Rattle.nested_writer.proofs.Promises.{begins}
use Rattle.nested_writer.proofs.stack.WriterStack.begin.Goals as goal

pub returns : goal.returns
returns c =
    let size = (stack_of c.self.inside).size in
    let room = c.self.invariant.plain_room in
    let low : c.args.len ≤ size - 12 = omega (arith, c.if-len-self.false, c.ranges.len.fits) in
    let fits = surely_fits size c.args.len c.self.invariant.small low in
    begins c.args.moment c.args.len c.args.self.now _ (search rules) (search (rules, fits)) (search rules)
    (search rules)
