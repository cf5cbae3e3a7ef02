use Rattle.std.proofs.Common.{sym, subst, arith}
use Rattle.nested_writer.specs.Stack.{Stack}
use Rattle.nested_writer.specs.Inside.{stack_of}
use Rattle.nested_writer.specs.IsStack.{IsStack, IsReachedStack}
use Rattle.nested_writer.proofs.Bounds.{stands_fits}
use Rattle.nested_writer.proofs.Unclosed.{stands_first_le, are_unclosed}
use Rattle.nested_writer.proofs.stack.WriterStack.unclosed.Goals as goal

pub overflow_add-next : goal.overflow_add-next
overflow_add-next c =
    let fills = c.self.invariant.fills in
    let fits =
    stands_fits (stack_of c.self.inside) (subst IsReachedStack (sym c.self.view_is) c.requires.stack)
    (omega arith) in
    omega (arith, c.first_number-first.ensures, c.count.ensures.count)

pub overflow_sub-result : goal.overflow_sub-result
overflow_sub-result c =
    let low = stands_first_le (stack_of c.self.inside) (subst IsReachedStack (sym c.self.view_is) c.requires.stack) in
    rw (c.unwrap_or.ensures, c.first_number.ensures, c.first_number-first.ensures, c.count.ensures.count) low

pub returns : goal.returns
returns c = λ start history old.
    let s : Stack = stack_of c.self.inside in
    let k : IsStack start history s = subst (IsStack start history) (sym c.self.view_is) old in
    rw (
      ← c.self.view_is,
      c.unwrap_or.ensures,
      c.first_number.ensures,
      c.first_number-first.ensures,
      c.count.ensures.count,
    ) (are_unclosed start history s k)
