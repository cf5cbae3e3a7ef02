use Rattle.std.proofs.Common.{◌∙◌, sym, ap, arith, length}
use Rattle.page_borrow.proofs.Left.{left-first, left-ended, left-all}
use Rattle.page_borrow.proofs.entries.RecordsIterator.next.Goals.{then-loop-self-test+else-self, else-loop-self-test}
use Rattle.page_borrow.proofs.entries.RecordsIterator.next.Goals as goal

pub returns-in-Some-clause-steps : goal.returns-in-Some-clause-steps
returns-in-Some-clause-steps c =
    let here = c.loop-self.self-inside in
    sym c.self.view_is ∙ sym c.loop-self.invariant.same_left
    ∙ left-first here.data.now here.reached c.in-Ok-Some.passed.behind c.in-Some.place here.number here.end
    c.loop-self-test.true
    (rw (c.in-Ok-Some.field-0-is, c.in-Some.is) at c.in-Ok-Some.ensures.left)

pub returns-in-Some-clause-goes : goal.returns-in-Some-clause-goes
returns-in-Some-clause-goes c =
    let here = c.loop-self.self-inside in
    let one = ap length (sym c.self.view_is ∙ sym c.loop-self.invariant.same_left
    ∙ left-first here.data.now here.reached c.in-Ok-Some.passed.behind c.in-Some.place here.number here.end
    c.loop-self-test.true
    (rw (c.in-Ok-Some.field-0-is, c.in-Some.is) at c.in-Ok-Some.ensures.left)) in
    record { on = λ is_finite. (tt, tt, omega arith); keeps = tt; rests = λ is_finite. tt }

pub returns-clause-steps : goal.returns-clause-steps
returns-clause-steps c =
    let here = c.loop-self.self-inside in
    let before = sym c.self.view_is ∙ sym c.loop-self.invariant.same_left in
    elim c.loop-self-test.branch [
      | then-loop-self-test+else-self w ↦ let none =
          left-all here.data.now here.reached here.number here.end w.if-self.false in
          (before ∙ none, w.self-is ∙ none)
      | else-loop-self-test w ↦ let none =
          left-ended here.data.now here.reached here.number here.end w.loop-self-test.false in
          (before ∙ none, w.self-is ∙ none)
    ]
