use Rattle.kernel_names.proofs.TaskLines.{none_passed, passes, ends, stops, on_err}
use Rattle.kernel_names.proofs.tasks.TaskNames.add.Goals as goal

pub loop-rest-init : goal.loop-rest-init
loop-rest-init c = none_passed c.args.text.now c.args.self.now

pub loop-rest-preserved : goal.loop-rest-preserved
loop-rest-preserved c =
    passes c.args.text.now c.loop-rest.left.now c.part_cut.result.0.now c.part_cut.result.1 c.in-Some.rest
    c.args.self.now c.loop-rest.self c.add_line.new.self c.in-Some.is c.part_cut.ensures.parts
    c.loop-rest.invariant c.in_ok-add_line.ensures.added

pub returns-in_default-clause-added : goal.returns-in_default-clause-added
returns-in_default-clause-added c =
    ends c.args.text.now c.loop-rest.left.now c.part_cut.result.0.now c.part_cut.result.1
    c.args.self.now c.loop-rest.self c.add_line.new.self c.in_default.is c.part_cut.ensures.parts
    c.loop-rest.invariant c.in_ok-add_line.ensures.added

pub returns-in_err-add_line-clause-refused : goal.returns-in_err-add_line-clause-refused
returns-in_err-add_line-clause-refused c = λ known has.
    on_err c.from_residual.result
    (stops c.args.text.now c.loop-rest.left.now c.part_cut.result.0.now c.part_cut.result.1
    c.args.self.now c.loop-rest.self c.add_line.new.self c.part_cut.ensures.parts
    c.loop-rest.invariant c.in_err-add_line.ensures.refused known has)
