use Rattle.kernel_names.proofs.SymbolLines.{none_passed, passes, ends}
use Rattle.kernel_names.proofs.symbol_names.SymbolNames.add.Goals as goal

pub loop-rest-init : goal.loop-rest-init
loop-rest-init c = none_passed c.args.text.now c.args.self.now

pub loop-rest-preserved : goal.loop-rest-preserved
loop-rest-preserved c =
    passes c.args.text.now c.loop-rest.left.now c.part_cut.result.0.now c.part_cut.result.1 c.in-Some.rest
    c.args.self.now c.loop-rest.self c.put_line.new.self c.in-Some.is c.part_cut.ensures.parts
    c.loop-rest.invariant c.in_ok-put_line.ensures

pub returns-in_default : goal.returns-in_default
returns-in_default c =
    ends c.args.text.now c.loop-rest.left.now c.part_cut.result.0.now c.part_cut.result.1
    c.args.self.now c.loop-rest.self c.put_line.new.self c.in_default.is c.part_cut.ensures.parts
    c.loop-rest.invariant c.in_ok-put_line.ensures
