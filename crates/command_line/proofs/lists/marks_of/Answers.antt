use Rattle.std.proofs.Common.{◌≡◌, suc, ◌+◌, ◌-◌, ◌++◌, ap, ◌∙◌, arith}
use Rattle.trace_model.specs.declared.limits.TheConstants.{MAX_CPUS}
use Rattle.command_line.specs.ListWords.{marks_from}
use Rattle.command_line.proofs.ListParts.{mark_more, no_marks_left}
use Rattle.command_line.proofs.lists.marks_of.Goals as goal

pub loop-cpu-preserved : goal.loop-cpu-preserved
loop-cpu-preserved c =
    let list = c.args.list.now in
    let cpu = c.loop-cpu.cpu in
    let count : MAX_CPUS - cpu ≡ suc (MAX_CPUS - (cpu + 1)) = omega (arith, c.loop-cpu-test.true) in
    let more =
    mark_more list _ c.loop-cpu.marks.items cpu (MAX_CPUS - (cpu + 1))
    (c.loop-cpu.invariant ∙ ap (λ n. c.loop-cpu.marks.items ++ marks_from list cpu n) count) in
    rw (c.in_ok-push.ensures.items, c.is_listed.ensures) more

pub returns : goal.returns
returns c =
    let list = c.args.list.now in
    let none : MAX_CPUS - c.loop-cpu.cpu ≡ 0 = omega (arith, c.loop-cpu-test.false) in
    no_marks_left list _ c.loop-cpu.marks.items c.loop-cpu.cpu
    (c.loop-cpu.invariant ∙ ap (λ n. c.loop-cpu.marks.items ++ marks_from list c.loop-cpu.cpu n) none)
