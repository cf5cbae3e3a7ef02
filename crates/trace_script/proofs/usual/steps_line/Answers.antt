use Rattle.std.proofs.Common.{[], ◌∷◌}
use Rattle.trace_script.proofs.UsualLemmas.{begins_asked, count_read, steps_joined}
use Rattle.trace_script.proofs.usual.steps_line.Goals as goal

pub returns : goal.returns
returns c = λ cpus collectors x is_cpu.
    let count = c.in_ok-count.ensures in
    let number = c.in_ok-count.count.number in
    begins_asked cpus collectors _ c.in_ok-count.count.rest.now [] c.in_ok-kind.kind c.args.cpu.0 number c.asked.result
    (x ∷ (c.args.word ∷ []) ∷ count.digits ∷ [])
    c.asked.ensures
    (c.in_ok-kind.ensures cpus collectors c.args.cpu.0 number x count.digits is_cpu
    (count_read count.digits number count.spells c.if-count-lt-MIN_LINE_STEPS.false
    c.if-count-gt-MAX_LINE_STEPS.false))
    (steps_joined x count.digits c.args.text.now c.in_ok-count.count.rest.now c.args.word count.are)
