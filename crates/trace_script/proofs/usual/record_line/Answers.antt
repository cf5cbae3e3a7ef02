use Rattle.std.proofs.Common.{[], ◌∷◌}
use Rattle.trace_script.proofs.UsualLemmas.{begins_asked, record_joined}
use Rattle.trace_script.proofs.usual.record_line.Goals as goal

pub returns : goal.returns
returns c = λ cpus collectors.
    let moment = c.in_ok-moment.ensures in
    let number = c.in_ok-moment.moment.number in
    let cut = c.in_ok-rest.ensures in (
      cut.payload,
      cut.put,
      λ x is_cpu.
          begins_asked cpus collectors _ c.in_ok-rest.rest.now cut.payload c.in_ok-kind.kind c.args.cpu.0 number
          c.asked.result (x ∷ (c.args.word ∷ []) ∷ moment.digits ∷ cut.field ∷ [])
          c.asked.ensures
          (c.in_ok-kind.ensures cpus collectors c.args.cpu.0 number x moment.digits cut.field cut.payload is_cpu
          moment.spells cut.spells)
          (record_joined x moment.digits cut.field c.args.text.now c.in_ok-moment.moment.rest.now c.in_ok-rest.rest.now
          c.args.word moment.are cut.are),
    )
