use Rattle.trace_dat.proofs.NameLemmas.{event_goes_on, events_of_some, on_err}
use Rattle.trace_dat.proofs.kernel_texts.names.EventNames.add.Goals as goal

pub loop-format-preserved : goal.loop-format-preserved
loop-format-preserved c = λ known has id.
    event_goes_on id known c.args.formats.now c.loop-format.format-index _ _ _ c.loop-format-test.true
    (c.in_ok-add_one.ensures.added id) (c.loop-format.invariant known has id)

pub returns-in_err-add_one-clause-refused : goal.returns-in_err-add_one-clause-refused
returns-in_err-add_one-clause-refused c = λ known has.
    on_err c.from_residual.result
    (events_of_some c.loop-format.self c.add_one.new.self known c.args.formats.now c.loop-format.format-index
    c.loop-format-test.true c.in_err-add_one.ensures.refused (c.loop-format.invariant known has))
