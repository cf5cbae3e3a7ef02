use Rattle.std.proofs.Common.{sym, subst}
use Rattle.std.specs.Prelude.{OnOk}
use Rattle.std.proofs.lemmas.Result.{on_ok_weaker}
use Rattle.trace_script.specs.declared.command.Command.{Command}
use Rattle.trace_script.specs.ScriptTypes.{shown_command}
use Rattle.script_replay.specs.Replay.{IsReady, LeadsOn}
use Rattle.script_replay.proofs.replaying.obey.Goals as goal

pub returns-in-Deliver : goal.returns-in-Deliver
returns-in-Deliver g c =
    subst
    (λ (k : Command). OnOk c.deliver.result
    (LeadsOn c.args.script.now (c.args.line.number, shown_command k) c.args.state.now c.deliver.new.state))
    (sym c.in-Deliver.is)
    (on_ok_weaker c.deliver.result
    (λ leads. leads c.args.script.now
    (subst (λ (k : Command). IsReady c.args.script.now (shown_command k) c.args.state.now) c.in-Deliver.is c.requires))
    c.deliver.ensures)

pub returns-in-Begin : goal.returns-in-Begin
returns-in-Begin g c =
    subst
    (λ (k : Command). OnOk c.obey_ring.result
    (LeadsOn c.args.script.now (c.args.line.number, shown_command k) c.args.state.now c.obey_ring.new.state))
    (sym c.in-Begin.is) c.obey_ring.ensures

pub returns-in-Step : goal.returns-in-Step
returns-in-Step g c =
    subst
    (λ (k : Command). OnOk c.obey_ring-in-Step.result
    (LeadsOn c.args.script.now (c.args.line.number, shown_command k) c.args.state.now c.obey_ring-in-Step.new.state))
    (sym c.in-Step.is) c.obey_ring-in-Step.ensures

pub returns-in-Finish : goal.returns-in-Finish
returns-in-Finish g c =
    subst
    (λ (k : Command). OnOk c.obey_ring-in-Finish.result
    (LeadsOn c.args.script.now (c.args.line.number, shown_command k) c.args.state.now c.obey_ring-in-Finish.new.state))
    (sym c.in-Finish.is) c.obey_ring-in-Finish.ensures

pub returns-in-Write : goal.returns-in-Write
returns-in-Write g c =
    subst
    (λ (k : Command). OnOk c.obey_ring-in-Write.result
    (LeadsOn c.args.script.now (c.args.line.number, shown_command k) c.args.state.now c.obey_ring-in-Write.new.state))
    (sym c.in-Write.is) c.obey_ring-in-Write.ensures

pub returns-in-Close : goal.returns-in-Close
returns-in-Close g c =
    subst
    (λ (k : Command). OnOk c.obey_ring-in-Close.result
    (LeadsOn c.args.script.now (c.args.line.number, shown_command k) c.args.state.now c.obey_ring-in-Close.new.state))
    (sym c.in-Close.is) c.obey_ring-in-Close.ensures

pub returns-in-StepReader : goal.returns-in-StepReader
returns-in-StepReader g c =
    subst
    (λ (k : Command). OnOk c.obey_ring-in-StepReader.result
    (LeadsOn c.args.script.now (c.args.line.number, shown_command k) c.args.state.now
    c.obey_ring-in-StepReader.new.state))
    (sym c.in-StepReader.is) c.obey_ring-in-StepReader.ensures

pub returns-in-Take : goal.returns-in-Take
returns-in-Take g c =
    subst
    (λ (k : Command). OnOk c.obey_ring-in-Take.result
    (LeadsOn c.args.script.now (c.args.line.number, shown_command k) c.args.state.now c.obey_ring-in-Take.new.state))
    (sym c.in-Take.is) c.obey_ring-in-Take.ensures

pub returns-in-Wish : goal.returns-in-Wish
returns-in-Wish g c =
    subst
    (λ (k : Command). OnOk c.obey_ring-in-Wish.result
    (LeadsOn c.args.script.now (c.args.line.number, shown_command k) c.args.state.now c.obey_ring-in-Wish.new.state))
    (sym c.in-Wish.is) c.obey_ring-in-Wish.ensures
