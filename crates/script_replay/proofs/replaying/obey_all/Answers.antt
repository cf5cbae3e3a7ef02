use Rattle.std.proofs.Common.{ℕ, ◌≤◌, List, length, ap, ◌∙◌, subst, arith}
use Rattle.std.proofs.lemmas.List.{take_all}
use Rattle.text_model.specs.Script.{Command}
use Rattle.trace_script.specs.ScriptTypes.{shown_line}
use Rattle.script_replay.specs.Replay.{IsStateAfter}
use Rattle.script_replay.proofs.LinesObeyed.{first_part_way, may_obey, one_more}
use Rattle.script_replay.proofs.replaying.obey_all.Goals as goal

pub loop-index-init : goal.loop-index-init
loop-index-init g c =
    record {
      part_way = first_part_way c.args.script.now
          record {
            lanes = c.new.result;
            collectors = c.in_ok-new_collectors.field-0;
            reports = record { log = c.new-2.result.items; steps = g.T.Teller.told c.args.steps };
          }
          c.commands-commands.ensures.limits c.new.ensures.items
          (c.in_ok-new_collectors.ensures.count ∙ c.collectors.ensures.collectors) c.in_ok-new_collectors.ensures.new
          c.new-2.ensures.items c.requires;
      told = λ some. some;
    }

pub obey-requires : goal.obey-requires
obey-requires g c =
    may_obey c.args.script.now c.commands-commands.result.now c.loop-index.index (shown_line c.line.result)
    c.loop-index.state
    c.commands-commands.ensures.limits c.line.ensures c.commands-commands.ensures.commands
    c.loop-index.invariant.part_way

pub loop-index-preserved : goal.loop-index-preserved
loop-index-preserved g c = record {
  part_way =
      one_more c.args.script.now c.commands-commands.result.now c.loop-index.index (shown_line c.line.result)
      c.loop-index.state c.obey.new.state
      c.line.ensures c.commands-commands.ensures.commands c.loop-index.invariant.part_way c.in_ok-obey.ensures;
  told = λ tells. (c.in_ok-obey.ensures _ c.loop-index.invariant.part_way).1 (c.loop-index.invariant.told tells);
}

pub returns-clause-part_way : goal.returns-clause-part_way
returns-clause-part_way g c =
    let lines = c.args.script.now.commands in
    let past : length lines ≤ c.loop-index.index =
    omega
    (arith, c.loop-index-test.false, c.len-index-end.ensures, ap length c.commands-commands.ensures.commands) in
    subst (λ (l : List (ℕ × Command)). IsStateAfter c.args.script.now l c.loop-index.state)
    (take_all c.loop-index.index lines past) c.loop-index.invariant.part_way
