use Rattle.world_model.proofs.LineRuns.{line_run}
use Rattle.world_model.proofs.LineIsOne.{line_one}
use Rattle.world_model.proofs.laws.lanes.lines_are_runs.Goals as goal

pub returns : goal.returns
returns c = record {
  run = λ n size command before after xs run. line_run n size command before after xs run;
  one = λ n size command before after other xs ys run run'. line_one n size command before after other xs ys run run';
}
