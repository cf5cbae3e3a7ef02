use Rattle.trace_cli.proofs.StatusFour.{replay_reported, dump_reported, run_reported}
use Rattle.trace_cli.proofs.laws.status_four_is_reported.Goals as goal

pub returns : goal.returns
returns c = record {
  replay = λ asked source sink sound. replay_reported source sink sound asked;
  dump = λ source sink sound. dump_reported source sink sound;
  run = λ source sink sound. run_reported source sink sound;
}
