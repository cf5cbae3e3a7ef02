use Rattle.std.proofs.Common.{rules, refl}
use Rattle.host_commands.proofs.SameCpus.{same_more}
use Rattle.host_commands.proofs.inputs.open_inputs.Goals as goal

pub loop-file-preserved : goal.loop-file-preserved
loop-file-preserved c = record {
  cpus = same_more (λ input. input.cpu) (λ file. file.cpu) c.loop-file.inputs.items _ _ c.args.files.now
      c.loop-file.file-index _ c.loop-file.invariant.cpus c.in-Ok.ensures.items refl c.loop-file-test.true;
  sound = search rules;
}
