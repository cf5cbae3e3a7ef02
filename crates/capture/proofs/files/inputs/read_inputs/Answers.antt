use Rattle.std.proofs.Common.{◌≡◌, ◌∙◌, ◌<◌, false, length, sym, subst, arith}
use Rattle.trace_model.specs.declared.limits.TheConstants.{MAX_CPUS}
use Rattle.capture.proofs.InputsRead.{IsChosen, reads-none, as-first, within, is-unsaid, reads-next}
use Rattle.capture.proofs.InputsRead.{reads-unread, reads-all, first-unread, files-before}
use Rattle.capture.proofs.files.inputs.read_inputs.Goals as goal
use Rattle.capture.proofs.files.inputs.read_inputs.Goals.{then-inputs-eq1, else-inputs-eq1}

pub returns-in_default-clause-unread : goal.returns-in_default-clause-unread
returns-in_default-clause-unread g c =
    first-unread g.R.Source.remaining g.R.Source.failed c.args.page c.args.name.now c.args.inputs.now c.requires.some
    c.requires.sound

pub loop-at-init : goal.loop-at-init
loop-at-init g c = record {
  reads =
      reads-none g.R.Source.remaining g.R.Source.failed c.if-inputs-eq1.losses c.args.page c.args.name.now
      c.args.inputs.now
      c.in-Ok.captured (c.in-Ok.ensures.none c.args.page c.args.name.now);
  chosen = elim c.if-inputs-eq1.branch [
    | then-inputs-eq1 w ↦ subst (λ losses. IsChosen losses (length c.args.inputs.now)) (sym w.losses-is)
        w.if-inputs-eq1.true
    | else-inputs-eq1 w ↦ subst (λ losses. IsChosen losses (length c.args.inputs.now)) (sym w.losses-is)
        w.if-inputs-eq1.false
  ];
  wanted = c.in-Ok.ensures.wanted;
}

pub read_input-requires-clause-cpu : goal.read_input-requires-clause-cpu
read_input-requires-clause-cpu g c =
    let below : c.loop-at.at < length c.loop-at.inputs = omega (arith, c.loop-at-test.true, c.loop-at.auto.inputs) in
    subst (λ input. input.cpu.0 < MAX_CPUS)
    (as-first g.R.Source.remaining g.R.Source.failed c.if-inputs-eq1.losses c.args.page c.args.name.now
    c.args.inputs.now
    c.loop-at.inputs c.loop-at.at c.loop-at.captured c.loop-at.invariant.reads c.index-inputs-at.result below)
    (c.requires.cpus c.loop-at.at c.index-inputs-at.result
    (within g.R.Source.remaining g.R.Source.failed c.if-inputs-eq1.losses c.args.page c.args.name.now c.args.inputs.now
    c.loop-at.inputs c.loop-at.at c.loop-at.captured c.loop-at.invariant.reads c.index-inputs-at.result below))

pub read_input-requires-clause-sound : goal.read_input-requires-clause-sound
read_input-requires-clause-sound g c =
    let below : c.loop-at.at < length c.loop-at.inputs = omega (arith, c.loop-at-test.true, c.loop-at.auto.inputs) in
    subst (λ input. g.R.Source.failed input.reader ≡ false)
    (as-first g.R.Source.remaining g.R.Source.failed c.if-inputs-eq1.losses c.args.page c.args.name.now
    c.args.inputs.now
    c.loop-at.inputs c.loop-at.at c.loop-at.captured c.loop-at.invariant.reads c.index-inputs-at.result below)
    (c.requires.sound c.loop-at.at c.index-inputs-at.result
    (within g.R.Source.remaining g.R.Source.failed c.if-inputs-eq1.losses c.args.page c.args.name.now c.args.inputs.now
    c.loop-at.inputs c.loop-at.at c.loop-at.captured c.loop-at.invariant.reads c.index-inputs-at.result below))

pub read_input-requires-clause-known : goal.read_input-requires-clause-known
read_input-requires-clause-known g c =
    let below : c.loop-at.at < length c.loop-at.inputs = omega (arith, c.loop-at-test.true, c.loop-at.auto.inputs) in
    let now =
    is-unsaid g.R.Source.remaining g.R.Source.failed c.if-inputs-eq1.losses c.args.page c.args.name.now
    c.args.inputs.now
    c.loop-at.inputs c.loop-at.at c.loop-at.captured c.loop-at.invariant.reads c.index-inputs-at.result below
    c.loop-at.invariant.chosen in
    (c.loop-at.invariant.reads.files, now.0, now.1)

pub returns-in-Err-clause-unread : goal.returns-in-Err-clause-unread
returns-in-Err-clause-unread g c =
    let below : c.loop-at.at < length c.loop-at.inputs = omega (arith, c.loop-at-test.true, c.loop-at.auto.inputs) in
    let now =
    is-unsaid g.R.Source.remaining g.R.Source.failed c.if-inputs-eq1.losses c.args.page c.args.name.now
    c.args.inputs.now
    c.loop-at.inputs c.loop-at.at c.loop-at.captured c.loop-at.invariant.reads c.index-inputs-at.result below
    c.loop-at.invariant.chosen in
    reads-unread g.R.Source.remaining g.R.Source.failed c.if-inputs-eq1.losses c.args.page c.args.name.now
    c.args.inputs.now
    c.loop-at.inputs c.loop-at.at c.loop-at.captured c.loop-at.invariant.reads c.index-inputs-at.result below
    c.read_input.new.input c.in-Err.fault c.loop-at.invariant.chosen
    (c.in-Err.ensures.fault c.loop-at.invariant.reads.files now.0 now.1)

pub loop-at-preserved : goal.loop-at-preserved
loop-at-preserved g c =
    let below : c.loop-at.at < length c.loop-at.inputs = omega (arith, c.loop-at-test.true, c.loop-at.auto.inputs) in
    let now =
    is-unsaid g.R.Source.remaining g.R.Source.failed c.if-inputs-eq1.losses c.args.page c.args.name.now
    c.args.inputs.now
    c.loop-at.inputs c.loop-at.at c.loop-at.captured c.loop-at.invariant.reads c.index-inputs-at.result below
    c.loop-at.invariant.chosen in
    let count =
    files-before g.R.Source.remaining g.R.Source.failed c.if-inputs-eq1.losses c.args.page c.args.name.now
    c.args.inputs.now c.loop-at.inputs c.loop-at.at c.loop-at.captured c.loop-at.invariant.reads in
    record {
      reads =
          reads-next g.R.Source.remaining g.R.Source.failed c.if-inputs-eq1.losses c.args.page c.args.name.now
          c.args.inputs.now
          c.loop-at.inputs c.loop-at.at c.loop-at.captured c.loop-at.invariant.reads c.index-inputs-at.result below
          c.read_input.new.input c.read_input.new.captured c.loop-at.invariant.chosen
          (c.in_default-read_input.ensures.read c.loop-at.invariant.reads.files now.0 count now.1)
          c.in_default-read_input.ensures.end c.in_default-read_input.ensures.sound;
      chosen = c.loop-at.invariant.chosen;
      wanted = c.read_input.ensures.wanted ∙ c.loop-at.invariant.wanted;
    }

pub returns-clause-read : goal.returns-clause-read
returns-clause-read g c =
    reads-all g.R.Source.remaining g.R.Source.failed c.if-inputs-eq1.losses c.args.page c.args.name.now
    c.args.inputs.now
    c.loop-at.inputs c.loop-at.at c.loop-at.captured
    c.loop-at.invariant.chosen (omega (arith, c.loop-at-test.false, c.loop-at.auto.inputs)) c.loop-at.invariant.reads
