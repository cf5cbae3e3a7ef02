use Rattle.std.proofs.Common.{◌≡◌, ◌<◌, false, length, sym, ◌∙◌, subst, arith}
use Rattle.parcel_streams.specs.source.Readers.{source_of}
use Rattle.collect_command.specs.streams.Reading.{IsFresh, TakesInput, StopsInput}
use Rattle.collect_command.proofs.Inputs.{none_read, next_input, as_first, one_read, stops_here}
use Rattle.collect_command.proofs.streams.read.read_inputs.Goals as goal

pub loop-input-init : goal.loop-input-init
loop-input-init g c =
    none_read g.R.Source.remaining g.R.Source.failed g.T.TakesPieces.takes g.T.TakesPieces.refuses c.args.inputs.now
    (c.args.taker.now, c.args.writer.now)

pub read_input-requires-clause-sound : goal.read_input-requires-clause-sound
read_input-requires-clause-sound g c =
    let below : c.loop-input.input < length c.loop-input.inputs = omega
    (arith, c.loop-input-test.true, c.loop-input.auto.inputs) in
    let this = c.index-inputs-input.result in
    let next = next_input g.R.Source.remaining g.R.Source.failed g.T.TakesPieces.takes g.T.TakesPieces.refuses
    c.args.inputs.now
    c.loop-input.inputs c.loop-input.input (c.args.taker.now, c.args.writer.now)
    (c.loop-input.taker, c.loop-input.writer) this c.loop-input.invariant below c.index-inputs-input.is in
    let first = as_first g.R.Source.remaining g.R.Source.failed g.T.TakesPieces.takes g.T.TakesPieces.refuses
    c.args.inputs.now
    c.loop-input.inputs c.loop-input.input (c.args.taker.now, c.args.writer.now)
    (c.loop-input.taker, c.loop-input.writer) this c.loop-input.invariant next in
    subst (λ reader. g.R.Source.failed (source_of reader) ≡ false) (first.0 ∙ c.index-inputs-input.is)
    (c.requires.sound c.loop-input.input this first.1)

pub read_input-requires-clause-fresh : goal.read_input-requires-clause-fresh
read_input-requires-clause-fresh g c =
    let below : c.loop-input.input < length c.loop-input.inputs = omega
    (arith, c.loop-input-test.true, c.loop-input.auto.inputs) in
    let this = c.index-inputs-input.result in
    let next = next_input g.R.Source.remaining g.R.Source.failed g.T.TakesPieces.takes g.T.TakesPieces.refuses
    c.args.inputs.now
    c.loop-input.inputs c.loop-input.input (c.args.taker.now, c.args.writer.now)
    (c.loop-input.taker, c.loop-input.writer) this c.loop-input.invariant below c.index-inputs-input.is in
    let first = as_first g.R.Source.remaining g.R.Source.failed g.T.TakesPieces.takes g.T.TakesPieces.refuses
    c.args.inputs.now
    c.loop-input.inputs c.loop-input.input (c.args.taker.now, c.args.writer.now)
    (c.loop-input.taker, c.loop-input.writer) this c.loop-input.invariant next in
    subst (λ reader. IsFresh reader) (first.0 ∙ c.index-inputs-input.is)
    (c.requires.fresh c.loop-input.input this first.1)

pub returns-in-Err-clause-stopped : goal.returns-in-Err-clause-stopped
returns-in-Err-clause-stopped g c =
    let below : c.loop-input.input < length c.loop-input.inputs = omega
    (arith, c.loop-input-test.true, c.loop-input.auto.inputs) in
    let this = c.index-inputs-input.result in
    let next = next_input g.R.Source.remaining g.R.Source.failed g.T.TakesPieces.takes g.T.TakesPieces.refuses
    c.args.inputs.now
    c.loop-input.inputs c.loop-input.input (c.args.taker.now, c.args.writer.now)
    (c.loop-input.taker, c.loop-input.writer) this c.loop-input.invariant below c.index-inputs-input.is in
    stops_here g.R.Source.remaining g.R.Source.failed g.T.TakesPieces.takes g.T.TakesPieces.refuses c.args.inputs.now
    c.loop-input.inputs c.loop-input.input (c.args.taker.now, c.args.writer.now)
    (c.loop-input.taker, c.loop-input.writer) (c.read_input.new.taker, c.read_input.new.writer) this
    c.read_input.new.reader
    c.in-Err.stop c.loop-input.invariant next
    (subst (λ reader. StopsInput g.R.Source.remaining g.R.Source.failed g.T.TakesPieces.takes g.T.TakesPieces.refuses
    c.loop-input.input reader c.read_input.new.reader (c.loop-input.taker, c.loop-input.writer)
    (c.read_input.new.taker, c.read_input.new.writer)
    c.in-Err.stop) (sym c.index-inputs-input.is) c.in-Err.ensures.stopped)

pub loop-input-preserved : goal.loop-input-preserved
loop-input-preserved g c =
    let below : c.loop-input.input < length c.loop-input.inputs = omega
    (arith, c.loop-input-test.true, c.loop-input.auto.inputs) in
    let this = c.index-inputs-input.result in
    let next = next_input g.R.Source.remaining g.R.Source.failed g.T.TakesPieces.takes g.T.TakesPieces.refuses
    c.args.inputs.now
    c.loop-input.inputs c.loop-input.input (c.args.taker.now, c.args.writer.now)
    (c.loop-input.taker, c.loop-input.writer) this c.loop-input.invariant below c.index-inputs-input.is in
    one_read g.R.Source.remaining g.R.Source.failed g.T.TakesPieces.takes g.T.TakesPieces.refuses c.args.inputs.now
    c.loop-input.inputs c.loop-input.input (c.args.taker.now, c.args.writer.now)
    (c.loop-input.taker, c.loop-input.writer) (c.read_input.new.taker, c.read_input.new.writer) this
    c.read_input.new.reader c.loop-input.invariant next
    (subst (λ reader. TakesInput g.R.Source.remaining g.R.Source.failed g.T.TakesPieces.takes g.T.TakesPieces.refuses
    c.loop-input.input reader c.read_input.new.reader (c.loop-input.taker, c.loop-input.writer)
    (c.read_input.new.taker, c.read_input.new.writer)) (sym c.index-inputs-input.is) c.in_default.ensures.taken)
