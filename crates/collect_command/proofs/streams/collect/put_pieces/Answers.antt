use Rattle.std.proofs.Common.{◌++◌, inl, inr, []}
use Rattle.collect_command.specs.declared.streams.print.PiecePrinter.{PiecePrinter}
use Rattle.collect_command.specs.streams.Reading.{placed}
use Rattle.collect_command.specs.streams.Gathering.{piece_lines}
use Rattle.collect_command.proofs.Endings.{all_printed, stops_printed, stops_printing}
use Rattle.collect_command.proofs.streams.collect.put_pieces.Goals as goal

pub returns-in-Ok-clause-writer : goal.returns-in-Ok-clause-writer
returns-in-Ok-clause-writer g c = λ start has.
    let t = c.in-Ok.ensures.taken in
    let printer : PiecePrinter = record { form = c.args.form } in
    c.finish.ensures.writer start (piece_lines c.args.form t.pieces)
    (all_printed (λ (p : PiecePrinter). p.form) start [] t.pieces (printer, c.args.out.now)
    (c.read_inputs.new.taker, c.read_inputs.new.writer) has t.taken)

pub returns-in-Err-clause-writer : goal.returns-in-Err-clause-writer
returns-in-Err-clause-writer g c = λ start has.
    let s = c.in-Err.ensures.stopped in
    let printer : PiecePrinter = record { form = c.args.form } in
    c.tell_stop.ensures.writer start
    (piece_lines c.args.form (s.pieces ++ placed c.in-Err.stopped.input 0 s.here.pieces))
    (stops_printed (λ (p : PiecePrinter). p.form) g.R.Source.remaining g.R.Source.failed start
    c.args.inputs.now c.read_inputs.new.inputs (printer, c.args.out.now)
    (c.read_inputs.new.taker, c.read_inputs.new.writer) c.in-Err.stopped s has)

pub returns-in-Ok-clause-printed : goal.returns-in-Ok-clause-printed
returns-in-Ok-clause-printed g c = λ start has.
    let t = c.in-Ok.ensures.taken in
    let printer : PiecePrinter = record { form = c.args.form } in
    inl record {
      pieces = t.pieces;
      are_whole = t.are_whole;
      written = c.finish.ensures.written start (piece_lines c.args.form t.pieces)
          (all_printed (λ (p : PiecePrinter). p.form) start [] t.pieces (printer, c.args.out.now)
          (c.read_inputs.new.taker, c.read_inputs.new.writer) has t.taken);
    }

pub returns-in-Err-clause-printed : goal.returns-in-Err-clause-printed
returns-in-Err-clause-printed g c = λ start has.
    let s = c.in-Err.ensures.stopped in
    let printer : PiecePrinter = record { form = c.args.form } in
    inr record {
      stopped = c.in-Err.stopped;
      stops = stops_printing (λ (p : PiecePrinter). p.form) g.R.Source.remaining g.R.Source.failed c.args.inputs.now
          c.read_inputs.new.inputs (printer, c.args.out.now) (c.read_inputs.new.taker, c.read_inputs.new.writer)
          c.in-Err.stopped s;
      told = c.tell_stop.ensures.told start
          (piece_lines c.args.form (s.pieces ++ placed c.in-Err.stopped.input 0 s.here.pieces))
          (stops_printed (λ (p : PiecePrinter). p.form) g.R.Source.remaining g.R.Source.failed start
          c.args.inputs.now c.read_inputs.new.inputs (printer, c.args.out.now)
          (c.read_inputs.new.taker, c.read_inputs.new.writer) c.in-Err.stopped s has);
    }
