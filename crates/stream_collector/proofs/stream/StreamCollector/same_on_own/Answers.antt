use Rattle.stream_collector.proofs.stream.StreamCollector.same_on_own.Goals as goal

pub returns-then-undelivered_same : goal.returns-then-undelivered_same
returns-then-undelivered_same c = (
  λ e. record {
    marks = c.marks_same.ensures.0 c.if-not-marks_same.false;
    undelivered = c.undelivered_same.ensures.0 c.if-undelivered_same.true;
    known = c.known_same.ensures.0 e;
  },
  λ same. c.known_same.ensures.1 same.known,
)
