use Rattle.stream_collector.proofs.stream.StreamCollector.known_same_on.Goals as goal

pub returns-then-missing_same_on : goal.returns-then-missing_same_on
returns-then-missing_same_on c = (
  λ e. record {
    records = c.records_same_on.ensures.0 e;
    missing = c.missing_same_on.ensures.0 c.if-missing_same_on.true;
  },
  λ same. c.records_same_on.ensures.1 same.records,
)
