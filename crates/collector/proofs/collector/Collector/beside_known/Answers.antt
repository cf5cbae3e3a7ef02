use Rattle.collector.proofs.collector.Collector.beside_known.Goals as goal

pub returns-clause-seen : goal.returns-clause-seen
returns-clause-seen c = let seen = c.beside-both.ensures in record {
  shown = seen.shown;
  goes_on = seen.goes_on;
  up_to = seen.up_to;
  agree = seen.agree;
  others_agree = seen.others_agree;
}
