use Rattle.page_numbers.specs.Parcels.{as_parcel}
use Rattle.collector.proofs.Adding.{odds_not_below}
use Rattle.collector.proofs.collector.Collector.holds.Goals as goal

pub returns-in-Err : goal.returns-in-Err
returns-in-Err c = (
  λ held. cc,
  λ below.
      absurd
      (odds_not_below c.args.self.now (as_parcel c.args.parcel.now) c.in-Err.field-0 c.parcels-kept.ensures.agree
      c.in-Err.ensures.fault c.in-Err.ensures.at_odds below),
)
