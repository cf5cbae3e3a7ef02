use Rattle.std.proofs.Common.{List, sym, subst}
use Rattle.trace_model.specs.Parcel.{Parcel}
use Rattle.trace_model.specs.Collection.{Misses}
use Rattle.stream_collector.proofs.StreamLaws.{records_stay, missing_stay, undelivered_stay, unknown_stay, given_same}
use Rattle.stream_collector.proofs.StreamLaws.{stays_undelivered}
use Rattle.stream_collector.proofs.laws.forgetting_before_changes_nothing_above.Goals as goal

pub returns-clause-records : goal.returns-clause-records
returns-clause-records c old new moment f = records_stay old new f.raised

pub returns-clause-missing : goal.returns-clause-missing
returns-clause-missing c old new moment f = missing_stay old new f.raised

pub returns-clause-undelivered : goal.returns-clause-undelivered
returns-clause-undelivered c old new moment f = undelivered_stay old new f.raised (given_same old new f.given_up)

pub returns-clause-stays_undelivered : goal.returns-clause-stays_undelivered
returns-clause-stays_undelivered c old new moment f = stays_undelivered old new f.raised
    (λ d n m. subst (λ (ps : List Parcel). Misses ps d n) (sym f.given_up) m)

pub returns-clause-unknown : goal.returns-clause-unknown
returns-clause-unknown c old new moment f = unknown_stay old new f.raised (given_same old new f.given_up)
