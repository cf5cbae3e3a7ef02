use Rattle.std.proofs.Common.{◌≡◌, List, ⊎_elim, inl, sym, subst}
use Rattle.trace_model.specs.Parcel.{Parcel}
use Rattle.trace_model.specs.Collection.{Misses}
use Rattle.stream_collector.specs.Forgetting.{GivesUpBelow}
use Rattle.stream_collector.proofs.StreamLaws.{records_stay, missing_stay, undelivered_stay, unknown_stay, given_same}
use Rattle.stream_collector.proofs.StreamLaws.{given_lost, one_raised, stays_undelivered, unknown_given_up}
use Rattle.stream_collector.proofs.laws.forgetting_changes_nothing_above.Goals as goal

pub returns-clause-records : goal.returns-clause-records
returns-clause-records c old new cpu bound up raised = records_stay old new (one_raised old new cpu bound up raised)

pub returns-clause-missing : goal.returns-clause-missing
returns-clause-missing c old new cpu bound up raised = missing_stay old new (one_raised old new cpu bound up raised)

pub returns-clause-undelivered : goal.returns-clause-undelivered
returns-clause-undelivered c old new cpu bound up raised given =
    undelivered_stay old new (one_raised old new cpu bound up raised) (⊎_elim
    (λ same. given_same old new same)
    (λ lost. given_lost old new cpu bound raised lost)
    given)

pub returns-clause-unknown : goal.returns-clause-unknown
returns-clause-unknown c old new cpu bound up raised given =
    unknown_stay old new (one_raised old new cpu bound up raised) (⊎_elim
    (λ same. given_same old new same)
    (λ lost. given_lost old new cpu bound raised lost)
    given)

pub returns-clause-stays_undelivered : goal.returns-clause-stays_undelivered
returns-clause-stays_undelivered c old new cpu bound up raised given =
    stays_undelivered old new (one_raised old new cpu bound up raised) (λ d n m. ⊎_elim
    (λ (same : new.given_up ≡ old.given_up). subst (λ (ps : List Parcel). Misses ps d n) (sym same) m)
    (λ (lost : GivesUpBelow old new.given_up cpu bound). (lost d n).1 (inl m))
    given)

pub returns-clause-given_up : goal.returns-clause-given_up
returns-clause-given_up c = unknown_given_up
