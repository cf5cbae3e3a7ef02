use Rattle.std.proofs.Common.{◌≡◌, List, Some, subst}
use Rattle.std.specs.Prelude.{Contains}
use Rattle.trace_model.specs.Parcel.{Parcel}
use Rattle.page_numbers.specs.Parcels.{as_parcels}
use Rattle.trace_run.specs.ledgers.Audit.{taken_in, WereTaken, AreHeld, IsAudited}
use Rattle.trace_run.specs.ledgers.Least.{IsLeastFault}
use Rattle.trace_run.proofs.Answered.{stray_is_stray, stray_is_no_lack, lack_is_no_stray, lack_is_lack}
use Rattle.trace_run.proofs.Sums.{is_sum, taken_agree, headline}
use Rattle.trace_run.proofs.ledgers.auditing.audit.Goals as goal

pub returns-in-Some-clause-stray : goal.returns-in-Some-clause-stray
returns-in-Some-clause-stray c =
    let taken = taken_in c.args.ledgers.now in
    stray_is_stray c.args.collector.now taken c.in-Some.key
    (subst (λ (kept : List Parcel). IsLeastFault kept (Contains taken) (Some c.in-Some.key)) c.parcels.ensures.parcels
    c.in-Some.ensures)

pub returns-in-Some-clause-lacks : goal.returns-in-Some-clause-lacks
returns-in-Some-clause-lacks c =
    let taken = taken_in c.args.ledgers.now in
    stray_is_no_lack c.args.collector.now taken c.in-Some.key
    (subst (λ (kept : List Parcel). IsLeastFault kept (Contains taken) (Some c.in-Some.key)) c.parcels.ensures.parcels
    c.in-Some.ensures)

pub returns-in-Some-least_lacking-clause-stray : goal.returns-in-Some-least_lacking-clause-stray
returns-in-Some-least_lacking-clause-stray c =
    let taken = taken_in c.args.ledgers.now in
    lack_is_no_stray c.args.collector.now taken
    (subst (λ (kept : List Parcel). WereTaken kept taken) c.parcels.ensures.parcels c.in_default.ensures)
    c.in-Some-least_lacking.key c.in-Some-least_lacking.ensures

pub returns-in-Some-least_lacking-clause-lacks : goal.returns-in-Some-least_lacking-clause-lacks
returns-in-Some-least_lacking-clause-lacks c =
    let taken = taken_in c.args.ledgers.now in
    lack_is_lack c.args.collector.now taken
    (subst (λ (kept : List Parcel). WereTaken kept taken) c.parcels.ensures.parcels c.in_default.ensures)
    c.in-Some-least_lacking.key c.in-Some-least_lacking.ensures

-- each kept parcel was taken, and each taken one is held
whole : (kept own : List Parcel) (taken : List Parcel) → kept ≡ own → WereTaken kept taken → AreHeld own taken
    → IsAudited own taken
whole kept own taken is all held =
    record { were_taken = subst (λ (l : List Parcel). WereTaken l taken) is all; are_held = held }

pub returns-clause-sum : goal.returns-clause-sum
returns-clause-sum c =
    let own = c.args.collector.now in let taken = taken_in c.args.ledgers.now in
    is_sum own taken
    (whole (as_parcels c.parcels.result.now) own taken c.parcels.ensures.parcels c.in_default.ensures
    c.in_default-least_lacking.ensures)

pub returns-clause-agree : goal.returns-clause-agree
returns-clause-agree c =
    let own = c.args.collector.now in let taken = taken_in c.args.ledgers.now in
    taken_agree own taken
    (whole (as_parcels c.parcels.result.now) own taken c.parcels.ensures.parcels c.in_default.ensures
    c.in_default-least_lacking.ensures) c.parcels.ensures.agree

pub returns-clause-headline : goal.returns-clause-headline
returns-clause-headline c = λ n size start cores rings.
    let own = c.args.collector.now in let taken = taken_in c.args.ledgers.now in
    headline n size start cores c.args.ledgers.now rings own
    (is_sum own taken
    (whole (as_parcels c.parcels.result.now) own taken c.parcels.ensures.parcels c.in_default.ensures
    c.in_default-least_lacking.ensures))
