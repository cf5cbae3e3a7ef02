use Rattle.std.proofs.Common.{◌++◌, List, rules, subst}
use Rattle.trace_model.specs.Parcel.{Parcel}
use Rattle.trace_model.proofs.collections.Joined.{below_agrees}
use Rattle.trace_model.proofs.collections.Collections.{same_same}
use Rattle.collector.specs.Faults.{IsAddFault}
use Rattle.stream_collector.proofs.Merging.{join_same, join_fault, no_fault, both_same}
use Rattle.stream_collector.proofs.merge.joined.Goals as goal

pub returns-in_err-merge-clause-fault : goal.returns-in_err-merge-clause-fault
returns-in_err-merge-clause-fault c =
    let own : IsAddFault c.args.own.now c.in_err-merge.field-0.0 =
    subst (λ (ps : List Parcel). IsAddFault (ps ++ c.args.own.now) c.in_err-merge.field-0.0) c.new-joined.ensures
    c.in_err-merge.ensures.fault in
    let fault = no_fault c.args.own.now (c.args.own.now ++ c.args.other.now) c.parcels-parcels.ensures.agree
    c.in_err-merge.field-0.0 own in
    search rules

pub returns-in_err-merge-2-clause-fault : goal.returns-in_err-merge-2-clause-fault
returns-in_err-merge-2-clause-fault c =
    let fault = join_fault (c.merge.new.self ++ c.args.other.now) (c.args.own.now ++ c.args.other.now)
    (both_same c.new-joined.result c.args.own.now c.merge.new.self c.args.other.now c.new-joined.ensures
    c.in_ok-merge.ensures.join)
    c.in_err-merge-2.field-0.0 c.in_err-merge-2.ensures.fault in
    search rules

pub returns-clause-same : goal.returns-clause-same
returns-clause-same c = same_same c.merge-2.new.self (c.merge.new.self ++ c.args.other.now)
    (c.args.own.now ++ c.args.other.now)
    (join_same c.merge.new.self c.args.other.now c.merge-2.new.self c.in_ok-merge-2.ensures.join)
    (both_same c.new-joined.result c.args.own.now c.merge.new.self c.args.other.now c.new-joined.ensures
    c.in_ok-merge.ensures.join)

pub returns-clause-agree : goal.returns-clause-agree
returns-clause-agree c =
    below_agrees (c.args.own.now ++ c.args.other.now) c.merge-2.new.self (returns-clause-same c).above
    c.in_ok-merge-2.ensures.join.agree
