use Rattle.std.proofs.Common.{rules, ap, inl, inr, subst}
use Rattle.stream_collector.specs.declared.marks.Marks.{Marks}
use Rattle.stream_collector.specs.Marks.{marks_at}
use Rattle.stream_collector.specs.Stream.{Stream}
use Rattle.stream_collector.specs.Marking.{IsStanding}
use Rattle.stream_collector.specs.Merging.{IsMerge, HaveFittingEnds}
use Rattle.stream_collector.proofs.Merging.{ends_fault, reach_fault, part_fault, ends_joined, given_up_either}
use Rattle.stream_collector.proofs.Merging.{merged_standing}
use Rattle.stream_collector.proofs.stream.StreamCollector.merged.Goals as goal

pub returns-in_err-check_one_end-clause-fault : goal.returns-in_err-check_one_end-clause-fault
returns-in_err-check_one_end-clause-fault c =
    let fault = ends_fault c.args.self.now c.args.other.now c.in_err-check_one_end.field-0.0
    c.in_err-check_one_end.ensures.fault in
    search rules

pub returns-in_err-check_reach-clause-fault : goal.returns-in_err-check_reach-clause-fault
returns-in_err-check_reach-clause-fault c =
    let fault = reach_fault c.args.self.now c.args.other.now c.in_err-check_reach.field-0.0
    c.in_ok-check_one_end.ensures.one (inl c.in_err-check_reach.ensures.fault) in
    search rules

pub returns-in_err-check_reach-2-clause-fault : goal.returns-in_err-check_reach-2-clause-fault
returns-in_err-check_reach-2-clause-fault c =
    let fault = reach_fault c.args.self.now c.args.other.now c.in_err-check_reach-2.field-0.0
    c.in_ok-check_one_end.ensures.one (inr c.in_err-check_reach-2.ensures.fault) in
    search rules

pub returns-in_err-known-clause-fault : goal.returns-in_err-known-clause-fault
returns-in_err-known-clause-fault c =
    let fit : HaveFittingEnds c.args.self.now c.args.other.now = record {
      one_end = c.in_ok-check_one_end.ensures.one;
      within = c.in_ok-check_reach.ensures.within;
      others_within = c.in_ok-check_reach-2.ensures.within;
    } in
    let fault = part_fault c.args.self.now c.args.other.now c.in_err-known.field-0.0 fit c.in_err-known.ensures.fault in
    search rules

pub invariant_of-result : goal.invariant_of-result
invariant_of-result c =
    let s = c.args.self.now in
    let o = c.args.other.now in
    let new : Stream = record {
      parcels = c.in_ok-known.known;
      marks = c.in_ok-marks.marks.cpus.entries;
      given_up = c.in_ok-given_up.given_up;
    } in
    let fit : HaveFittingEnds s o = record {
      one_end = c.in_ok-check_one_end.ensures.one;
      within = c.in_ok-check_reach.ensures.within;
      others_within = c.in_ok-check_reach-2.ensures.within;
    } in
    let merged : IsMerge s o new = record {
      bounds = λ cpu. ap (λ (m : Marks). m.bound) (c.in_ok-marks.ensures.joined cpu);
      ends = λ cpu. ends_joined (marks_at s.marks cpu) (marks_at o.marks cpu) (marks_at new.marks cpu) (fit.one_end cpu)
          (c.in_ok-marks.ensures.joined cpu);
      given_up = given_up_either s.given_up o.given_up c.in_ok-given_up.given_up c.in_ok-given_up.ensures.same;
      kept = c.in_ok-known.ensures.kept;
      nothing_else = c.in_ok-known.ensures.nothing_else;
    } in
    merged_standing s o new merged (subst IsStanding c.self.view_is c.self.invariant)
    (subst IsStanding c.other.view_is c.other.invariant) fit c.in_ok-given_up.ensures.none c.in_ok-marks.ensures.says

pub returns-clause-merged : goal.returns-clause-merged
returns-clause-merged c =
    let s = c.args.self.now in
    let o = c.args.other.now in
    record {
      bounds = λ cpu. ap (λ (m : Marks). m.bound) (c.in_ok-marks.ensures.joined cpu);
      ends = λ cpu. ends_joined (marks_at s.marks cpu) (marks_at o.marks cpu)
          (marks_at c.in_ok-marks.marks.cpus.entries cpu) (c.in_ok-check_one_end.ensures.one cpu)
          (c.in_ok-marks.ensures.joined cpu);
      given_up = given_up_either s.given_up o.given_up c.in_ok-given_up.given_up c.in_ok-given_up.ensures.same;
      kept = c.in_ok-known.ensures.kept;
      nothing_else = c.in_ok-known.ensures.nothing_else;
    }
