use Rattle.std.proofs.Common.{◌≡◌, ℕ, ◌<◌, Some, None, sym, ap, ◌∙◌, subst, rules, arith}
use Rattle.stream_collector.specs.Stream.{Stream, end_of}
use Rattle.stream_collector.specs.declared.marks.Marks.{Marks}
use Rattle.stream_collector.specs.Marking.{IsNotOpen, IsStanding, HasEnd}
use Rattle.stream_collector.specs.Marks.{marks_at}
use Rattle.stream_collector.proofs.WithinEnds.{ended_standing}
use Rattle.stream_collector.proofs.stream.StreamCollector.set_end.Goals as goal

pub returns-then-reach-count-clause-fault : goal.returns-then-reach-count-clause-fault
returns-then-reach-count-clause-fault c = (
  ap (λ (m : Marks). m.end) (sym c.marks-marks.ensures) ∙ c.in-None.is,
  record {
    reached = c.reach-reach.ensures.last (omega arith);
    beyond = omega arith;
    greatest = λ n r. let below = c.reach-reach.ensures.behind n r in omega arith;
  },
)

pub returns-in_err-set-clause-fault : goal.returns-in_err-set-clause-fault
returns-in_err-set-clause-fault c =
    let none : end_of c.args.self.now c.args.cpu.0 ≡ None = ap (λ (m : Marks). m.end) (sym c.marks-marks.ensures)
    ∙ c.in-None.is in
    let all : (n : ℕ) → IsNotOpen c.args.self.now c.args.cpu.0 n → n < c.args.count.0 =
    λ n r. (let below = c.reach-reach.ensures.behind n r in omega arith) in
    search rules

pub returns-clause-nothing_beyond : goal.returns-clause-nothing_beyond
returns-clause-nothing_beyond c e n r = let below = c.reach-reach.ensures.behind n r in omega arith

pub invariant_of-self-2 : goal.invariant_of-self-2
invariant_of-self-2 c =
    let old = c.args.self.now in
    let marks = c.set.new.self.cpus.entries in
    let new : Stream = record {
      parcels = c.self.inside.known;
      marks = marks;
      given_up = c.self.inside.given_up;
    } in
    let has : HasEnd old new c.args.cpu.0 c.args.count.0 = record {
      parcels = ap (λ (s : Stream). s.parcels) c.self.view_is;
      given_up = ap (λ (s : Stream). s.given_up) c.self.view_is;
      marks = c.in_ok-set.ensures.here
          ∙ ap (λ (m : Marks). record { bound = m.bound; end = Some c.args.count.0 }) c.marks-marks.ensures;
      others = λ other apart. c.in_ok-set.ensures.others other apart
          ∙ ap (λ (s : Stream). marks_at s.marks other) c.self.view_is;
    } in
    ended_standing old new c.args.cpu.0 c.args.count.0 (subst IsStanding c.self.view_is c.self.invariant) has
    (λ n r. (let below = c.reach-reach.ensures.behind n r in omega arith))
    (c.in_ok-set.ensures.says c.self.invariant.says)
