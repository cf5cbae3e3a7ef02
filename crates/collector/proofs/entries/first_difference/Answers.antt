use Rattle.std.proofs.Common.{◌≡◌, ⊎_elim, ℕ, ◌<◌, Bool, true, false, not, sym, ◌∙◌, subst, arith}
use Rattle.std.proofs.lemmas.Bool.{cases_lt}
use Rattle.page_numbers.specs.Parcels.{as_parcel}
use Rattle.collector.specs.Entries.{record_of}
use Rattle.collector.proofs.Records.{same_here, differ_here, left_behind}
use Rattle.collector.proofs.entries.first_difference.Goals as goal

from_not : (b : Bool) → not b ≡ true → b ≡ false
from_not true e = cc
from_not false e = cc

to_not : (b : Bool) → not b ≡ false → b ≡ true
to_not true e = cc
to_not false e = cc

pub returns-then-ne-clause-differ : goal.returns-then-ne-clause-differ
returns-then-ne-clause-differ c =
    let l = c.loop-number in
    differ_here (as_parcel c.args.parcel.now) (as_parcel c.args.other.now) l.number l.own c.next.new.self l.others
    c.next-in-loop-number.new.self c.next.result c.next-in-loop-number.result
    l.invariant.own_left c.next.ensures.steps l.invariant.others_left c.next-in-loop-number.ensures.steps
    (from_not _ (sym c.ne.ensures ∙ c.if-ne.true))

pub loop-number-preserved : goal.loop-number-preserved
loop-number-preserved c =
    let l = c.loop-number in
    record {
      own_left =
          left_behind (as_parcel c.args.parcel.now) l.number l.own c.next.new.self c.next.result (omega arith)
          l.invariant.own_left c.next.ensures.steps;
      others_left =
          left_behind (as_parcel c.args.other.now) l.number l.others c.next-in-loop-number.new.self
          c.next-in-loop-number.result (omega arith) l.invariant.others_left c.next-in-loop-number.ensures.steps;
      same = λ m from below. ⊎_elim
          (λ (lt : m < l.number). l.invariant.same m from lt)
          (λ ge. let e : m ≡ l.number = omega arith in
          subst (λ (k : ℕ). record_of (as_parcel c.args.parcel.now) k ≡ record_of (as_parcel c.args.other.now) k)
          (sym e)
          (same_here (as_parcel c.args.parcel.now) (as_parcel c.args.other.now) l.number l.own c.next.new.self l.others
          c.next-in-loop-number.new.self c.next.result c.next-in-loop-number.result
          l.invariant.own_left c.next.ensures.steps l.invariant.others_left c.next-in-loop-number.ensures.steps
          (to_not _ (sym c.ne.ensures ∙ c.if-ne.false))))
          (cases_lt m l.number);
    }
