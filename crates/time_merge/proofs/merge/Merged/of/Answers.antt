use Rattle.std.proofs.Common.{◌∙◌, sym, subst, arith}
use Rattle.time_merge.specs.Heads.{heads_of}
use Rattle.time_merge.specs.Sources.{AreRanksOf}
use Rattle.time_merge.proofs.Heads.{count_of_heads}
use Rattle.time_merge.proofs.Turns.{first_turn}
use Rattle.time_merge.proofs.merge.Merged.of.Goals as goal

pub invariant_of-result : goal.invariant_of-result
invariant_of-result g c =
    let head = g.S.LineSource.head in
    let sources = c.args.sources in
    let whole = sources.ok.0 in
    let few = c.len.type_inv in
    let len = c.len.ensures in
    let all = c.len-number-end.ensures in
    let count = c.loop-number.invariant.count in
    let heads = count_of_heads head sources.items in
    first_turn (heads_of head sources.items) c.in_ok-order.order c.first_turn-turn.result
    (subst (AreRanksOf (heads_of head sources.items)) (sym (c.in_ok-order.ensures ∙ c.deref.ensures.value)) record {
      count_is = omega (arith, c.loop-number.auto.number-end, c.loop-number-test.false);
      each = c.loop-number.invariant.each;
    })
    (omega arith) c.first_turn-turn.ensures.bound c.first_turn-turn.ensures.some c.first_turn-turn.ensures.none
