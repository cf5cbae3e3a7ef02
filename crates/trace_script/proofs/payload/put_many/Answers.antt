use Rattle.std.proofs.Common.{rules}
use Rattle.trace_script.proofs.PayloadLemmas.{many_turn}
use Rattle.trace_script.proofs.payload.put_many.Goals as goal

pub loop-digits-preserved : goal.loop-digits-preserved
loop-digits-preserved c =
    many_turn _ _ _ _ _ _ _ _ c.loop-digits.invariant c.in-Some.ensures.cases (search rules)
    c.bytes_of.ensures c.in-Ok.ensures.items
