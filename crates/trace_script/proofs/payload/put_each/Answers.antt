use Rattle.trace_script.proofs.PayloadLemmas.{pair_turn}
use Rattle.trace_script.proofs.payload.put_each.Goals as goal

pub loop-left-preserved : goal.loop-left-preserved
loop-left-preserved c =
    pair_turn c.args.text.now c.loop-left.left.now c.args.payloads.now.items c.loop-left.payloads.items
    c.push.new.self.items c.pair_value-byte.result c.loop-left.invariant c.in-len2-up.len_at_least
    c.pair_value-byte.ensures.value c.if-byte-ge-NO_DIGIT.false c.in_ok-push.ensures.items
