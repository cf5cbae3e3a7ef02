use Rattle.std.proofs.Common.{arith}
use Rattle.trace_script.proofs.ValueLemmas.{first_and_rest, both_with}
use Rattle.trace_script.proofs.PayloadLemmas.{payload_there, dash_there}
use Rattle.trace_script.proofs.payload.payload_cut.Goals as goal

pub returns-then-end-eq10 : goal.returns-then-end-eq10
returns-then-end-eq10 c =
    dash_there c.args.text.now _ c.args.payloads.now.items
    (both_with c.args.text.now 45 10 c.in-len2-up.len_at_least c.if-dash-eq45.true c.if-end-eq10.true)

pub returns-then-len-start : goal.returns-then-len-start
returns-then-len-start c =
    payload_there c.args.text.now c.in-Ok.left.now _ c.args.payloads.now.items c.put_pairs.new.payloads.items
    c.in-Ok.ensures.0 (first_and_rest c.in-Ok.left.now 10 c.in-len1-up.len_at_least c.if-end-eq10-2.true)
    (omega (arith, c.len.ensures, c.len-start.ensures, c.args.payloads.now.ok.0, c.put_pairs.new.payloads.ok.0))
