use Rattle.std.proofs.Common.{[], ◌∷◌, get_or, sym}
use Rattle.std.proofs.lemmas.List.{append-nil}
use Rattle.trace_script.proofs.ValueLemmas.{two_with}
use Rattle.trace_script.proofs.UsualLemmas.{begins_asked, alone_joined, steps_behind, record_behind}
use Rattle.trace_script.proofs.usual.line_of_cpu.Goals as goal

pub returns-then-end-eq10 : goal.returns-then-end-eq10
returns-then-end-eq10 c = λ cpus collectors. (
  [],
  sym (append-nil c.args.payloads.now.items),
  λ x is_cpu.
      begins_asked cpus collectors _ _ [] c.in_ok-kind.kind c.args.cpu.0 0 c.asked.result
      (x ∷ (get_or c.args.text.now 0 0 ∷ []) ∷ []) c.asked.ensures
      (c.in_ok-kind.ensures cpus collectors c.args.cpu.0 x is_cpu)
      (alone_joined x c.args.text.now _ (get_or c.args.text.now 0 0)
      (two_with c.args.text.now 10 c.in-len2-up.len_at_least c.if-end-eq10.true)),
)

pub returns-then-word-eq115 : goal.returns-then-word-eq115
returns-then-word-eq115 c =
    steps_behind c.args.cpu.0 c.args.text.now _ c.args.payloads.now.items c.steps_line.result c.steps_line.ensures
    (two_with c.args.text.now 32 c.in-len2-up.len_at_least c.if-end-ne32.false)

pub returns : goal.returns
returns c =
    record_behind c.args.cpu.0 c.args.text.now _ c.args.payloads.now.items c.record_line.new.payloads.items
    c.record_line.result c.record_line.ensures
    (two_with c.args.text.now 32 c.in-len2-up.len_at_least c.if-end-ne32.false)
