use Rattle.std.proofs.Common.{ℕ, ◌-◌, List, [], ◌∷◌, ◌++◌, Ok, length, length-append, sym, ◌∙◌, ap, subst, arith}
use Rattle.std.proofs.lemmas.Result.{err_from_is_err_and}
use Rattle.trace_script.specs.Kept.{Kept, shown, commands_kept, AreKept}
use Rattle.trace_script.proofs.KeptLemmas.{line_kept}
use Rattle.trace_script.proofs.ScriptLemmas.{Commands, Read, commands_fail, commands_turn, commands_end, read_turn}
use Rattle.trace_script.proofs.ScriptLemmas.{line_read, line_refused}
use Rattle.trace_script.proofs.read.read_commands.Goals as goal

pub returns-in_err-order-clause-gives : goal.returns-in_err-order-clause-gives
returns-in_err-order-clause-gives c =
    let next = c.in_err-order.ensures.next in
    let fails =
    commands_fail c.args.cpus c.args.collectors _ _ _ _ _ _ c.in_err-order.field-0.0
    c.loop-payloads.invariant.so_far next.1 next.2 in
    let p = err_from_is_err_and c.from_residual.result c.from_residual.ensures.1 in
    rw (p.1, p.2) fails

pub overflow_sub-above : goal.overflow_sub-above
overflow_sub-above c =
    let later = rw c.in-Some.is at c.in_ok-order.ensures.later in
    omega (arith, later, c.len.ensures, c.loop-payloads.invariant.numbered)

pub loop-payloads-preserved : goal.loop-payloads-preserved
loop-payloads-preserved c =
    let next = rw c.in-Some.is at c.in_ok-order.ensures.next in
    let later = rw c.in-Some.is at c.in_ok-order.ensures.later in
    let before = c.loop-payloads.invariant in
    let puts = next.2 in
    let order = c.in-Some.order in
    let passed = c.next_order.new.lines.passed in
    let line : Kept =
    record {
      kind = order.kind;
      cpu = order.cpu;
      above = passed - c.len.result;
      end = c.len-in-Some.result;
      value = order.value;
    } in
    let pushed = c.in-Ok.ensures.pushed ∙ ap (λ (l : Kept). c.loop-payloads.kept ++ l ∷ []) c.placed-line.ensures in
    let more = line_kept c.loop-payloads.payloads.items _ puts.0 c.loop-payloads.kept _ line passed puts.1 pushed
    (c.len-in-Some.ensures ∙ c.next_order.new.payloads.ok.0)
    (omega (arith, later, c.len.ensures, before.numbered))
    (omega arith)
    before.kept in
    record {
      so_far =
          commands_turn c.args.cpus c.args.collectors _ _ _ _ _ _ _ (shown puts.0 order) before.so_far next.1 puts.2
          more.0;
      read =
          read_turn c.args.cpus c.args.collectors _ _ _ _ _ _ _ (shown puts.0 order) before.read next.1 puts.2 more.0;
      numbered =
          omega (
            arith,
            later,
            before.numbered,
            ap (λ (l : List Kept). length l) pushed,
            length-append c.loop-payloads.kept (line ∷ []),
          );
      kept = more.1;
    }

pub of-requires : goal.of-requires
of-requires c =
    let next = rw c.in_default.is at c.in_ok-order.ensures.next in
    subst (λ (bs : List ℕ). AreKept 0 0 (length bs) c.loop-payloads.kept) (sym next.1) c.loop-payloads.invariant.kept

pub returns-in_err-order-clause-memory : goal.returns-in_err-order-clause-memory
returns-in_err-order-clause-memory c = λ refused.
    let next = c.in_err-order.ensures.next in
    let p = err_from_is_err_and c.from_residual.result c.from_residual.ensures.1 in
    line_refused c.args.cpus c.args.collectors _ _ _ _ _ _ c.in_err-order.field-0.0 c.loop-payloads.invariant.read
    next.1 next.2 (cc)

pub returns-in_default-push-clause-memory : goal.returns-in_default-push-clause-memory
returns-in_default-push-clause-memory c = λ refused.
    let next = rw c.in-Some.is at c.in_ok-order.ensures.next in
    let puts = next.2 in
    line_read c.args.cpus c.args.collectors _ _ _ _ _ _ (shown puts.0 c.in-Some.order) c.loop-payloads.invariant.read
    next.1 puts.2

pub returns-clause-gives : goal.returns-clause-gives
returns-clause-gives c =
    let next = rw c.in_default.is at c.in_ok-order.ensures.next in
    commands_end c.args.cpus c.args.collectors _ _ _ c.loop-payloads.invariant.so_far next.0
    ∙ ap (λ (bs : List ℕ). let r : Read Commands = Ok (commands_kept bs 0 0 c.loop-payloads.kept) in r) (sym next.1)
    ∙ ap (λ (cs : Commands). let r : Read Commands = Ok cs in r) (sym c.of.ensures)
