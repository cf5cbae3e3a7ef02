use Rattle.std.specs.Prelude.{Result, Ok, Err, OnErr}
use Rattle.std.specs.Result.{is_err}
use Rattle.std.proofs.Common.{◌≡◌, true, sym, ◌∙◌, subst}
use Rattle.trace_model.specs.Steps.{steps}
use Rattle.ring_shared.specs.Calls.{MakesSome}
use Rattle.ring_shared.specs.Nearer.{IsNearer}
use Rattle.trace_run.specs.declared.writers.writer.LineWriter.{LineWriter}
use Rattle.trace_run.specs.writers.LineWriters.{CallsTop}
use Rattle.trace_run.proofs.TopCalls.{step_called}
use Rattle.trace_run.proofs.writers.writer.LineWriter.call_top.Goals as goal

if_err : {A E P : Type 0} (result : Result A E) → is_err result ≡ true → OnErr result P → P
if_err (Ok a) is p = absurd (cc)
if_err (Err e) is p = p

-- the frame on top has no slot
pub returns-then-is_err : goal.returns-then-is_err
returns-then-is_err c =
    let is = sym c.is_err.ensures.value ∙ c.if-is_err.true in
    let kept : c.end_top.new.self ≡ c.args.self.now = if_err c.end_top.result is c.end_top.ensures.kept in
    let old : LineWriter = c.args.self.now in
    subst (λ (x : LineWriter). CallsTop old record { writer = c.step-answer.new.self; payloads = x.payloads })
    (sym kept)
    (step_called old c.step-answer.new.self c.step-answer.result c.requires.is c.requires.top
    (if_err c.end_top.result is c.end_top.ensures.none)
    (subst (λ (x : LineWriter). MakesSome x.writer steps c.step-answer.result c.step-answer.new.self) kept
    c.step-answer.ensures.makes)
    (subst (λ (x : LineWriter). IsNearer x.writer c.step-answer.new.self) kept c.step-answer.ensures.nearer))
