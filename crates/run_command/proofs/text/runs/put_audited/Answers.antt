use Rattle.std.proofs.Common.{◌++◌, append_assoc, ◌∙◌, List, ℕ, ap}
use Rattle.collector_text.proofs.Shown.{stands_kept}
use Rattle.run_command.specs.text.Verdicts.{verdict_of}
use Rattle.run_command.specs.text.Printing.{printed_audit}
use Rattle.run_command.proofs.text.runs.put_audited.Goals as goal

pub returns-in_err-put_audit-clause-behind : goal.returns-in_err-put_audit-clause-behind
returns-in_err-put_audit-clause-behind c = (_, c.in_err-put_audit.ensures.kept ∙ c.in_ok-own.ensures.reported.2)

pub returns : goal.returns
returns c =
    let reported = c.in_ok-own.ensures.reported in
    let more = c.in_ok-put_audit.ensures.text
    ∙ ap (λ (t : List ℕ). t ++ printed_audit (verdict_of c.answer_of-answer.result)) reported.2
    ∙ append_assoc c.args.out.now.items _ (printed_audit (verdict_of c.answer_of-answer.result)) in
    record {
      reported = (
        record { collector = reported.0; verdict = verdict_of c.answer_of-answer.result },
        record { reports = reported.1; verdict = c.answer_of-answer.ensures },
        more,
      );
      below = stands_kept c.args.collector.now c.put_collector.new.out.items
          (printed_audit (verdict_of c.answer_of-answer.result)) c.put_audit.new.out.items _ _
          c.in_ok-put_audit.ensures.text c.in_ok-own.ensures.below;
      behind = (_, more);
    }
