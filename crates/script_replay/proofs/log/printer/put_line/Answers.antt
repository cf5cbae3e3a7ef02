use Rattle.std.proofs.Common.{◌≡◌, ℕ, List, ◌++◌, append_assoc, ap, ◌∙◌}
use Rattle.std.proofs.lemmas.Result.{on_ok_weaker}
use Rattle.text_model.specs.Printing.{line_text, page_text}
use Rattle.script_replay.proofs.log.printer.put_line.Goals as goal

two_put : (before first out front rest : List ℕ) → first ≡ before ++ front → out ≡ first ++ rest
    → out ≡ before ++ (front ++ rest)
two_put before first out front rest a b =
    b ∙ ap (λ (t : List ℕ). t ++ rest) a ∙ append_assoc before front rest

pub returns-in_ok-put_front-in-Taken-clause-text : goal.returns-in_ok-put_front-in-Taken-clause-text
returns-in_ok-put_front-in-Taken-clause-text c =
    on_ok_weaker c.put_taken.result
    (λ put. rw c.in-Taken.is
    (two_put c.args.out.now.items c.put_front-in-Taken.new.out.items c.put_taken.new.out.items
    (line_text c.in-Taken.line c.in-Taken.cpu.0)
    (page_text c.in-Taken.fill.0 c.in-Taken.first.0 c.in-Taken.count c.in-Taken.missed)
    c.in_ok-put_front-in-Taken.ensures.text put))
    c.put_taken.ensures.text
