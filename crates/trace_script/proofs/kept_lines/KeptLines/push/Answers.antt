use Rattle.std.proofs.Common.{◌≡◌, List, [], ◌∷◌, ◌++◌, vec_len, sym, ap, ◌∙◌, arith}
use Rattle.std.proofs.lemmas.Bool.{eqb-true}
use Rattle.trace_script.specs.Kept.{Kept}
use Rattle.trace_script.proofs.KeptLemmas.{front_pushed}
use Rattle.trace_script.proofs.kept_lines.KeptLines.push.Goals as goal

pub returns-in-Some-clause-pushed : goal.returns-in-Some-clause-pushed
returns-in-Some-clause-pushed c =
    let wide = c.self.inside.wide in
    let narrow = c.self.inside.narrow in
    let none : vec_len wide ≡ 0 = eqb-true (vec_len wide) 0 (sym c.is_empty.ensures ∙ c.if-is_empty.true) in
    front_pushed narrow.items c.push.new.self.items wide.items c.args.line (omega (arith, none, wide.ok.0))
    (c.in_ok-push.ensures.items ∙ ap (λ (line : Kept). narrow.items ++ line ∷ []) c.in-Some.ensures)
    ∙ ap (λ (l : List Kept). l ++ c.args.line ∷ []) c.self.view_is
