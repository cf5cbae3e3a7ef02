use Rattle.std.proofs.Common.{sym, ◌∙◌}
use Rattle.trace_script.specs.ScriptTypes.{setting_of}
use Rattle.trace_script.proofs.ScriptLemmas.{setting_read, setting_missing}
use Rattle.trace_script.proofs.header.read_setting.Goals as goal

pub returns-in_default-clause-gives : goal.returns-in_default-clause-gives
returns-in_default-clause-gives c =
    setting_missing _ (setting_of c.args.setting) _ _ c.in_default.ensures.left
    (sym c.in_default.ensures.end ∙ c.in_default.ensures.passed)

pub returns-clause-gives : goal.returns-clause-gives
returns-clause-gives c =
    setting_read (λ v. v) _ (setting_of c.args.setting) _ c.in-Some.line.number c.in-Some.line.text.now _
    c.value_in-value.result _ c.in-Some.ensures.left c.value_in-value.ensures.gives c.reading_at.ensures
