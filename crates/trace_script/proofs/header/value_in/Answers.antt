use Rattle.std.proofs.Common.{sym, ◌∙◌}
use Rattle.trace_script.specs.ScriptTypes.{setting_of}
use Rattle.trace_script.proofs.ScriptLemmas.{value_in_badly_spaced, value_from_two, no_value_without_two}
use Rattle.trace_script.proofs.header.value_in.Goals as goal

pub returns-then-not-is_well_spaced-clause-gives : goal.returns-then-not-is_well_spaced-clause-gives
returns-then-not-is_well_spaced-clause-gives c =
    value_in_badly_spaced (setting_of c.args.setting) c.args.line.now
    (sym c.is_well_spaced.ensures ∙ c.if-not-is_well_spaced.true)

pub returns-in-Two-clause-gives : goal.returns-in-Two-clause-gives
returns-in-Two-clause-gives c =
    value_from_two (λ v. v) (setting_of c.args.setting) c.args.line.now c.in-Two.word c.in-Two.number _
    (sym c.is_well_spaced.ensures ∙ c.if-not-is_well_spaced.false) c.in-Two.ensures c.value_given.ensures.gives

pub returns-in_default-clause-gives : goal.returns-in_default-clause-gives
returns-in_default-clause-gives c =
    no_value_without_two (setting_of c.args.setting) c.args.line.now c.fields_of.result
    (sym c.is_well_spaced.ensures ∙ c.if-not-is_well_spaced.false) c.fields_of.ensures c.in_default.not-Two
