use Rattle.std.proofs.Common.{◌↔◌, sym, subst}
use Rattle.std.specs.Prelude.{IsTrue}
use Rattle.trace_script.specs.declared.fields.Fields.{Fields}
use Rattle.trace_script.specs.ScriptFields.{HasNoFifth}
use Rattle.trace_script.proofs.FieldLemmas.{whole_rest}
use Rattle.trace_script.proofs.fields.is_whole.Goals as goal

pub returns-in-More : goal.returns-in-More
returns-in-More c =
    subst (λ (fields : Fields). IsTrue c.is_none.result ↔ HasNoFifth fields) (sym c.in-More.is)
    (whole_rest c.in-More.rest.now c.field_cut.result.0.now c.field_cut.result.1 c.is_none.result
    c.field_cut.ensures.parts c.is_none.ensures)
