use Rattle.std.proofs.Common.{subst, sym, ap, ◌∙◌}
use Rattle.time_merge.specs.Lines.{line_seen}
use Rattle.text_values.proofs.Chains.{put_same}
use Rattle.capture_text.specs.declared.form.Form.{Form}
use Rattle.capture_text.specs.declared.naming.Naming.{Naming}
use Rattle.capture_text.specs.Printed.{IsDetail}
use Rattle.capture_text.specs.Printing.{record_line}
use Rattle.capture_text.proofs.Details.{text_line, json_line}
use Rattle.capture_text.proofs.lines.put_record.Goals as goal

pub returns-in-Text-Fields-clause-text : goal.returns-in-Text-Fields-clause-text
returns-in-Text-Fields-clause-text g c = λ detail is.
    let line = line_seen c.args.line.now in
    let said = c.in-Text-Fields in
    put_same _ _
    (text_line said.names said.fields said.beside line detail
    (subst (λ (n : Naming). IsDetail n detail) said.is-1 is)
    ∙ ap (λ (f : Form). record_line f detail line) (sym said.is-0))
    c.put_fielded_line.ensures.text

pub returns-in-Json-Fields-clause-text : goal.returns-in-Json-Fields-clause-text
returns-in-Json-Fields-clause-text g c = λ detail is.
    let line = line_seen c.args.line.now in
    let said = c.in-Json-Fields in
    put_same _ _
    (json_line said.names said.fields said.beside line detail
    (subst (λ (n : Naming). IsDetail n detail) said.is-1 is)
    ∙ ap (λ (f : Form). record_line f detail line) (sym said.is-0))
    c.put_json_fielded_line.ensures.text
