use Rattle.std.proofs.Common.{◌≡◌, sym, ◌∙◌, map, rules}
use Rattle.std.specs.Prelude.{Ok}
use Rattle.event_fields.specs.Events.{list_seen}
use Rattle.event_fields.specs.Lines.{field_seen}
use Rattle.text_values.proofs.Chains.{put_then, put_same}
use Rattle.capture_text.specs.Sources.{event_source}
use Rattle.capture_text.proofs.PayloadsToo.{json_cut}
use Rattle.capture_text.proofs.fielded.put_json_list_or_payload.Goals as goal

pub returns-then-is_cut-clause-text : goal.returns-then-is_cut-clause-text
returns-then-is_cut-clause-text g c =
    let fields = map field_seen c.deref.result.now in
    let listed : list_seen c.args.list.now ≡ Ok fields =
    search (rules, c.in-Known.is, c.deref.ensures.value) in
    put_same _ _
    (json_cut (event_source c.args.names) _ fields c.args.payload.now listed
    (sym c.put_json_fields-is_cut.ensures.uncut ∙ c.if-is_cut.true))
    (put_then _ _ c.put_json_fields-is_cut.ensures.text c.put_json_payload_member.ensures)
