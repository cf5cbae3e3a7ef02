use Rattle.std.proofs.Common.{◌≡◌, None, refl, sym, ◌∙◌, subst, rules, arith}
use Rattle.std.proofs.lemmas.Result.{on_ok_weaker}
use Rattle.text_model.specs.Log.{LogLine}
use Rattle.text_model.specs.Printing.{printed_log_line}
use Rattle.script_replay.specs.log.LogTypes.{shown_log}
use Rattle.script_replay.specs.Tells.{IsTextTold}
use Rattle.script_replay.proofs.StepsTold.{still_text, known_told, new_told}
use Rattle.std.proofs.lemmas.Option.{slice_get_read}
use Rattle.page_numbers.specs.Parcels.{as_parcel}
use Rattle.script_replay.proofs.LinesObeyed.{log_more, rises, collectors_count, may_add, untaken_line, taken_line}
use Rattle.script_replay.proofs.replaying.deliver.Goals as goal

pub taken_page-requires : goal.taken_page-requires
taken_page-requires g c = let (script, ready) = c.requires in
    rw c.as_slice.ensures.value
    (rises script ready.lines c.args.state.now ready.limits ready.part_way c.args.cpu.0 ready.within.1)

pub returns-in_default : goal.returns-in_default
returns-in_default g c =
    let none : c.taken_page.result ≡ None = search rules in
    on_ok_weaker c.report_delivery.result
    (λ r script ready lines part_way. (
      untaken_line script c.args.line c.args.collector c.args.cpu.0 c.args.fill.0 lines c.args.state.now _
          ready.limits ready.within.1 refl part_way
          (rw c.as_slice.ensures.value at (c.taken_page.ensures.not_found none)) refl
          (log_more c.args.state.now.reports.log c.report_delivery.new.self.log _ _ r.log refl) r.steps,
      still_text _ c.args.state.now.reports.steps c.report_delivery.new.self.steps r.steps,
    ))
    c.report_delivery.ensures

pub index_mut-requires : goal.index_mut-requires
index_mut-requires g c = let (script, ready) = c.requires in
    let count = collectors_count script ready.lines c.args.state.now ready.limits ready.part_way in
    let ok = c.args.state.now.collectors.ok in
    omega (arith, count, ready.within.0, ok.0, ok.1)

pub collect-requires : goal.collect-requires
collect-requires g c = let (script, ready) = c.requires in
    let count = collectors_count script ready.lines c.args.state.now ready.limits ready.part_way in
    let at =
    slice_get_read c.args.state.now.collectors.items script.collectors c.args.collector c.index_mut.result.now
    (sym count) ready.within.0 c.index_mut.ensures.value in
    may_add script ready.lines c.args.state.now ready.limits ready.part_way c.args.cpu.0 c.args.fill.0 c.args.collector
    c.index_mut.result.now (as_parcel c.in-Some.parcel.now) ready.within.1
    (rw c.as_slice.ensures.value at c.in-Some.ensures.found) at

pub returns-in-Known : goal.returns-in-Known
returns-in-Known g c = λ script ready lines part_way.
    let count = collectors_count script lines c.args.state.now ready.limits part_way in
    let at =
    slice_get_read c.args.state.now.collectors.items script.collectors c.args.collector c.index_mut.result.now
    (sym count) ready.within.0 c.index_mut.ensures.value in
    let r = c.in_ok-report_delivery.ensures in
    let old = c.args.state.now.reports.steps in
    let new = c.report_delivery-2.new.self.steps in
    let told = subst (λ (l : LogLine). IsTextTold (printed_log_line l) old new) c.reported_delivery.ensures r.steps in
    let whole =
    known_told c.args.line c.args.collector c.args.cpu.0 c.args.fill.0 c.in_ok-added.added
    (as_parcel c.in-Some.parcel.now) old new c.in-Known.is told in (
      taken_line script c.args.line c.args.collector c.args.cpu.0 c.args.fill.0 lines c.args.state.now _
          ready.limits ready.within.1 refl part_way (as_parcel c.in-Some.parcel.now) c.in_ok-added.added
          c.index_mut.result.now c.collect.new.collector
          (rw c.as_slice.ensures.value at c.in-Some.ensures.found) at c.in_ok-added.ensures.added refl
          (log_more c.args.state.now.reports.log c.report_delivery-2.new.self.log _ _ r.log
          c.reported_delivery.ensures) whole,
      still_text _ old new whole,
    )

pub returns-in-New : goal.returns-in-New
returns-in-New g c = on_ok_weaker c.report_gains.result
    (λ gains script ready lines part_way.
    let count = collectors_count script lines c.args.state.now ready.limits part_way in
    let at =
    slice_get_read c.args.state.now.collectors.items script.collectors c.args.collector c.index_mut.result.now
    (sym count) ready.within.0 c.index_mut.ensures.value in
    let r = c.in_ok-report_delivery.ensures in
    let old = c.args.state.now.reports.steps in
    let middle = c.report_delivery-2.new.self.steps in
    let new = c.report_gains.new.self.steps in
    let told =
    subst (λ (l : LogLine). IsTextTold (printed_log_line l) old middle) c.reported_delivery.ensures r.steps in
    let whole =
    new_told c.args.line c.args.collector c.args.cpu.0 c.args.fill.0 c.in_ok-added.added
    (as_parcel c.in-Some.parcel.now) old middle new c.in-New.is told gains.steps in (
      taken_line script c.args.line c.args.collector c.args.cpu.0 c.args.fill.0 lines c.args.state.now _
          ready.limits ready.within.1 refl part_way (as_parcel c.in-Some.parcel.now) c.in_ok-added.added
          c.index_mut.result.now c.collect.new.collector
          (rw c.as_slice.ensures.value at c.in-Some.ensures.found) at c.in_ok-added.ensures.added refl
          ((λ i. shown_log (gains.log i))
          ∙ log_more c.args.state.now.reports.log c.report_delivery-2.new.self.log _ _ r.log
          c.reported_delivery.ensures) whole,
      still_text _ old new whole,
    ))
    c.report_gains.ensures
