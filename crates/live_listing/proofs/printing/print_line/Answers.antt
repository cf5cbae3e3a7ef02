use Rattle.std.proofs.Common.{◌≡◌, [], ◌∙◌, ap, ap₂, subst, List, ℕ, Option}
use Rattle.std.specs.Prelude.{if◌then◌else◌}
use Rattle.trace_model.specs.Listing.{Line}
use Rattle.text_values.proofs.Chains.{put_then, put_same}
use Rattle.capture_text.specs.declared.form.Form.{Form}
use Rattle.capture_text.specs.Printed.{PrintsRecord}
use Rattle.capture_text.specs.Selection.{Selected}
use Rattle.capture_text.specs.Window.{KnownBound}
use Rattle.capture_text.specs.Listed.{listed_late, listed_line}
use Rattle.live_listing.specs.Gaps.{gap_seen}
use Rattle.live_listing.specs.Printing.{listed_of, gap_text}
use Rattle.live_listing.proofs.Printed.{same_bound, one_printed}
use Rattle.live_listing.proofs.printing.print_line.Goals as goal

pub returns-clause-printed : goal.returns-clause-printed
returns-clause-printed g c = λ form detail selected before has.
    let printer = c.args.printer.now in
    let line = c.args.line.now in
    let place = line.place in
    let cpu = place.cpu.0 in
    let seen : Line =
    record { moment = place.moment.0; cpu = cpu; number = place.number.0; bytes = c.deref.result.now } in
    let same : seen ≡ listed_of line =
    ap
    (λ (bytes : List ℕ). record { moment = place.moment.0; cpu = cpu; number = place.number.0; bytes = bytes })
    c.deref.ensures.value in
    let gap =
    put_same _ _
    (ap₂ (λ (f : Form) (bound : Option KnownBound). gap_text f bound c.args.size cpu (gap_seen line.content.gap))
    has.form_is (same_bound form detail selected before printer cpu has))
    c.print_gap.ensures in
    let late =
    put_same _ _
    (ap₂ (λ (f : Form) (s : Selected). if c.args.is_late then listed_late f s seen else []) has.form_is has.selected_is
    ∙ ap (λ (l : Line). if c.args.is_late then listed_late form selected l else []) same)
    c.print_late.ensures in
    let put =
    put_same _ _
    (ap₂ (λ (f : Form) (s : Selected). listed_line f detail s seen) has.form_is has.selected_is
    ∙ ap (λ (l : Line). listed_line form detail selected l) same)
    (c.take_line.ensures.taken.put detail has.detail_is) in (
      one_printed form detail selected before (listed_of line) printer c.take_line.new.self c.print_late.new.out
          c.take_line.new.out has
          (subst (λ (l : Line). PrintsRecord l printer c.print_late.new.out c.take_line.new.self c.take_line.new.out)
          same c.take_line.ensures.taken),
      put_then _ _ (put_then _ _ gap late) put,
    )
