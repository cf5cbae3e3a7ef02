use Rattle.std.proofs.Common.{◌≡◌, ◌+◌, ◌++◌, [], ◌∷◌, List, take, Some, ◌∙◌, ap, sym, subst}
use Rattle.std.specs.List.{slice_get}
use Rattle.std.proofs.lemmas.List.{take_more, take_all}
use Rattle.std.proofs.lemmas.Option.{slice_get-get_or}
use Rattle.capture.specs.declared.files.captured.CpuCapture.{CpuCapture}
use Rattle.collect_command.specs.Gathered.{AreReadFrom}
use Rattle.collect_command.specs.Listings.{are_all_intact}
use Rattle.collect_command.proofs.Captures.{last_read, none_read}
use Rattle.collect_command.proofs.Printing.{own_intact, intact_more, not_intact}
use Rattle.collect_command.proofs.listing.are_intact.Goals as goal

pub loop-found-init : goal.loop-found-init
loop-found-init c parts captures read = ap are_all_intact (none_read parts 0 captures read)

pub loop-found-preserved : goal.loop-found-preserved
loop-found-preserved c parts captures read =
    let k = c.loop-found.found-index in
    let cs = c.args.cpus.now in
    let found = c.found-item.result in
    let more : take k cs ++ found ∷ [] ≡ take (k + 1) cs =
    ap (λ (x : CpuCapture). take k cs ++ x ∷ []) c.found-item.is ∙ sym (take_more cs k found c.loop-found-test.true) in
    let last =
    last_read parts 0 (take k cs) found captures
    (subst (λ (xs : List CpuCapture). AreReadFrom parts 0 xs captures) (sym more) read) in
    ap are_all_intact last.captures_are
    ∙ intact_more last.others last.own (c.loop-found.invariant parts last.others last.front_read)
    (own_intact last.own found.capture.damaged.items last.last_read.capture_is.damaged_are ∙ sym c.is_intact.ensures
    ∙ c.if-not-is_intact.false)

pub returns-then-not-is_intact : goal.returns-then-not-is_intact
returns-then-not-is_intact c parts captures read =
    let k = c.loop-found.found-index in
    let cs = c.args.cpus.now in
    let found = c.found-item.result in
    let at : slice_get cs k ≡ Some found =
    slice_get-get_or cs k found c.loop-found-test.true ∙ ap Some (sym c.found-item.is) in
    sym (not_intact parts 0 cs captures k found read at (sym c.is_intact.ensures ∙ c.if-not-is_intact.true))

pub returns : goal.returns
returns c parts captures read =
    sym (c.loop-found.invariant parts captures
    (subst (λ (xs : List CpuCapture). AreReadFrom parts 0 xs captures)
    (sym (take_all c.loop-found.found-index c.args.cpus.now c.loop-found-test.false)) read))
