use Rattle.std.proofs.Common.{◌≡◌, ◌+◌, ◌++◌, [], ◌∷◌, List, take, ◌∙◌, ap, sym, subst}
use Rattle.std.proofs.lemmas.List.{take_more, take_all}
use Rattle.trace_model.specs.Collection.{IsSame}
use Rattle.page_numbers.specs.Parcels.{as_parcels}
use Rattle.capture.specs.Pages.{Page}
use Rattle.capture.specs.Rings.{parcels_of_captures}
use Rattle.capture.specs.declared.files.captured.CpuCapture.{CpuCapture}
use Rattle.collect_command.specs.Gathered.{AreReadFrom}
use Rattle.collect_command.proofs.Captures.{last_read, front_read, capture_added, capture_agrees}
use Rattle.collect_command.proofs.gather.gather.Goals as goal

pub add_parcels-requires : goal.add_parcels-requires
add_parcels-requires c =
    let (parts, captures, read) = c.requires in
    let k = c.loop-found.found-index in
    let cs = c.args.cpus.now in
    let found = c.found-item.result in
    let more : take k cs ++ found ∷ [] ≡ take (k + 1) cs =
    ap (λ (x : CpuCapture). take k cs ++ x ∷ []) c.found-item.is ∙ sym (take_more cs k found c.loop-found-test.true) in
    let front = take (k + 1) captures in
    let last = last_read parts 0 (take k cs) found front (subst (λ (xs : List CpuCapture). AreReadFrom parts 0 xs front)
    (sym more) (front_read parts 0 (k + 1) cs captures read)) in
    let before = c.loop-found.invariant parts last.others last.front_read in
    capture_agrees c.loop-found.collector _ last.others last.own found.capture.cpu.0 before
    (ap as_parcels c.deref.ensures.value ∙ last.last_read.capture_is.parcels_are) last.last_read.cpu_is
    (c.captures_agree.ensures.several 0 (last.others ++ last.own ∷ []))

pub loop-found-preserved : goal.loop-found-preserved
loop-found-preserved c parts captures read =
    let k = c.loop-found.found-index in
    let cs = c.args.cpus.now in
    let found = c.found-item.result in
    let more : take k cs ++ found ∷ [] ≡ take (k + 1) cs =
    ap (λ (x : CpuCapture). take k cs ++ x ∷ []) c.found-item.is ∙ sym (take_more cs k found c.loop-found-test.true) in
    let last =
    last_read parts 0 (take k cs) found captures
    (subst (λ (xs : List CpuCapture). AreReadFrom parts 0 xs captures) (sym more) read) in
    let is = last.last_read.capture_is in
    let before = c.loop-found.invariant parts last.others last.front_read in
    subst (λ (pages : List (List Page)). IsSame c.add_parcels.new.collector (parcels_of_captures 0 pages))
    (sym last.captures_are)
    (capture_added c.loop-found.collector c.add_parcels.new.collector _ last.others last.own found.capture.cpu.0 before
    c.in_ok-add_parcels.ensures (ap as_parcels c.deref.ensures.value ∙ is.parcels_are) last.last_read.cpu_is)

pub returns : goal.returns
returns c parts captures read =
    c.loop-found.invariant parts captures
    (subst (λ (xs : List CpuCapture). AreReadFrom parts 0 xs captures)
    (sym (take_all c.loop-found.found-index c.args.cpus.now c.loop-found-test.false)) read)
