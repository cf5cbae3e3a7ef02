use Rattle.std.proofs.Common.{◌≡◌, ℕ, ◌+◌, ◌++◌, [], ◌∷◌, List, take, ◌∙◌, ap, sym, subst}
use Rattle.std.proofs.lemmas.List.{take_more, take_all}
use Rattle.capture.specs.Pages.{unknown_from}
use Rattle.capture.specs.declared.files.captured.CpuCapture.{CpuCapture}
use Rattle.capture_text.specs.Listed.{listed_losses}
use Rattle.capture_text.specs.Printed.{bounds_of}
use Rattle.collect_command.specs.Gathered.{AreReadFrom}
use Rattle.collect_command.specs.Listings.{all_unknown}
use Rattle.collect_command.proofs.Captures.{last_read, none_read}
use Rattle.text_values.proofs.Chains.{put_none, put_more, put_same}
use Rattle.collect_command.proofs.Printing.{unknown_more}
use Rattle.collect_command.proofs.listing.print_unknown.Goals as goal

pub loop-found-init : goal.loop-found-init
loop-found-init g c = λ parts captures read.
    put_same _ _ (sym (ap (all_unknown c.args.printer.now.form (bounds_of c.args.printer.now) 0)
    (none_read parts 0 captures read)))
    (put_none c.args.out.now)

pub loop-found-preserved : goal.loop-found-preserved
loop-found-preserved g c = λ parts captures read.
    let form = c.args.printer.now.form in
    let bounds = bounds_of c.args.printer.now in
    let k = c.loop-found.found-index in
    let cs = c.args.cpus.now in
    let found = c.found-item.result in
    let more : take k cs ++ found ∷ [] ≡ take (k + 1) cs =
    ap (λ (x : CpuCapture). take k cs ++ x ∷ []) c.found-item.is ∙ sym (take_more cs k found c.loop-found-test.true) in
    let last =
    last_read parts 0 (take k cs) found captures
    (subst (λ (xs : List CpuCapture). AreReadFrom parts 0 xs captures) (sym more) read) in
    put_more _ _ _ _ _ _
    (ap (all_unknown form bounds 0) last.captures_are ∙ unknown_more form bounds 0 last.others last.own
    ∙ ap (λ (n : ℕ). all_unknown form bounds 0 last.others ++ listed_losses form (bounds n) n (unknown_from 0 last.own))
    (sym last.last_read.cpu_is))
    (c.loop-found.invariant parts last.others last.front_read)
    (c.put_unknown.ensures last.own last.last_read.capture_is)

pub returns : goal.returns
returns g c parts captures read =
    c.loop-found.invariant parts captures
    (subst (λ (xs : List CpuCapture). AreReadFrom parts 0 xs captures)
    (sym (take_all c.loop-found.found-index c.args.cpus.now c.loop-found-test.false)) read)
