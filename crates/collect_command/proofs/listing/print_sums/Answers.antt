use Rattle.std.proofs.Common.{◌≡◌, ℕ, ◌+◌, ◌++◌, [], ◌∷◌, List, length, take, Option, slice_index_or, ◌∙◌, ap, sym}
use Rattle.std.proofs.Common.{subst}
use Rattle.std.proofs.lemmas.List.{take_more, take_all}
use Rattle.trace_dat.specs.declared.kernel_texts.counters.Counters.{Counters}
use Rattle.capture.specs.Pages.{unknown_from}
use Rattle.capture.specs.declared.files.captured.CpuCapture.{CpuCapture}
use Rattle.capture_text.specs.LossSums.{missing_count}
use Rattle.capture_text.specs.Selection.{selection_seen}
use Rattle.text_values.proofs.Chains.{put_none, put_more, put_same}
use Rattle.collect_command.specs.Gathered.{AreReadFrom}
use Rattle.collect_command.specs.Listings.{AreCounted, all_sums, sum_of}
use Rattle.collect_command.proofs.Captures.{last_read, none_read}
use Rattle.collect_command.proofs.Sums.{last_counted, read_length, sums_more}
use Rattle.collect_command.proofs.listing.print_sums.Goals as goal

pub loop-found-init : goal.loop-found-init
loop-found-init g c = λ counted parts captures runs read are missing.
    put_same _ _ (sym (ap
    (all_sums c.args.printer.now.form (selection_seen c.args.printer.now.selection) counted runs 0)
    (none_read parts 0 captures read)))
    (put_none c.args.out.now)

pub loop-found-preserved : goal.loop-found-preserved
loop-found-preserved g c = λ counted parts captures runs read are missing.
    let form = c.args.printer.now.form in
    let selected = selection_seen c.args.printer.now.selection in
    let k = c.loop-found.found-index in
    let cs = c.args.cpus.now in
    let found = c.found-item.result in
    let more : take k cs ++ found ∷ [] ≡ take (k + 1) cs =
    ap (λ (x : CpuCapture). take k cs ++ x ∷ []) c.found-item.is ∙ sym (take_more cs k found c.loop-found-test.true) in
    let last =
    last_read parts 0 (take k cs) found captures
    (subst (λ (xs : List CpuCapture). AreReadFrom parts 0 xs captures) (sym more) read) in
    let own_counted =
    last_counted counted 0 (take k cs) found
    (subst (λ (xs : List CpuCapture). AreCounted counted 0 xs) (sym more) are) in
    let n = found.capture.cpu.0 in
    let n_is : 0 + length last.others ≡ n = sym last.last_read.cpu_is in
    let counters : counted n ≡ found.counters =
    ap counted (sym n_is ∙ ap (λ (l : ℕ). 0 + l) (read_length parts 0 (take k cs) last.others last.front_read))
    ∙ sym own_counted.1 in
    put_more _ _ _ _ _ _
    (ap (all_sums form selected counted runs 0) last.captures_are
    ∙ sums_more form selected counted runs 0 last.others last.own
    ∙ ap
    (λ (m : ℕ). all_sums form selected counted runs 0 last.others
    ++ sum_of form selected (counted m) m (missing_count (slice_index_or runs m [])) (length (unknown_from 0 last.own)))
    n_is
    ∙ ap
    (λ (known : Option Counters). all_sums form selected counted runs 0 last.others
    ++ sum_of form selected known n (missing_count (slice_index_or runs n [])) (length (unknown_from 0 last.own)))
    counters)
    (c.loop-found.invariant counted parts last.others runs last.front_read own_counted.0 missing)
    (c.print_sum.ensures last.own (slice_index_or runs n []) last.last_read.capture_is (missing n))

pub returns : goal.returns
returns g c counted parts captures runs read are missing =
    let all = sym (take_all c.loop-found.found-index c.args.cpus.now c.loop-found-test.false) in
    c.loop-found.invariant counted parts captures runs
    (subst (λ (xs : List CpuCapture). AreReadFrom parts 0 xs captures) all read)
    (subst (λ (xs : List CpuCapture). AreCounted counted 0 xs) all are) missing
