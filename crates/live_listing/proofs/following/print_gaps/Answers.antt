use Rattle.std.proofs.Common.{◌≡◌, ◌∷◌, [], ◌∙◌, ◌++◌, ◌+◌, ap, sym, List, ℕ, take, map, length, arith}
use Rattle.std.proofs.Math.Seq.{take-length}
use Rattle.std.proofs.lemmas.List.{take_more}
use Rattle.text_values.proofs.Chains.{put_then, put_same}
use Rattle.capture_text.specs.Printed.{bounds_of}
use Rattle.live_listing.specs.declared.pages.CpuPages.{CpuPages}
use Rattle.live_listing.specs.Gaps.{gap_seen}
use Rattle.live_listing.specs.Pages.{reached}
use Rattle.live_listing.specs.Printing.{gap_text}
use Rattle.live_listing.specs.Following.{last_gaps}
use Rattle.live_listing.proofs.Cpus.{number_there}
use Rattle.live_listing.proofs.Gaps.{one_gap_more}
use Rattle.live_listing.proofs.following.print_gaps.Goals as goal

pub loop-found-preserved : goal.loop-found-preserved
loop-found-preserved g c =
    let l = c.loop-found in
    let cpus = c.args.cpus.now in
    let printer = c.args.printer.now in
    let found = c.found-item.result in
    let n = l.found-index in
    let number : found.cpu.0 ≡ n = number_there cpus n found c.loop-found-test.true c.requires c.found-item.is in
    let more : take n cpus ++ found ∷ [] ≡ take (n + 1) cpus =
    ap (λ (f : CpuPages). take n cpus ++ f ∷ []) c.found-item.is
    ∙ sym (take_more cpus n found c.loop-found-test.true) in
    let put =
    put_same _ _
    (ap (λ (cpu : ℕ). gap_text printer.form (bounds_of printer cpu) c.args.size cpu (gap_seen found.gap)) number)
    c.print_gap.ensures in
    put_same _ _
    (one_gap_more printer.form (bounds_of printer) c.args.size n cpus found c.loop-found-test.true
    ∙ ap (λ (all : List CpuPages). last_gaps printer.form (bounds_of printer) c.args.size 0 (map reached all)) more)
    (put_then _ _ l.invariant put)

pub returns : goal.returns
returns g c =
    let l = c.loop-found in
    let cpus = c.args.cpus.now in
    let all : l.found-index ≡ length cpus = omega (arith, c.loop-found-test.false, l.auto.found-index-end) in
    put_same _ _
    (ap (λ (n : ℕ). last_gaps c.args.printer.now.form (bounds_of c.args.printer.now) c.args.size 0
    (map reached (take n cpus))) all
    ∙ ap (λ (found : List CpuPages). last_gaps c.args.printer.now.form (bounds_of c.args.printer.now) c.args.size 0
    (map reached found)) (take-length cpus))
    l.invariant
