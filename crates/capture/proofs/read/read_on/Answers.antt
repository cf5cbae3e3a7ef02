use Rattle.std.proofs.Common.{◌≡◌, ◌∙◌, Err, None, Some, length, take, List, ℕ, ◌++◌, sym, ap, subst, arith}
use Rattle.std.proofs.lemmas.Grind.{common_steps}
use Rattle.std.proofs.lemmas.List.{length-take, take_all}
use Rattle.std.specs.Prelude.{map}
use Rattle.capture.specs.Smaller.{smaller_in}
use Rattle.trace_model.specs.Image.{unknown}
use Rattle.capture.specs.Pages.{Page, told}
use Rattle.capture.specs.Captures.{IsCapture, AddsPage, PassesNumbers}
use Rattle.capture.specs.declared.pages.CaptureFault.TheVariants.{Numbers}
use Rattle.capture.proofs.ReadingOn.{reads-none, reads-page, reads-count, reads-more, reads-on, reads-past}
use Rattle.capture.proofs.ReadingOn.{reads-smaller, none-shown}
use Rattle.capture.proofs.read.read_on.Goals as goal

pub loop-filled-init : goal.loop-filled-init
loop-filled-init g c = record {
  reads = reads-none _ _ _ _;
  low = omega arith;
  within = c.requires.filled;
  at_end = c.requires.at_end;
  sound = c.requires.sound;
}

pub returns-in_err-add_page-clause-numbers : goal.returns-in_err-add_page-clause-numbers
returns-in_err-add_page-clause-numbers g c = λ before is numbers.
    let reported : c.add_page.result ≡ Err Numbers = grind (arith, common_steps) in
    let piece : List ℕ = c.loop-filled.piece in
    let whole : take c.loop-filled.filled piece ≡ piece =
    take_all c.loop-filled.filled piece (omega (arith, c.loop-filled-test.true)) in
    let none : smaller_in (take c.loop-filled.filled piece) ≡ None =
    ap smaller_in whole ∙ none-shown _ _ c.smaller_in.ensures c.in_default.not-Some in
    reads-past _ _ (take c.loop-filled.filled piece) _ _ _ c.loop-filled.capture c.loop-filled.invariant.reads
    (omega (arith, ap length whole, c.requires.some)) (omega (arith, ap length whole)) none
    (λ pages was.
    subst (λ (xs : List ℕ). PassesNumbers unknown xs pages) (sym whole)
    (c.add_page.ensures.numbers pages was reported))
    before is

pub loop-filled-preserved : goal.loop-filled-preserved
loop-filled-preserved g c =
    let piece : List ℕ = c.loop-filled.piece in
    let whole : take c.loop-filled.filled piece ≡ piece =
    take_all c.loop-filled.filled piece (omega (arith, c.loop-filled-test.true)) in
    let adds : (pages : List Page) → IsCapture c.loop-filled.capture pages
    → AddsPage unknown (take c.loop-filled.filled piece) pages c.add_page.new.self =
    λ pages was.
    subst (λ (xs : List ℕ). AddsPage unknown xs pages c.add_page.new.self) (sym whole)
    (c.in_ok-add_page.ensures.read pages was) in
    let more =
    reads-more _ _ _ _ _ _ c.loop-filled.capture c.add_page.new.self c.loop-filled.invariant.reads
    c.requires.known.0 c.requires.known.1 adds in
    let none : smaller_in (take c.loop-filled.filled piece) ≡ None =
    ap smaller_in whole ∙ none-shown _ _ c.smaller_in.ensures c.in_default.not-Some in
    record {
      reads =
          reads-page _ _ (take c.loop-filled.filled piece) (take c.in-Ok.count c.fill_piece.new.piece) _ _ _ _
          c.loop-filled.capture c.add_page.new.self
          c.loop-filled.invariant.reads c.requires.some (omega (arith, ap length whole)) none c.in-Ok.ensures.taken
          c.in_ok-add_page.ensures.cpu adds;
      low = omega (arith, more, c.loop-filled.invariant.low);
      within = c.in-Ok.ensures.bound;
      at_end = c.in-Ok.ensures.end;
      sound = grind (arith, common_steps);
    }

pub loop-filled-smaller : goal.loop-filled-smaller
loop-filled-smaller g c =
    let piece : List ℕ = c.loop-filled.piece in
    let whole : take c.loop-filled.filled piece ≡ piece =
    take_all c.loop-filled.filled piece (omega (arith, c.loop-filled-test.true)) in
    let adds : (pages : List Page) → IsCapture c.loop-filled.capture pages
    → AddsPage unknown (take c.loop-filled.filled piece) pages c.add_page.new.self =
    λ pages was.
    subst (λ (xs : List ℕ). AddsPage unknown xs pages c.add_page.new.self) (sym whole)
    (c.in_ok-add_page.ensures.read pages was) in
    let more =
    reads-more _ _ _ _ _ _ c.loop-filled.capture c.add_page.new.self c.loop-filled.invariant.reads
    c.requires.known.0 c.requires.known.1 adds in
    let w = c.loop-filled.invariant.reads.are c.requires.known.0 c.requires.known.1 in
    omega (arith, more, w.capture_is.count_is, w.capture_is.fit.fills)

pub returns-in_err-add_rest-clause-numbers : goal.returns-in_err-add_rest-clause-numbers
returns-in_err-add_rest-clause-numbers g c = λ before is numbers.
    let reported : c.add_rest.result ≡ Err Numbers = grind (arith, common_steps) in
    let w = c.loop-filled.invariant.reads.are before is in
    let passes = c.add_rest.ensures.numbers (before ++ map (told unknown) w.more) w.capture_is reported in
    reads-past _ _ (take c.loop-filled.filled c.loop-filled.piece) _ _ _ c.loop-filled.capture
    c.loop-filled.invariant.reads
    passes.0 (omega (arith, length-take c.loop-filled.filled c.loop-filled.piece))
    (none-shown _ _ c.smaller_in-2.ensures c.in_default-smaller_in.not-Some)
    (λ pages was. (c.add_rest.ensures.numbers pages was reported).1) before is

pub returns-clause-read : goal.returns-clause-read
returns-clause-read g c = λ before is.
    let count = reads-count _ _ _ _ _ _ c.loop-filled.capture c.loop-filled.invariant.reads before is in
    reads-on _ _ (take c.loop-filled.filled c.loop-filled.piece) _ _ _ c.loop-filled.capture c.add_rest.new.self _
    c.loop-filled.invariant.reads
    c.requires.some (omega (arith, length-take c.loop-filled.filled c.loop-filled.piece))
    (none-shown _ _ c.smaller_in-2.ensures c.in_default-smaller_in.not-Some)
    (λ pages was. c.in_ok-add_rest.ensures.read pages was)
    (omega (arith, count))
    (omega (arith, length-take c.loop-filled.filled c.loop-filled.piece, c.loop-filled.invariant.within)) before is

pub returns-in-Some-clause-smaller : goal.returns-in-Some-clause-smaller
returns-in-Some-clause-smaller g c = λ smaller is.
    let same : c.in-Some.bytes ≡ smaller = cc in
    let piece : List ℕ = c.loop-filled.piece in
    let whole : take c.loop-filled.filled piece ≡ piece =
    take_all c.loop-filled.filled piece (omega (arith, c.loop-filled-test.true)) in
    reads-smaller _ _ (take c.loop-filled.filled piece) _ _ _ c.loop-filled.capture smaller
    c.loop-filled.invariant.reads c.requires.some (omega (arith, ap length whole))
    (ap smaller_in whole ∙ sym c.smaller_in.ensures ∙ c.in-Some.is ∙ ap Some same)

pub returns-in-Some-smaller_in-clause-smaller : goal.returns-in-Some-smaller_in-clause-smaller
returns-in-Some-smaller_in-clause-smaller g c = λ smaller is.
    let same : c.in-Some-smaller_in.bytes ≡ smaller = cc in
    reads-smaller _ _ (take c.loop-filled.filled c.loop-filled.piece) _ _ _ c.loop-filled.capture smaller
    c.loop-filled.invariant.reads c.requires.some
    (omega (arith, length-take c.loop-filled.filled c.loop-filled.piece))
    (sym c.smaller_in-2.ensures ∙ c.in-Some-smaller_in.is ∙ ap Some same)
