use Rattle.std.proofs.Common.{◌≡◌, ◌++◌, [], Err, sym, append-nil, arith}
use Rattle.std.proofs.lemmas.Grind.{common_steps}
use Rattle.capture.specs.declared.pages.CaptureFault.TheVariants.{Numbers}
use Rattle.std.specs.Prelude.{map}
use Rattle.page_image.specs.Images.{missed_of}
use Rattle.capture.specs.Pages.{told}
use Rattle.capture.proofs.CapturedFiles.{on_ok}
use Rattle.capture.proofs.Adding.{adds-page, adds-all, adds-past}
use Rattle.capture.proofs.pages.Capture.add_bytes.Goals as goal

pub returns-in_err-add_copy-clause-numbers : goal.returns-in_err-add_copy-clause-numbers
returns-in_err-add_copy-clause-numbers c = λ pages is numbers.
    let reported : c.add_copy.result ≡ Err Numbers = grind (arith, common_steps) in
    adds-past _ _ _ _ c.split_at.result.0.now c.split_at.result.1.now _ c.loop-rest.self c.loop-rest.invariant
    (omega arith) (grind (arith, common_steps)) (λ ps was. c.add_copy.ensures.numbers ps was reported) pages is

pub loop-rest-preserved : goal.loop-rest-preserved
loop-rest-preserved c =
    adds-page _ _ _ _ c.split_at.result.0.now c.split_at.result.1.now _ c.loop-rest.self _ c.loop-rest.invariant
    c.requires.some
    (omega arith) (grind (arith, common_steps)) c.add_copy.ensures.cpu (λ ps was. c.in_ok-add_copy.ensures.read ps was)

pub returns-clause-read : goal.returns-clause-read
returns-clause-read c = λ pages is.
    let w = c.loop-rest.invariant.are pages is in
    on_ok c.add_copy-2.result
    (adds-all _ _ _ _ _ c.loop-rest.self _ c.loop-rest.invariant pages is (omega (arith, c.loop-rest-test.false)))
    (c.add_copy-2.ensures.read (pages ++ map (told (missed_of c.args.unknown)) w.more) w.capture_is)

pub returns-clause-numbers : goal.returns-clause-numbers
returns-clause-numbers c = λ pages is numbers.
    adds-past _ _ _ c.loop-rest.rest.now c.loop-rest.rest.now [] _ c.loop-rest.self c.loop-rest.invariant
    (omega (arith, c.loop-rest-test.false)) (sym (append-nil c.loop-rest.rest.now))
    (λ ps was. c.add_copy-2.ensures.numbers ps was numbers) pages is
