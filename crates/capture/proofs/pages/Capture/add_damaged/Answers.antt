use Rattle.std.proofs.Common.{◌++◌, ◌∷◌, [], refl, sym, subst}
use Rattle.capture.specs.Pages.{damaged}
use Rattle.capture.specs.Captures.{IsCapture}
use Rattle.capture.specs.declared.pages.Capture.{Capture}
use Rattle.capture.proofs.CapturedFiles.{on_ok_both, capture-damaged}
use Rattle.capture.proofs.pages.Capture.add_damaged.Goals as goal

pub returns-clause-read : goal.returns-clause-read
returns-clause-read c = λ pages cause was fault.
    on_ok_both c.count_page.result
    (λ counted few. subst (λ (new : Capture). IsCapture new (pages ++ damaged cause ∷ [])) (sym counted)
    (capture-damaged c.args.self.now _ pages cause _ was refl refl refl c.in_ok-push.ensures.items refl refl fault refl
    refl few))
    c.count_page.ensures.counted c.count_page.ensures.fits
