-- Losses of unknown number that stay so.
use Rattle.std.proofs.Common.{◌≡◌, List, [], ◌∷◌, refl, ap, ap₂}
use Rattle.std.specs.Prelude.{map}
use Rattle.trace_model.specs.Image.{Missed, none, unknown, counted}
use Rattle.capture.specs.Pages.{Page, intact, damaged, told_of, told}

told_of-unknown : (missed : Missed) → told_of unknown missed ≡ missed
told_of-unknown none = refl
told_of-unknown unknown = refl
told_of-unknown (counted events) = refl

pub told-unknown : (page : Page) → told unknown page ≡ page
told-unknown (intact read) =
    ap (λ (m : Missed). intact record { missed = m; records = read.records }) (told_of-unknown read.missed)
told-unknown (damaged cause) = refl

pub all-told-unknown : (pages : List Page) → map (told unknown) pages ≡ pages
all-told-unknown [] = refl
all-told-unknown (page ∷ pages) =
    ap₂ (λ (p : Page) (ps : List Page). p ∷ ps) (told-unknown page) (all-told-unknown pages)
