use Rattle.std.proofs.Common.{◌≡◌, ℕ, Bool, List, [], ◌∷◌, true, false, not, refl, sym, ap, true≢false}
use Rattle.std.proofs.lemmas.Bool.{false≢true}
use Rattle.page_image.specs.Images.{missed_of}
use Rattle.page_image.specs.declared.image.Missed.{Missed}
use Rattle.capture.specs.Pages.{least_missed, unknown_at}
use Rattle.page_lines.proofs.StatedLosses.{told_counted, told_unknown}
use Rattle.page_lines.proofs.page.Loss.told.Goals as goal

is_false : (b : Bool) → not b ≡ true → b ≡ false
is_false true same = absurd (false≢true same)
is_false false same = refl

is_true : (b : Bool) → not b ≡ false → b ≡ true
is_true true same = refl
is_true false same = absurd (true≢false same)

pub returns-then-not-self : goal.returns-then-not-self
returns-then-not-self c page parcel found =
    let loss = c.args.self in
    told_counted c.args.known loss parcel page found (is_false loss.is_unknown c.if-not-self.true)

pub returns-in-None : goal.returns-in-None
returns-in-None c page parcel found =
    let loss = c.args.self in
    let known = c.args.known in
    told_unknown known loss (record { least = 0; is_unknown = false }) parcel page found
    (is_true loss.is_unknown c.if-not-self.false)
    (sym (ap (λ (k : Missed). least_missed (missed_of k)) c.in-None.is))
    (λ next. ap (λ (k : Missed). unknown_at next (missed_of k)) c.in-None.is)

pub returns-in-Count : goal.returns-in-Count
returns-in-Count c page parcel found =
    let loss = c.args.self in
    let known = c.args.known in
    told_unknown known loss (record { least = c.in-Count.least; is_unknown = false }) parcel page found
    (is_true loss.is_unknown c.if-not-self.false)
    (sym (ap (λ (k : Missed). least_missed (missed_of k)) c.in-Count.is))
    (λ next. ap (λ (k : Missed). unknown_at next (missed_of k)) c.in-Count.is)
