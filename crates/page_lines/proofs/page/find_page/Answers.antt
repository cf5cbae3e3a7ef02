use Rattle.std.proofs.Common.{[], ◌∷◌, ap, sym, ◌∙◌, subst, List, ℕ}
use Rattle.std.specs.Prelude.{◌==◌, not}
use Rattle.page_numbers.specs.Parcels.{as_parcels}
use Rattle.capture.specs.Pages.{Page, damages_from}
use Rattle.capture.specs.Captures.{IsCapture, AreDamages}
use Rattle.capture.specs.declared.pages.Damaged.{Damaged}
use Rattle.page_lines.proofs.OnePage.{told_same, found_read, found_damaged}
use Rattle.page_lines.proofs.page.find_page.Goals as goal

pub returns-in-Some : goal.returns-in-Some
returns-in-Some c =
    let added = c.in_ok-add_page.ensures.read [] c.new-capture.ensures.none in
    let read = c.add_page.new.self in
    let is : IsCapture read (added.page ∷ []) =
    subst (λ (p : Page). IsCapture read (p ∷ [])) (told_same added.page) added.capture_is in
    let last = ap as_parcels (sym c.in-Some.ensures.items) ∙ is.parcels_are in
    let stated = ap (λ (n : ℕ). not (n == 0)) read.unknown.ok.0 in (
      added.page,
      added.page_is,
      found_read read.cpu.0 added.page c.pop.new.self.items c.in-Some.parcel read.unknown.items
          (record { least = c.missed.result; is_unknown = not c.is_empty-is_unknown.result }) last is.unknown_are
          c.missed.ensures.missed (ap not c.is_empty-is_unknown.ensures ∙ stated),
    )

pub returns : goal.returns
returns c =
    let added = c.in_ok-add_page.ensures.read [] c.new-capture.ensures.none in
    let read = c.add_page.new.self in
    let is : IsCapture read (added.page ∷ []) =
    subst (λ (p : Page). IsCapture read (p ∷ [])) (told_same added.page) added.capture_is in
    let none_read = sym read.parcels.ok.0 ∙ c.in_default.ensures.cases.0 in (
      added.page,
      added.page_is,
      found_damaged read.cpu.0 added.page read.parcels.items c.pop-2.new.self.items c.in-Some-pop.damaged
          is.parcels_are none_read
          (subst (λ (all : List Damaged). AreDamages all (damages_from 0 0 (added.page ∷ [])))
          c.in-Some-pop.ensures.items is.damaged_are),
    )
