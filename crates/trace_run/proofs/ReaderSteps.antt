-- What a reader takes on, and where the gate lets it pass meanwhile.
use Rattle.std.specs.Prelude.{Bool, true, Contains, Some, Result, Ok, Err}
use Rattle.std.specs.List.{slice_get}
use Rattle.std.proofs.Common.{◌≡◌, ℕ, zero, suc, List, [], ◌∷◌, ◌++◌, refl, sym, ◌∙◌, subst, ⊎_elim}
use Rattle.std.proofs.lemmas.List.Elements.{Contains-append_cases}
use Rattle.trace_model.specs.Parcel.{Parcel}
use Rattle.page_numbers.specs.Parcels.{ParcelValue, as_parcels}
use Rattle.world_model.specs.World.{parcel_of}
use Rattle.world_model.proofs.Lookups.{element_at}
use Rattle.ring_shared.specs.Value.{ReaderValue}
use Rattle.ring_shared.specs.Takes.{SameRing}
use Rattle.trace_run.specs.declared.writers.gate.Who.{Who}
use Rattle.trace_run.specs.declared.writers.gate.Who.TheVariants as who
use Rattle.trace_run.specs.readers.Value.{ReaderEndValue}
use Rattle.trace_run.specs.declared.readers.end.Found.{Found}
use Rattle.trace_run.specs.declared.readers.end.Found.TheVariants.{Page, Empty, Moving}
use Rattle.trace_run.specs.readers.Takes.{IsFound}
use Rattle.trace_run.proofs.TakesMore.{last_same}
use Rattle.trace_run.specs.declared.threaded.reading.Stop.{Stop}
use Rattle.trace_run.specs.declared.threaded.reading.Stop.TheVariants.{NoMemory, Shut}
use Rattle.trace_run.specs.threaded.Asked.{HaveReadersPassed}
use Rattle.trace_run.specs.threaded.Taking.{IsPassedLast, TakesOn, HasTaken}

only : (x y : Parcel) → Contains (x ∷ []) y → y ≡ x
only x y has = let (k, at) = element_at (x ∷ []) y has in of_one k at
  where
    of_one : (k : ℕ) → slice_get (x ∷ []) k ≡ Some y → y ≡ x
    of_one zero at = cc
    of_one (suc k) at = absurd (cc)

pub same_ring : (a b c : ReaderValue) → SameRing a b → SameRing b c → SameRing a c
same_ring a b c first then = (then.0 ∙ first.0, then.1 ∙ first.1)

module _ {Gate : Type 0} (answers : Gate → Who → (cpu fill : ℕ) → Bool → Type 0) (gate : Gate) (cpu : ℕ) where
  pub takes_none : (end : ReaderEndValue) → TakesOn answers gate cpu end end
  takes_none end = record { cpu_is = refl; same = (refl, refl); passed = λ were. were }

  -- the page that was taken last is passed, too
  one_passed : (before after : List Parcel) (page : Parcel)
      → after ≡ before ++ page ∷ []
      → IsPassedLast answers gate cpu after
      → HaveReadersPassed answers gate cpu before
      → HaveReadersPassed answers gate cpu after
  one_passed before after page is last were parcel has =
      let same : last.last ≡ page = last_same last.earlier before last.last page (sym last.taken_are ∙ is) in
      let at_page : answers gate who.Reader cpu page.fill true =
      subst (λ (p : Parcel). answers gate who.Reader cpu p.fill true) same last.passed in
      ⊎_elim (λ earlier. were parcel earlier)
      (λ here. subst (λ (p : Parcel). answers gate who.Reader cpu p.fill true) (sym (only page parcel here)) at_page)
      (Contains-append_cases before (page ∷ []) parcel (subst (λ (l : List Parcel). Contains l parcel) is has))

  passed_more : (found : Found) (now next : ReaderEndValue)
      → IsFound found now next
      → (found ≡ Page → IsPassedLast answers gate cpu (as_parcels next.taken))
      → HaveReadersPassed answers gate cpu (as_parcels now.taken)
      → HaveReadersPassed answers gate cpu (as_parcels next.taken)
  passed_more Page now next is last were =
      one_passed (as_parcels now.taken) (as_parcels next.taken) (parcel_of now.cpu is.is.taken) is.one_more (last refl)
      were
  passed_more Empty now next is last were =
      subst (λ (l : List ParcelValue). HaveReadersPassed answers gate cpu (as_parcels l)) (sym is.taken_are) were
  passed_more Moving now next is last were =
      subst (λ (l : List ParcelValue). HaveReadersPassed answers gate cpu (as_parcels l)) (sym is.taken_are) were

  -- one take more, after which a page was passed on
  pub takes_more : (before now next : ReaderEndValue) (found : Found)
      → TakesOn answers gate cpu before now
      → next.cpu ≡ now.cpu
      → SameRing now.reader next.reader
      → IsFound found now next
      → (found ≡ Page → IsPassedLast answers gate cpu (as_parcels next.taken))
      → TakesOn answers gate cpu before next
  takes_more before now next found on cpu_is same is last = record {
    cpu_is = cpu_is ∙ on.cpu_is;
    same = same_ring before.reader now.reader next.reader on.same same;
    passed = λ were. passed_more found now next is last (on.passed were);
  }

-- what is known of the pages that are passed on to a gate within something is known of that gate
pub gate_behind : {Gate Other : Type 0} (answers : Gate → Who → (cpu fill : ℕ) → Bool → Type 0) (behind : Other → Gate)
    (passing : Other) (cpu : ℕ) (before : ReaderEndValue) (result : Result ReaderEndValue Stop)
    → HasTaken (λ p. answers (behind p)) passing cpu before result
    → HasTaken answers (behind passing) cpu before result
gate_behind answers behind passing cpu before (Ok after) on =
    record { cpu_is = on.cpu_is; same = on.same; passed = on.passed }
gate_behind answers behind passing cpu before (Err NoMemory) stop = tt
gate_behind answers behind passing cpu before (Err (Shut fill)) stop = stop
