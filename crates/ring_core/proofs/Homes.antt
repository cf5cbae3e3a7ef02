-- The pages at home, as one is laid there or taken.
use Rattle.std.proofs.Common.{◌≡◌, ◌≢◌, ℕ, zero, suc, ◌+◌, ◌<◌, List, [], ◌∷◌, length, Some, refl, sym, ap, ◌∙◌, arith}
use Rattle.std.specs.Prelude.{slice_set}
use Rattle.std.specs.List.{slice_get}
use Rattle.std.proofs.lemmas.List.{length-map}
use Rattle.trace_model.specs.Ring.{Core, page_at}
use Rattle.link_marks.specs.ModelLinks.{link_of}
use Rattle.ring_model.proofs.contents.PageChanges.{page_below}
use Rattle.ring_core.specs.declared.ring.Core.TheInside.{Inside}
use Rattle.ring_core.specs.Value.{CoreValue}
use Rattle.ring_core.specs.Inside.{core_of, IsInside}
use Rattle.ring_core.specs.IsCore.{IsCore}
use Rattle.ring_core.proofs.Stepped.{kept_of}

pub get_set_same : {A : Type 0} (xs : List A) (i : ℕ) (x : A) → i < length xs → slice_get (slice_set xs i x) i ≡ Some x
get_set_same [] i x low = absurd (omega arith)
get_set_same (y ∷ xs) zero x low = refl
get_set_same (y ∷ xs) (suc i) x low = get_set_same xs i x (omega arith)

pub get_set_other : {A : Type 0} (xs : List A) (i : ℕ) (x : A) (j : ℕ) → j ≢ i
    → slice_get (slice_set xs i x) j ≡ slice_get xs j
get_set_other [] i x j ne = refl
get_set_other (y ∷ xs) zero x zero ne = absurd (ne refl)
get_set_other (y ∷ xs) zero x (suc j) ne = refl
get_set_other (y ∷ xs) (suc i) x zero ne = refl
get_set_other (y ∷ xs) (suc i) x (suc j) ne = get_set_other xs i x j (λ e. ne (ap suc e))

-- the page at a position has a home
pub page_has_home : (n size start : ℕ) (v : CoreValue) (c : Core) (at f : ℕ) → IsCore n size start v c
    → length v.homes ≡ length v.links + 1 → at ≡ page_at (length v.links) v.order f → at < length v.homes
page_has_home n size start v c at f core homes is =
    let k = kept_of n size start v c core in let some = k.links.some_pages in let wide = core.shows.positions in
    let low = page_below n c.order c.spare f (omega arith) k.links.apart in
    let here : at ≡ page_at n c.order f = is ∙ (λ i. page_at (core.shows.positions i) (sym core.shows.order_is i) f) in
    omega arith

pub homes_in : (w : Inside) → IsInside w → length (core_of w).homes ≡ length (core_of w).links + 1
homes_in w inside = inside.homes ∙ ap (λ (k : ℕ). k + 1) (sym (length-map w.links.items link_of))
