-- The records of a CPU before its cut.
use Rattle.std.proofs.Common.{◌≡◌, ◌⊎◌, ⊎_elim, ℕ, zero, suc, ◌+◌, ◌<◌, ◌≤◌, List, [], ◌∷◌, ◌++◌, length, map, take}
use Rattle.std.proofs.Common.{◌-◌, drop, Some, sym, ap, ◌∙◌, subst, arith}
use Rattle.std.specs.List.{slice_get}
use Rattle.std.proofs.lemmas.Bool.{cases_lt}
use Rattle.std.proofs.lemmas.List.{take-append-drop, map-append}
use Rattle.std.proofs.lemmas.Option.{none-some, slice_get_within, slice_get-get_or}
use Rattle.page_borrow.specs.declared.entries.Entry.{Entry}
use Rattle.page_borrow.specs.Entries.{numbered_record}
use Rattle.fleet_collector.proofs.Telling.{only}
use Rattle.trace_model.specs.Record.{Record}
use Rattle.trace_model.proofs.collections.Elements.{some_is, get_in_front, get_in_either}
use Rattle.collector.specs.Listed.{AreListed, AreRecordsFrom}
use Rattle.stream_collector.specs.Stream.{Stream, bound_of}
use Rattle.stream_collector.specs.Frontier.{IsCut}
use Rattle.stream_collector.proofs.Frontiers.{same_watermark}
use Rattle.fleet_collector.specs.Listing.{IsListingBefore, HasBefore}
use Rattle.fleet_collector.specs.Lines.{IsListingShown}
use Rattle.fleet_collector.specs.Listing.{Line}
use Rattle.trace_model.specs.declared.numbers.Moment.{Moment}

-- ---- a cut

no_later_cut : (s : Stream) (cpu moment a b : ℕ) → IsCut s cpu moment a → IsCut s cpu moment b → a < b → ⊥
no_later_cut s cpu moment a b one other lt =
    let same = same_watermark s cpu one.watermark other.watermark one.is_watermark other.is_watermark in
    let up = other.up_to in
    let next = one.stops (omega arith) in
    let late = next.2 in
    let early = other.before a next.0 next.1 lt in
    absurd (omega arith)

pub below_cut : (s : Stream) (cpu moment a b n : ℕ) → IsCut s cpu moment a → IsCut s cpu moment b → n < a → n < b
below_cut s cpu moment a b n one other below = ⊎_elim
    (λ (lt : n < b). lt)
    (λ (le : b ≤ n). absurd (no_later_cut s cpu moment b a other one (omega arith)))
    (cases_lt n b)

-- ---- the first of rising records

get_taken : {X : Type 0} (k : ℕ) (xs : List X) (j : ℕ) (x : X) → slice_get (take k xs) j ≡ Some x
    → slice_get xs j ≡ Some x
get_taken k xs j x at = subst (λ ys. slice_get ys j ≡ Some x) (take-append-drop k xs)
    (get_in_front (take k xs) (drop k xs) j x at)

get_early : {X : Type 0} (k : ℕ) (xs : List X) (j : ℕ) (x : X) → j < k → slice_get xs j ≡ Some x
    → slice_get (take k xs) j ≡ Some x
get_early zero xs j x lt at = absurd (omega arith)
get_early (suc k) [] j x lt at = absurd (none-some x at)
get_early (suc k) (y ∷ xs) zero x lt at = at
get_early (suc k) (y ∷ xs) (suc j) x lt at = get_early k xs j x (omega arith) at

taken_within : {X : Type 0} (k : ℕ) (xs : List X) (j : ℕ) (x : X) → slice_get (take k xs) j ≡ Some x → j < k
taken_within zero xs j x at = absurd (none-some x at)
taken_within (suc k) [] j x at = absurd (none-some x at)
taken_within (suc k) (y ∷ xs) zero x at = omega arith
taken_within (suc k) (y ∷ xs) (suc j) x at = let lt = taken_within k xs j x at in omega arith

-- far ones rise too
rises_far : (list : List (ℕ × Record))
    → ((k : ℕ) (a b : ℕ × Record) → slice_get list k ≡ Some a → slice_get list (suc k) ≡ Some b → a.0 < b.0)
    → (d k : ℕ) (a b : ℕ × Record) → slice_get list k ≡ Some a → slice_get list (k + suc d) ≡ Some b → a.0 < b.0
rises_far list rising zero k a b at next =
    rising k a b at (subst (λ (i : ℕ). slice_get list i ≡ Some b)
    (let e : k + suc 0 ≡ suc k = omega arith in e) next)
rises_far list rising (suc d) k a b at next =
    let within = slice_get_within list (k + suc (suc d)) b next in
    let lt : k + suc d < length list = omega arith in
    let middle = slice_get-get_or list (k + suc d) a lt in
    let low = rises_far list rising d k a _ at middle in
    let high = rising (k + suc d) _ b middle (subst (λ (i : ℕ). slice_get list i ≡ Some b)
    (let e : k + suc (suc d) ≡ suc (k + suc d) = omega arith in e) next) in
    omega arith

-- the list stops there, or what follows isn't before the cut
abbrev pub StopsAt : List (ℕ × Record) → (cut index : ℕ) → Type 0
StopsAt list cut index = (length list ≤ index)
    ⊎ ((next : ℕ × Record) × (slice_get list index ≡ Some next) × (cut ≤ next.0))

-- each of the first ones is before the cut
abbrev pub AreBeforeCut : List (ℕ × Record) → (cut index : ℕ) → Type 0
AreBeforeCut list cut index = (j : ℕ) (a : ℕ × Record) → j < index → slice_get list j ≡ Some a → a.0 < cut

pub listed_before : (s : Stream) (cpu moment cut : ℕ) (list : List (ℕ × Record)) (index : ℕ)
    → AreRecordsFrom s.parcels cpu (bound_of s cpu) list → IsCut s cpu moment cut
    → AreBeforeCut list cut index → StopsAt list cut index
    → AreListed (HasBefore s moment cpu) (take index list)
listed_before s cpu moment cut list index records is low stops = record {
  rising = λ k a b at next. records.rising k a b (get_taken index list k a at) (get_taken index list (suc k) b next);
  of_them = λ k a at.
      let there = get_taken index list k a at in
      let h = records.of_them k a there in
      record {
        has = record { from = h.up; has = h.has };
        cut = cut;
        is_cut = is;
        below = low k a (taken_within index list k a at) there;
      };
  whole = λ n r h.
      let own = h.has in
      let found = records.whole n r record { has = own.has; up = own.from } in
      let below = below_cut s cpu moment h.cut cut n h.is_cut is h.below in
      ⊎_elim
      (λ (lt : found.0 < index). (found.0, get_early index list found.0 (n, r) lt found.1))
      (λ (le : index ≤ found.0). absurd (⊎_elim
      (λ (end : length list ≤ index). let within = slice_get_within list found.0 (n, r) found.1 in omega arith)
      (λ (stop : (next : ℕ × Record) × (slice_get list index ≡ Some next) × (cut ≤ next.0)).
      let high = stop.2 in
      ⊎_elim
      (λ (lt : index < found.0).
      let less = rises_far list records.rising (found.0 - suc index) index stop.0 (n, r) stop.1
      (subst (λ (i : ℕ). slice_get list i ≡ Some (n, r))
      (let e : found.0 ≡ index + suc (found.0 - suc index) = omega arith in e) found.1) in
      omega arith)
      (λ (ge : found.0 ≤ index).
      let e : found.0 ≡ index = omega arith in
      let same : stop.0 ≡ (n, r) = some_is stop.0 (n, r)
      (sym stop.1 ∙ subst (λ (i : ℕ). slice_get list i ≡ Some (n, r)) e found.1) in
      let is_n : stop.0.0 ≡ n = ap (λ (x : ℕ × Record). x.0) same in
      omega arith)
      (cases_lt index found.0))
      stops))
      (cases_lt found.0 index);
}

-- ---- one record more

-- each of these is before the cut
abbrev pub AllBelowCut : List (ℕ × Record) → (cut : ℕ) → Type 0
AllBelowCut list cut = (j : ℕ) (a : ℕ × Record) → slice_get list j ≡ Some a → a.0 < cut

pub none_above : (cut : ℕ) → AllBelowCut [] cut
none_above cut j a at = absurd (none-some a at)

pub one_more_below : (done : List Entry) (entry : Entry) (cut : ℕ) → AllBelowCut (map numbered_record done) cut
    → (numbered_record entry).0 < cut → AllBelowCut (map numbered_record (done ++ entry ∷ [])) cut
one_more_below done entry cut low lt j a at =
    let there : slice_get (map numbered_record done ++ numbered_record entry ∷ []) j ≡ Some a =
    subst (λ (xs : List (ℕ × Record)). slice_get xs j ≡ Some a) (map-append numbered_record done (entry ∷ [])) at in
    ⊎_elim
    (λ (front : (k : ℕ) × (slice_get (map numbered_record done) k ≡ Some a)). low front.0 a front.1)
    (λ (back : (k : ℕ) × (slice_get (numbered_record entry ∷ []) k ≡ Some a)).
    subst (λ (x : ℕ × Record). x.0 < cut) (only (numbered_record entry) back.0 a back.1) lt)
    (get_in_either (map numbered_record done) (numbered_record entry ∷ []) j a there)

-- so are the first ones of all that are listed
pub first_below : (done list : List (ℕ × Record)) (cut index : ℕ) → done ≡ take index list → AllBelowCut done cut
    → AreBeforeCut list cut index
first_below done list cut index is low j a lt at =
    low j a (subst (λ (xs : List (ℕ × Record)). slice_get xs j ≡ Some a) (sym is) (get_early index list j a lt at))

-- ---- by what is shown

pub before_shown : (fleet : List (ℕ × Stream)) (moment : Moment) (lines : List Line)
    → IsListingShown (Some moment) fleet lines → IsListingBefore fleet moment.0 lines
before_shown fleet moment lines p = record { ordered = p.ordered; of_them = p.of_them; whole = p.whole }
