-- The numbers that are counted over a capture, beside those of the pieces of a ring.
use Rattle.std.proofs.Common.{◌≡◌, ℕ, zero, suc, ◌+◌, ◌≤◌, List, [], ◌∷◌, length, None, Some, refl, sym, ap, subst}
use Rattle.std.proofs.Common.{arith}
use Rattle.std.specs.List.{slice_get}
use Rattle.trace_model.specs.Record.{Record}
use Rattle.trace_model.specs.Partition.{Piece, covered_count, first_from}
use Rattle.trace_model.specs.Parcel.{Parcel}
use Rattle.trace_model.specs.ParcelBytes.{AgreesWith}
use Rattle.trace_model.specs.Image.{Missed, none, unknown, counted}
use Rattle.capture.specs.Pages.{Page, intact, damaged, least_missed, parcel_at, parcels_from, behind}
use Rattle.capture.specs.Rings.{AreReported, HaveCounts}

pub none_some : {x : Parcel} → None ≡ Some x → ⊥
none_some e = cc

pub some_parcel : (a b : Parcel) → Some a ≡ Some b → a ≡ b
some_parcel a b e = cc

-- a count is what was missed
pub least_is : (missed : Missed) (n : ℕ) → AgreesWith missed n → (missed ≡ unknown → ⊥) → least_missed missed ≡ n
least_is none n agrees known = sym agrees
least_is unknown n agrees known = absurd (known refl)
least_is (counted events) n agrees known = agrees.1

-- no more is counted than was missed
least_fits : (missed : Missed) (n : ℕ) → AgreesWith missed n → least_missed missed ≤ n
least_fits none n agrees = omega arith
least_fits unknown n agrees = omega arith
least_fits (counted events) n agrees = let same = agrees.1 in omega arith

-- where all counts are known, a parcel is the piece at its index
pub exact-at : (cpu fill next : ℕ) (pages : List Page) (pieces : List Piece) → AreReported pages pieces
    → HaveCounts pages
    → (k : ℕ) (parcel : Parcel) → slice_get (parcels_from cpu fill next pages) k ≡ Some parcel
    → (slice_get pieces k ≡ Some record { skipped = parcel.missed; records = parcel.records })
    × (first_from next pieces k ≡ Some parcel.first)
exact-at cpu fill next [] pieces reported counts k parcel at = absurd (none_some at)
exact-at cpu fill next (damaged cause ∷ pages) pieces reported counts k parcel at = absurd counts
exact-at cpu fill next (intact read ∷ pages) [] reported counts k parcel at = absurd reported
exact-at cpu fill next (intact read ∷ pages) (p ∷ pieces) (records_are, agrees, more) (known, others) zero parcel at =
    let skips : least_missed read.missed ≡ p.skipped = least_is read.missed p.skipped agrees known in
    subst (λ (q : Parcel).
    (Some p ≡ Some record { skipped = q.missed; records = q.records })
    × (Some (next + p.skipped) ≡ Some q.first))
    (some_parcel (parcel_at cpu fill next read) parcel at)
    (piece_is skips records_are, ap (λ (n : ℕ). Some (next + n)) (sym skips))
  where
    piece_is : {n : ℕ} {records : List Record} → n ≡ p.skipped → records ≡ p.records
        → Some p ≡ Some record { skipped = n; records = records }
    piece_is {n = n} {records = records} e f =
        subst (λ (m : ℕ). Some p ≡ Some record { skipped = m; records = records }) (sym e)
        (subst (λ (rs : List Record). Some p ≡ Some record { skipped = p.skipped; records = rs }) (sym f) refl)
exact-at cpu fill next (intact read ∷ pages) (p ∷ pieces) (records_are, agrees, more) (known, others) (suc k) parcel
    at =
    let skips : least_missed read.missed ≡ p.skipped = least_is read.missed p.skipped agrees known in
    let long = ap (length {A = Record}) records_are in
    let start : behind next (intact read) ≡ next + covered_count p = omega arith in
    let rest = exact-at cpu (suc fill) (behind next (intact read)) pages pieces more others k parcel at in
    (rest.0, subst (λ (n : ℕ). first_from n pieces k ≡ Some parcel.first) start rest.1)

-- In every capture a parcel has the records of the piece at its page's place, which is `j` pages after the first, under
-- numbers that are no higher.
pub least-at : (cpu fill next number : ℕ) (pages : List Page) (pieces : List Piece) → AreReported pages pieces
    → next ≤ number
    → (k : ℕ) (parcel : Parcel) → slice_get (parcels_from cpu fill next pages) k ≡ Some parcel
    → (j : ℕ) × (p : Piece) × (first : ℕ) × (parcel.fill ≡ fill + j) × (slice_get pieces j ≡ Some p)
    × (first_from number pieces j ≡ Some first) × (parcel.records ≡ p.records) × (parcel.first ≤ first)
    × (parcel.missed ≤ p.skipped)
least-at cpu fill next number [] pieces reported low k parcel at = absurd (none_some at)
least-at cpu fill next number (page ∷ pages) [] reported low k parcel at = absurd reported
least-at cpu fill next number (damaged cause ∷ pages) (p ∷ pieces) more low k parcel at =
    let rest = least-at cpu (suc fill) next (number + covered_count p) pages pieces more (omega arith) k parcel at in
    (suc rest.0, rest.1, rest.2, omega (arith, rest.3), rest.4, rest.5, rest.6, rest.7, rest.8)
least-at cpu fill next number (intact read ∷ pages) (p ∷ pieces) (records_are, agrees, more) low zero parcel at =
    let fits : least_missed read.missed ≤ p.skipped = least_fits read.missed p.skipped agrees in
    let is = some_parcel (parcel_at cpu fill next read) parcel at in (
      0,
      p,
      number + p.skipped,
      subst (λ (q : Parcel). q.fill ≡ fill + 0) is (omega arith),
      refl,
      refl,
      subst (λ (q : Parcel). q.records ≡ p.records) is records_are,
      subst (λ (q : Parcel). q.first ≤ number + p.skipped) is (omega arith),
      subst (λ (q : Parcel). q.missed ≤ p.skipped) is fits,
    )
least-at cpu fill next number (intact read ∷ pages) (p ∷ pieces) (records_are, agrees, more) low (suc k) parcel at =
    let fits : least_missed read.missed ≤ p.skipped = least_fits read.missed p.skipped agrees in
    let long = ap (length {A = Record}) records_are in
    let rest =
    least-at cpu (suc fill) (behind next (intact read)) (number + covered_count p) pages pieces more (omega arith) k
    parcel at in
    (suc rest.0, rest.1, rest.2, omega (arith, rest.3), rest.4, rest.5, rest.6, rest.7, rest.8)
