-- What is printed of a delivery, added to what a collector had and missed, is what it has and misses then.
use Rattle.std.proofs.Common.{◌≡◌, ℕ, zero, suc, ◌+◌, ◌-◌, ◌≤◌, ◌⊎◌, List, [], ◌∷◌, ◌++◌, length, Some, inl, inr, refl}
use Rattle.std.proofs.Common.{sym, subst, ⊎_elim, arith}
use Rattle.std.specs.List.{slice_get}
use Rattle.std.proofs.lemmas.Bool.{ne_eqb}
use Rattle.std.proofs.lemmas.Option.{none-some, slice_get_within, slice_get_cases}
use Rattle.trace_model.specs.Record.{Record}
use Rattle.trace_model.specs.Parcel.{Parcel, IsPairOf, IsMissingOf}
use Rattle.trace_model.specs.Collection.{Has, Misses}
use Rattle.trace_model.proofs.collections.Elements.{some_is, get_in_either}
use Rattle.trace_model.proofs.collections.Joined.{joined_left, joined_right}
use Rattle.text_model.specs.Log.{Delivery, new_page, known_page, no_page}
use Rattle.world_model.specs.World.{Brings}
use Rattle.step_model.specs.RunTexts.{Gain, has_run, misses_run, unless_none, gains_of, brought}
use Rattle.step_model.specs.StepLaws.{HasNumber, IsIn, GainsHas, GainsMissing, GainsLeadOn}

-- ---- runs

-- a run that isn't empty is there
some_gain : (n : ℕ) (gain : Gain) → unless_none (suc n) gain ≡ gain ∷ []
some_gain n gain = rw (ne_eqb (suc n) 0 (λ e. omega arith)) refl

module _ (cpu number : ℕ) where
  -- the numbers of a run, unless it is empty, are those that are had from it on
  has_run_adds : (of first count : ℕ) (gains : List Gain) → IsIn of first count cpu number
      → GainsHas (unless_none count (has_run of first count) ++ gains) cpu number
  has_run_adds of first zero gains (is, low, high) = absurd (let no : ⊥ = omega arith in no)
  has_run_adds of first (suc n) gains is =
      subst (λ (l : List Gain). GainsHas (l ++ gains) cpu number) (sym (some_gain n (has_run of first (suc n))))
      (inl is)

  has_run_alone : (of first count : ℕ) (gains : List Gain)
      → GainsHas (unless_none count (has_run of first count) ++ gains) cpu number
      → IsIn of first count cpu number ⊎ GainsHas gains cpu number
  has_run_alone of first zero gains has = inr has
  has_run_alone of first (suc n) gains has =
      subst (λ (l : List Gain). GainsHas (l ++ gains) cpu number) (some_gain n (has_run of first (suc n))) has

  -- a run that is missed has none
  misses_run_has : (of first count : ℕ) → GainsHas (unless_none count (misses_run of first count)) cpu number → ⊥
  misses_run_has of first zero has = has
  misses_run_has of first (suc n) has =
      subst (λ (l : List Gain). GainsHas l cpu number) (some_gain n (misses_run of first (suc n))) has

  has_run_misses : (of first count : ℕ) (gains : List Gain) → GainsMissing gains cpu number
      → GainsMissing (unless_none count (has_run of first count) ++ gains) cpu number
  has_run_misses of first zero gains misses = misses
  has_run_misses of first (suc n) gains misses =
      subst (λ (l : List Gain). GainsMissing (l ++ gains) cpu number) (sym (some_gain n (has_run of first (suc n))))
      misses

  has_run_missing : (of first count : ℕ) (gains : List Gain)
      → GainsMissing (unless_none count (has_run of first count) ++ gains) cpu number → GainsMissing gains cpu number
  has_run_missing of first zero gains misses = misses
  has_run_missing of first (suc n) gains misses =
      subst (λ (l : List Gain). GainsMissing (l ++ gains) cpu number) (some_gain n (has_run of first (suc n))) misses

  misses_run_adds : (of first count : ℕ) → IsIn of first count cpu number
      → GainsMissing (unless_none count (misses_run of first count)) cpu number
  misses_run_adds of first zero (is, low, high) = absurd (let no : ⊥ = omega arith in no)
  misses_run_adds of first (suc n) is =
      subst (λ (l : List Gain). GainsMissing l cpu number) (sym (some_gain n (misses_run of first (suc n)))) (inl is)

  misses_run_alone : (of first count : ℕ) → GainsMissing (unless_none count (misses_run of first count)) cpu number
      → IsIn of first count cpu number
  misses_run_alone of first zero misses = absurd misses
  misses_run_alone of first (suc n) misses =
      ⊎_elim (λ is. is) (λ none. absurd none)
      (subst (λ (l : List Gain). GainsMissing l cpu number) (some_gain n (misses_run of first (suc n))) misses)

-- ---- a page

module _ (parcel : Parcel) (cpu number : ℕ) where
  abbrev lost : List Gain
  lost = unless_none parcel.missed (misses_run parcel.cpu (parcel.first - parcel.missed) parcel.missed)

  -- the page has exactly what it brings
  pair_brought : (r : Record) → IsPairOf parcel cpu number r → GainsHas (gains_of parcel) cpu number
  pair_brought r p = let within = slice_get_within parcel.records p.index r p.record_is in let at = p.number_is in
      has_run_adds cpu number parcel.cpu parcel.first (length parcel.records) lost (p.cpu_is, omega arith, omega arith)

  brought_pair : GainsHas (gains_of parcel) cpu number → (r : Record) × IsPairOf parcel cpu number r
  brought_pair has = ⊎_elim
      (λ (is, low, high). ⊎_elim
      (λ (r, within, at, there). (
        r,
        record {
          index = number - parcel.first;
          cpu_is = is;
          number_is = (let e : number ≡ parcel.first + (number - parcel.first) = omega arith in e);
          record_is = at;
        },
      ))
      (λ (past, none). absurd (let no : ⊥ = omega arith in no))
      (slice_get_cases parcel.records (number - parcel.first)).1)
      (λ none. absurd (misses_run_has cpu number parcel.cpu (parcel.first - parcel.missed) parcel.missed none))
      (has_run_alone cpu number parcel.cpu parcel.first (length parcel.records) lost has)

  -- so for what is missing before it
  missing_brought : parcel.missed ≤ parcel.first → IsMissingOf parcel cpu number
      → GainsMissing (gains_of parcel) cpu number
  missing_brought fits m = let low = m.low in let high = m.high in
      has_run_misses cpu number parcel.cpu parcel.first (length parcel.records) lost
      (misses_run_adds cpu number parcel.cpu (parcel.first - parcel.missed) parcel.missed
      (m.cpu_is, omega arith, omega arith))

  brought_missing : parcel.missed ≤ parcel.first → GainsMissing (gains_of parcel) cpu number
      → IsMissingOf parcel cpu number
  brought_missing fits misses =
      let (is, low, high) = misses_run_alone cpu number parcel.cpu (parcel.first - parcel.missed) parcel.missed
      (has_run_missing cpu number parcel.cpu parcel.first (length parcel.records) lost misses) in
      record { cpu_is = is; low = omega arith; high = omega arith }

-- ---- one parcel

only_one : (p q : Parcel) (j : ℕ) → slice_get (p ∷ []) j ≡ Some q → p ≡ q
only_one p q zero at = some_is p q at
only_one p q (suc j) at = absurd (none-some q at)

one_has : (parcel : Parcel) (cpu number : ℕ) (r : Record) → IsPairOf parcel cpu number r
    → Has (parcel ∷ []) cpu number r
one_has parcel cpu number r pair = record { index = 0; parcel = parcel; at = refl; pair = pair }

one_misses : (parcel : Parcel) (cpu number : ℕ) → IsMissingOf parcel cpu number → Misses (parcel ∷ []) cpu number
one_misses parcel cpu number missing = record { index = 0; parcel = parcel; at = refl; missing = missing }

-- more parcels have what the first ones have, and what the last has
has_either : (earlier : List Parcel) (parcel : Parcel) (cpu number : ℕ) (r : Record)
    → Has (earlier ++ parcel ∷ []) cpu number r → Has earlier cpu number r ⊎ IsPairOf parcel cpu number r
has_either earlier parcel cpu number r h = ⊎_elim
    (λ (j, there). inl record { index = j; parcel = h.parcel; at = there; pair = h.pair })
    (λ (j, there).
    inr (subst (λ (p : Parcel). IsPairOf p cpu number r) (sym (only_one parcel h.parcel j there)) h.pair))
    (get_in_either earlier (parcel ∷ []) h.index h.parcel h.at)

misses_either : (earlier : List Parcel) (parcel : Parcel) (cpu number : ℕ) → Misses (earlier ++ parcel ∷ []) cpu number
    → Misses earlier cpu number ⊎ IsMissingOf parcel cpu number
misses_either earlier parcel cpu number h = ⊎_elim
    (λ (j, there). inl record { index = j; parcel = h.parcel; at = there; missing = h.missing })
    (λ (j, there).
    inr (subst (λ (p : Parcel). IsMissingOf p cpu number) (sym (only_one parcel h.parcel j there)) h.missing))
    (get_in_either earlier (parcel ∷ []) h.index h.parcel h.at)

-- ---- a delivery

module _ (earlier : List Parcel) (parcel : Parcel) (cpu number : ℕ) (fits : parcel.missed ≤ parcel.first) where
  had : (delivery : Delivery) → Brings earlier parcel delivery → HasNumber (earlier ++ parcel ∷ []) cpu number
      → HasNumber earlier cpu number ⊎ GainsHas (brought delivery parcel) cpu number
  had new_page b (r, h) =
      ⊎_elim (λ old. inl (r, old)) (λ pair. inr (pair_brought parcel cpu number r pair))
      (has_either earlier parcel cpu number r h)
  had known_page b (r, h) =
      ⊎_elim (λ old. inl (r, old)) (λ pair. inl (r, b.has cpu number r (one_has parcel cpu number r pair)))
      (has_either earlier parcel cpu number r h)
  had no_page b h = absurd b

  has_then : (delivery : Delivery) → HasNumber earlier cpu number ⊎ GainsHas (brought delivery parcel) cpu number
      → HasNumber (earlier ++ parcel ∷ []) cpu number
  has_then delivery (inl (r, h)) = (r, (joined_left earlier (parcel ∷ [])).has cpu number r h)
  has_then new_page (inr gain) = let (r, pair) = brought_pair parcel cpu number gain in
      (r, (joined_right earlier (parcel ∷ [])).has cpu number r (one_has parcel cpu number r pair))
  has_then known_page (inr gain) = absurd gain
  has_then no_page (inr gain) = absurd gain

  missed : (delivery : Delivery) → Brings earlier parcel delivery → Misses (earlier ++ parcel ∷ []) cpu number
      → Misses earlier cpu number ⊎ GainsMissing (brought delivery parcel) cpu number
  missed new_page b h =
      ⊎_elim (λ old. inl old) (λ missing. inr (missing_brought parcel cpu number fits missing))
      (misses_either earlier parcel cpu number h)
  missed known_page b h =
      ⊎_elim (λ old. inl old) (λ missing. inl (b.misses cpu number (one_misses parcel cpu number missing)))
      (misses_either earlier parcel cpu number h)
  missed no_page b h = absurd b

  misses_then : (delivery : Delivery) → Misses earlier cpu number ⊎ GainsMissing (brought delivery parcel) cpu number
      → Misses (earlier ++ parcel ∷ []) cpu number
  misses_then delivery (inl h) = (joined_left earlier (parcel ∷ [])).misses cpu number h
  misses_then new_page (inr gain) =
      (joined_right earlier (parcel ∷ [])).misses cpu number
      (one_misses parcel cpu number (brought_missing parcel cpu number fits gain))
  misses_then known_page (inr gain) = absurd gain
  misses_then no_page (inr gain) = absurd gain

pub gains_lead_on : GainsLeadOn
gains_lead_on earlier parcel delivery cpu number fits b = (
  (had earlier parcel cpu number fits delivery b, has_then earlier parcel cpu number fits delivery),
  (missed earlier parcel cpu number fits delivery b, misses_then earlier parcel cpu number fits delivery),
)
