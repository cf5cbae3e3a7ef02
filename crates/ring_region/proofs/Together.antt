-- What is recovered agrees with what was taken before.
use Rattle.std.proofs.Common.{◌≡◌, ◌∙◌, ℕ, ◌+◌, ◌≤◌, ◌<◌, ◌⊎◌, inl, inr, ⊎_elim, List, ◌++◌, Some, sym, ap, subst}
use Rattle.std.proofs.Common.{arith}
use Rattle.std.proofs.lemmas.Option.{slice_get_within}
use Rattle.std.specs.List.{slice_get}
use Rattle.trace_model.specs.Record.{Record}
use Rattle.trace_model.specs.Parcel.{Parcel, IsPairOf}
use Rattle.trace_model.specs.Collection.{Agree, Has, Misses}
use Rattle.trace_model.proofs.collections.Elements.{some_is, get_in_either}
use Rattle.ring_region.specs.Regions.{Recovered}
use Rattle.ring_region.specs.Agreement.{IsPartOf, HasRecordsAmong, AreTaken, AreLeft}
use Rattle.ring_region.proofs.Gaps.{IsGap}

-- one list has it, or the other
has_in_either : (before behind : List Parcel) (cpu n : ℕ) (r : Record) → Has (before ++ behind) cpu n r
    → Has before cpu n r ⊎ Has behind cpu n r
has_in_either before behind cpu n r has = ⊎_elim
    (λ (k, at). inl (record { index = k; parcel = has.parcel; at = at; pair = has.pair }))
    (λ (k, at). inr (record { index = k; parcel = has.parcel; at = at; pair = has.pair }))
    (get_in_either before behind has.index has.parcel has.at)

misses_in_either : (before behind : List Parcel) (cpu n : ℕ) → Misses (before ++ behind) cpu n
    → Misses before cpu n ⊎ Misses behind cpu n
misses_in_either before behind cpu n misses = ⊎_elim
    (λ (k, at). inl (record { index = k; parcel = misses.parcel; at = at; missing = misses.missing }))
    (λ (k, at). inr (record { index = k; parcel = misses.parcel; at = at; missing = misses.missing }))
    (get_in_either before behind misses.index misses.parcel misses.at)

-- a record that a parcel has is the list's
of_list : (records : List Record) (parcel : Parcel) (cpu n : ℕ) (r : Record) → IsPartOf records parcel
    → IsPairOf parcel cpu n r → slice_get records n ≡ Some r
of_list records parcel cpu n r part pair = ap (slice_get records) pair.number_is ∙ part pair.index r pair.record_is

-- what a parcel has, those have that it is among
among_has : (parcels : List Parcel) (parcel : Parcel) (cpu n : ℕ) (r : Record) → HasRecordsAmong parcels parcel
    → IsPairOf parcel cpu n r → Has parcels cpu n r
among_has parcels parcel cpu n r among pair = record {
  index = among.index;
  parcel = among.other;
  at = among.at;
  pair = record {
    index = pair.index;
    cpu_is = pair.cpu_is ∙ among.cpu_is;
    number_is = pair.number_is ∙ ap (λ (f : ℕ). f + pair.index) among.same.first_is;
    record_is = ap (λ (rs : List Record). slice_get rs pair.index) (sym among.same.records_are) ∙ pair.record_is;
  };
}

module _ (records : List Record) (cpu taken : ℕ) (before : List Parcel) (held : Recovered)
    (cpu_is : held.header.cpu.0 ≡ cpu) (taken_is : held.header.taken.0 ≡ taken)
    (was : AreTaken records cpu taken before) (left : AreLeft records before held) (agree : Agree held.parcels)
    (of_cpu : (k : ℕ) (parcel : Parcel) → slice_get held.parcels k ≡ Some parcel → parcel.cpu ≡ cpu)
    (gaps : (k : ℕ) (parcel : Parcel) (n : ℕ) → slice_get held.parcels k ≡ Some parcel
    → parcel.first ≤ n + parcel.missed → n < parcel.first → IsGap taken held.damaged held.parcels n) where
  listed_before : (n : ℕ) (r : Record) → Has before cpu n r → slice_get records n ≡ Some r
  listed_before n r has =
      of_list records has.parcel cpu n r (was.parts has.index has.parcel has.at (sym has.pair.cpu_is)) has.pair

  listed_here : (c n : ℕ) (r : Record) → Has held.parcels c n r → slice_get records n ≡ Some r
  listed_here c n r has = of_list records has.parcel c n r (left.parts has.index has.parcel has.at) has.pair

  cpu_here : (c n : ℕ) (r : Record) → Has held.parcels c n r → c ≡ cpu
  cpu_here c n r has = has.pair.cpu_is ∙ of_cpu has.index has.parcel has.at

  one_of_each : (c n : ℕ) (r other : Record) → Has before c n r → Has held.parcels c n other → r ≡ other
  one_of_each c n r other has here =
      let there : Has before cpu n r = subst (λ (k : ℕ). Has before k n r) (cpu_here c n other here) has in
      some_is r other (sym (listed_before n r there) ∙ listed_here c n other here)

  -- a number that the region misses has no record that was taken
  not_taken : (c n : ℕ) (r : Record) → Has before c n r → Misses held.parcels c n → ⊥
  not_taken c n r has misses =
      let named : c ≡ cpu = misses.missing.cpu_is ∙ of_cpu misses.index misses.parcel misses.at in
      let own : has.parcel.cpu ≡ cpu = sym has.pair.cpu_is ∙ named in
      let gap = gaps misses.index misses.parcel n misses.at misses.missing.low misses.missing.high in
      let inside = slice_get_within has.parcel.records has.pair.index r has.pair.record_is in
      let ends = was.ends has.index has.parcel has.at own in
      ⊎_elim
      (λ among. agree.not_missing c n r (among_has held.parcels has.parcel c n r among has.pair) misses)
      (λ below. ⊎_elim
      (λ above. absurd (omega (arith, has.pair.number_is, inside, ends, above)))
      (λ under. let first = below under.index under.parcel under.at in let low = under.low in
      absurd (omega (arith, has.pair.number_is, inside, first, low)))
      gap.above)
      (left.there_or_below gap.undamaged has.index has.parcel has.at (own ∙ sym cpu_is))

  -- a number that was missing before has no record in the region
  not_left : (c n : ℕ) (r : Record) → Has held.parcels c n r → Misses before c n → ⊥
  not_left c n r here misses =
      let own : misses.parcel.cpu ≡ cpu = sym misses.missing.cpu_is ∙ cpu_here c n r here in
      let ends = was.ends misses.index misses.parcel misses.at own in
      let high = misses.missing.high in
      ⊎_elim
      (λ among. was.agree.not_missing c n r (among_has before here.parcel c n r among here.pair) misses)
      (λ later. absurd (omega (arith, here.pair.number_is, ends, high, later, taken_is)))
      (left.taken_or_later here.index here.parcel here.at)

  pub all_agree : Agree (before ++ held.parcels)
  all_agree = record {
    one_record = λ c n r other has has_too. ⊎_elim
        (λ first. ⊎_elim
        (λ too. was.agree.one_record c n r other first too)
        (λ here. one_of_each c n r other first here)
        (has_in_either before held.parcels c n other has_too))
        (λ here. ⊎_elim
        (λ too. sym (one_of_each c n other r too here))
        (λ also. agree.one_record c n r other here also)
        (has_in_either before held.parcels c n other has_too))
        (has_in_either before held.parcels c n r has);
    not_missing = λ c n r has misses. ⊎_elim
        (λ first. ⊎_elim
        (λ gone. was.agree.not_missing c n r first gone)
        (λ lost. not_taken c n r first lost)
        (misses_in_either before held.parcels c n misses))
        (λ here. ⊎_elim
        (λ gone. not_left c n r here gone)
        (λ lost. agree.not_missing c n r here lost)
        (misses_in_either before held.parcels c n misses))
        (has_in_either before held.parcels c n r has);
  }
