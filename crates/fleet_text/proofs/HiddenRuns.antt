-- The numbers that are below bounds are those that marks among the pieces hide.
use Rattle.std.proofs.Common.{◌≡◌, ◌⊎◌, inl, inr, ⊎_elim, ℕ, zero, suc, ◌+◌, ◌-◌, ◌<◌, ◌≤◌, List, [], ◌∷◌}
use Rattle.std.proofs.Common.{length, get_or, Some, refl, sym, ap, ◌∙◌, subst, arith}
use Rattle.std.specs.List.{slice_get}
use Rattle.std.proofs.lemmas.Bool.{cases_lt}
use Rattle.std.proofs.lemmas.Option.{none-some, slice_get_within, slice_get-get_or}
use Rattle.trace_model.specs.Record.{Record}
use Rattle.trace_model.specs.Parcel.{Parcel, IsPairOf}
use Rattle.trace_model.specs.Collection.{Misses}
use Rattle.trace_model.proofs.collections.Elements.{some_is, get_in_front, get_behind, get_in_either}
use Rattle.parcel_streams.specs.Pieces.{Packed, parcel_piece, mark_piece}
use Rattle.collector.specs.Shown.{IsUnknown}
use Rattle.stream_collector.specs.Stream.{Stream, bound_of, HasRecord, IsUndelivered}
use Rattle.fleet_collector.specs.Fleet.{stream_at}
use Rattle.fleet_collector.specs.Told.{IsPieceOf, IsBoundTold, IsFleetOf, TellForgotten, TellParcel}
use Rattle.fleet_text.specs.declared.run.RunKind.TheVariants.{Undelivered}
use Rattle.fleet_text.specs.Cpus.{IsAmong}
use Rattle.fleet_text.specs.Runs.{Run, InRun, AreRunsOfFleet}
use Rattle.fleet_text.specs.Hidden.{TellHidden, AreHiddenRuns, run_from, given_by, given_by_all, IsBelowBound, IsNoted}
use Rattle.fleet_text.proofs.CpuSets.{only}

-- ---- the run of a parcel

in_run_from : (stream cpu first count s c n : ℕ) → InRun (run_from stream cpu first count) s c n
    → (s ≡ stream) × ((c ≡ cpu) × ((first ≤ n) × (n < first + count)))
in_run_from stream cpu first zero s c n h = absurd (none-some h.run h.among.1)
in_run_from stream cpu first (suc more) s c n h =
    let one : Run = record { stream = stream; cpu = cpu; first = first; last = first + more } in
    let is : one ≡ h.run = only one h.among.0 h.run h.among.1 in
    let from : first ≤ n = subst (λ (r : Run). r.first ≤ n) (sym is) h.from in
    let last : n ≤ first + more = subst (λ (r : Run). n ≤ r.last) (sym is) h.to in (
      sym h.stream_is ∙ sym (ap (λ (r : Run). r.stream) is),
      (sym h.cpu_is ∙ sym (ap (λ (r : Run). r.cpu) is), (from, omega arith)),
    )

run_from_has : (stream cpu first count n : ℕ) → first ≤ n → n < first + count
    → InRun (run_from stream cpu first count) stream cpu n
run_from_has stream cpu first zero n from below = absurd (omega arith)
run_from_has stream cpu first (suc more) n from below = record {
  run = record { stream = stream; cpu = cpu; first = first; last = first + more };
  among = (0, refl);
  stream_is = refl;
  cpu_is = refl;
  from = from;
  to = omega arith;
}

-- ---- the runs of all pieces

of_some_piece : (pieces : List Packed) (run : Run) → IsAmong (given_by_all pieces) run
    → (piece : Packed) × (IsPieceOf pieces piece × IsAmong (given_by piece) run)
of_some_piece [] run s = absurd (none-some run s.1)
of_some_piece (x ∷ xs) run s =
    ⊎_elim
    (λ (here : IsAmong (given_by x) run). (x, ((0, refl), here)))
    (λ (there : IsAmong (given_by_all xs) run).
    let t = of_some_piece xs run there in (t.0, ((suc t.1.0.0, t.1.0.1), t.1.1)))
    (get_in_either (given_by x) (given_by_all xs) s.0 run s.1)

of_each_piece : (pieces : List Packed) (piece : Packed) (run : Run) (k : ℕ) → slice_get pieces k ≡ Some piece
    → IsAmong (given_by piece) run → IsAmong (given_by_all pieces) run
of_each_piece [] piece run k at s = absurd (none-some piece at)
of_each_piece (x ∷ xs) piece run zero at s =
    let t = subst (λ (q : Packed). IsAmong (given_by q) run) (sym (some_is x piece at)) s in
    (t.0, get_in_front (given_by x) (given_by_all xs) t.0 run t.1)
of_each_piece (x ∷ xs) piece run (suc k) at s =
    let t = of_each_piece xs piece run k at s in
    (length (given_by x) + t.0, get_behind (given_by x) (given_by_all xs) t.0 ∙ t.1)

-- ---- what is hidden

no_record : Record
no_record = record { moment = 0; bytes = [] }

hides : (pieces : List Packed) (piece : Packed) (s c n bound : ℕ) → IsPieceOf pieces piece
    → InRun (given_by piece) s c n → TellForgotten pieces s c bound → n < bound → TellHidden pieces s c n
hides pieces (parcel_piece stream parcel time contents) s c n bound there h told low =
    let is = in_run_from stream parcel.cpu parcel.first (length parcel.records) s c n h in
    let from = is.1.1.0 in
    let below = is.1.1.1 in
    record {
      parcel = parcel;
      told = record {
        time = time;
        contents = contents;
        told = subst (λ (q : ℕ). IsPieceOf pieces (parcel_piece q parcel time contents)) (sym is.0) there;
      };
      hidden_record = get_or parcel.records (n - parcel.first) no_record;
      has = record {
        index = n - parcel.first;
        cpu_is = is.1.0;
        number_is = omega arith;
        record_is = slice_get-get_or parcel.records (n - parcel.first) no_record (omega arith);
      };
      bound = bound;
      forgotten = told;
      below = low;
    }
hides pieces (mark_piece stream cpu mark) s c n bound there h told low = absurd (none-some h.run h.among.1)

told_bound : (pieces : List Packed) (s c bound n : ℕ) → IsBoundTold pieces s c bound → n < bound
    → TellForgotten pieces s c bound
told_bound pieces s c bound n b low = by b.told
  where
    by : (bound ≡ 0) ⊎ TellForgotten pieces s c bound → TellForgotten pieces s c bound
    by (inl none) = absurd (omega arith)
    by (inr told) = told

below_is_hidden : (pieces : List Packed) (fleet : List (ℕ × Stream)) → IsFleetOf pieces fleet → (s c n : ℕ)
    → IsBelowBound (given_by_all pieces) fleet s c n → TellHidden pieces s c n
below_is_hidden pieces fleet is s c n h =
    let found = of_some_piece pieces h.in_run.run h.in_run.among in
    let bound = bound_of (stream_at fleet s) c in
    hides pieces found.0 s c n bound found.1.0 record {
      run = h.in_run.run;
      among = found.1.1;
      stream_is = h.in_run.stream_is;
      cpu_is = h.in_run.cpu_is;
      from = h.in_run.from;
      to = h.in_run.to;
    }
    (told_bound pieces s c bound n ((is.streams s).bounds c) h.below) h.below

hidden_is_below : (pieces : List Packed) (fleet : List (ℕ × Stream)) → IsFleetOf pieces fleet → (s c n : ℕ)
    → TellHidden pieces s c n → IsBelowBound (given_by_all pieces) fleet s c n
hidden_is_below pieces fleet is s c n h =
    let p = h.parcel in
    let piece = parcel_piece s p h.told.time h.told.contents in
    let within = slice_get_within p.records h.has.index h.hidden_record h.has.record_is in
    let number = h.has.number_is in
    let run = run_from_has s p.cpu p.first (length p.records) n (omega arith) (omega arith) in
    let highest = ((is.streams s).bounds c).highest h.bound h.forgotten in
    let low = h.below in
    record {
      in_run = record {
        run = run.run;
        among = of_each_piece pieces piece run.run h.told.told.0 h.told.told.1 run.among;
        stream_is = run.stream_is;
        cpu_is = run.cpu_is ∙ sym h.has.cpu_is;
        from = run.from;
        to = run.to;
      };
      below = omega arith;
    }

-- a record that a parcel has isn't below the bound, or it is hidden
pub listed_or_hidden : (pieces : List Packed) (fleet : List (ℕ × Stream)) (s c n : ℕ) (parcel : Parcel) (r : Record)
    → IsFleetOf pieces fleet → TellParcel pieces s parcel → IsPairOf parcel c n r
    → HasRecord (stream_at fleet s) c n r ⊎ TellHidden pieces s c n
listed_or_hidden pieces fleet s c n parcel r is told pair =
    let known = is.streams s in
    let bound = bound_of (stream_at fleet s) c in
    ⊎_elim
    (λ (low : n < bound). inr record {
      parcel = parcel;
      told = told;
      hidden_record = r;
      has = pair;
      bound = bound;
      forgotten = told_bound pieces s c bound n (known.bounds c) low;
      below = low;
    })
    (λ (from : bound ≤ n). inl ((known.records c n r).1 record {
      parcel = parcel;
      told = told;
      says_it = pair;
      kept = λ other forgotten. let low = (known.bounds c).highest other forgotten in omega (arith, low, from);
    }))
    (cases_lt n bound)

-- ---- as numbers that were given up

undelivered : (stream : Stream) (c n : ℕ) → stream.parcels ≡ [] → Misses stream.given_up c n → IsUndelivered stream c n
undelivered stream c n none misses = record {
  given_up = misses;
  not_known = inr (subst (λ (ps : List Parcel). IsUnknown ps c n) (sym none) record {
    no_record = λ r has. absurd (none-some has.parcel has.at);
    not_missing = λ m. absurd (none-some m.parcel m.at);
  });
}

-- the runs of the noted numbers are those of the hidden ones
pub noted_runs : (pieces : List Packed) (given runs : List Run) (fleet noted : List (ℕ × Stream))
    → given ≡ given_by_all pieces → IsFleetOf pieces fleet → IsNoted given fleet noted
    → AreRunsOfFleet Undelivered noted runs → AreHiddenRuns pieces runs
noted_runs pieces given runs fleet noted given_is is note p =
    let exactly = subst (λ (g : List Run). IsNoted g fleet noted) given_is note in
    record {
      ordered = p.ordered;
      forward = p.forward;
      of_them = λ s c n h.
          below_is_hidden pieces fleet is s c n ((exactly.exactly s c n).0 (p.of_them s c n h).given_up);
      whole = λ s c n h. p.whole s c n (undelivered (stream_at noted s) c n (note.no_parcels s)
          ((exactly.exactly s c n).1 (hidden_is_below pieces fleet is s c n h)));
    }
