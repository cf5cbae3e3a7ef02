-- The runs of one CPU after the other.
use Rattle.std.proofs.Common.{◌≡◌, ◌⊎◌, inl, inr, ⊎_elim, ℕ, zero, suc, ◌+◌, ◌<◌, ◌≤◌, ◌-◌, List, [], ◌∷◌, ◌++◌, length}
use Rattle.std.proofs.Common.{map, take, drop, get_or, Some, IsSome, Result, Ok, Err, OnOk, refl, sym, ap, ◌∙◌, subst}
use Rattle.std.proofs.Common.{arith}
use Rattle.std.specs.List.{slice_get}
use Rattle.std.proofs.lemmas.List.{take-append-drop, take_more, length-take-le}
use Rattle.std.proofs.lemmas.Option.{none-some, slice_get_within, get_or_from_slice_get, slice_get-get_or}
use Rattle.trace_model.specs.Runs.{AreRuns}
use Rattle.trace_model.proofs.collections.Elements.{some_is, get_in_front, get_behind, get_in_either}
use Rattle.time_merge.specs.Lines.{IsBeforeAll, AreOrdered}
use Rattle.time_merge.proofs.Ordered.{ordered_append, before_each, ordered_rising, ordered_map, mapped_at, at_mapped}
use Rattle.stream_collector.specs.Stream.{Stream, bound_of, IsExpected}
use Rattle.fleet_collector.specs.Fleet.{stream_at}
use Rattle.fleet_text.specs.declared.run.RunKind.{RunKind}
use Rattle.fleet_text.specs.declared.run.RunKind.TheVariants.{Missing, Unknown, Undelivered, Forgotten}
use Rattle.fleet_text.specs.declared.cpus.StreamCpu.{StreamCpu}
use Rattle.fleet_text.specs.Cpus.{FleetCpu, cpu_seen, IsAmong, IsBefore, IsThere, AreCpusOfFleet}
use Rattle.fleet_text.specs.Runs.{Run, run_at, IsOfKind, IsApart, AreRunsOf, IsOfKindAmong, AreRunsOfFleet}
use Rattle.fleet_text.proofs.CpuSets.{only}

-- runs after others, if each of those is before each of them
module _ (first second both : (stream cpu number : ℕ) → Type 0)
    (in_front : (s c n : ℕ) → first s c n → both s c n)
    (behind : (s c n : ℕ) → second s c n → both s c n)
    (either : (s c n : ℕ) → both s c n → first s c n ⊎ second s c n)
    (before : (a b : Run) → first a.stream a.cpu a.first → second b.stream b.cpu b.first → IsApart a b) where
  starts : (holds : (stream cpu number : ℕ) → Type 0) (runs : List Run) → AreRunsOf holds runs → (run : Run)
      → IsAmong runs run → holds run.stream run.cpu run.first
  starts holds runs p run s = p.of_them run.stream run.cpu run.first record {
    run = run;
    among = s;
    stream_is = refl;
    cpu_is = refl;
    from = omega arith;
    to = p.forward run s;
  }

  pub runs_append : (xs ys : List Run) → AreRunsOf first xs → AreRunsOf second ys → AreRunsOf both (xs ++ ys)
  runs_append xs ys p q = record {
    ordered = ordered_append IsApart xs ys p.ordered q.ordered
        (λ k x at. before_each IsApart x ys (λ j y there. before x y (starts first xs p x (k, at))
        (starts second ys q y (j, there))));
    forward = λ run s. ⊎_elim
        (λ (front : IsAmong xs run). p.forward run front)
        (λ (back : IsAmong ys run). q.forward run back)
        (get_in_either xs ys s.0 run s.1);
    of_them = λ s c n h. ⊎_elim
        (λ (front : IsAmong xs h.run). in_front s c n (p.of_them s c n record
        { run = h.run; among = front; stream_is = h.stream_is; cpu_is = h.cpu_is; from = h.from; to = h.to }))
        (λ (back : IsAmong ys h.run). behind s c n (q.of_them s c n record
        { run = h.run; among = back; stream_is = h.stream_is; cpu_is = h.cpu_is; from = h.from; to = h.to }))
        (get_in_either xs ys h.among.0 h.run h.among.1);
    whole = λ s c n h. ⊎_elim
        (λ (one : first s c n). let r = p.whole s c n one in record {
          run = r.run;
          among = (r.among.0, get_in_front xs ys r.among.0 r.run r.among.1);
          stream_is = r.stream_is;
          cpu_is = r.cpu_is;
          from = r.from;
          to = r.to;
        })
        (λ (other : second s c n). let r = q.whole s c n other in record {
          run = r.run;
          among = (length xs + r.among.0, get_behind xs ys r.among.0 ∙ r.among.1);
          stream_is = r.stream_is;
          cpu_is = r.cpu_is;
          from = r.from;
          to = r.to;
        })
        (either s c n h);
  }

on_ok : {T E : Type 0} (r : Result T E) {P Q : Type 0} → (P → Q) → OnOk r P → OnOk r Q
on_ok (Ok x) f p = f p
on_ok (Err e) f p = tt

-- runs of a kind were put
pub put_of_kind : {E : Type 0} (kind own : RunKind) (at : StreamCpu) (result : Result (Unit {0}) E)
    (list : List (ℕ × ℕ))
    (old new : List Run) → kind ≡ own → AreRuns (IsOfKind own at.known.now at.cpu.0) list
    → OnOk result (new ≡ old ++ map (run_at at.stream.0 at.cpu.0) list)
    → OnOk result ((xs : List (ℕ × ℕ)) × AreRuns (IsOfKind kind at.known.now at.cpu.0) xs
    × (new ≡ old ++ map (run_at at.stream.0 at.cpu.0) xs))
put_of_kind kind own at result list old new is are put =
    on_ok result (λ p. (list, subst (λ k. AreRuns (IsOfKind k at.known.now at.cpu.0) list) (sym is) are, p)) put

-- ---- one CPU

-- it is a number of this kind of this CPU of this stream
record IsOf (kind : RunKind) (at : FleetCpu) (s c n : ℕ) : Type 0 where
  stream_is : s ≡ at.stream
  cpu_is : c ≡ at.cpu
  of_kind : IsOfKind kind at.known at.cpu n

abbrev IsNext : ℕ × ℕ → ℕ × ℕ → Type 0
IsNext a b = (suc a.1 < b.0) × (b.0 ≤ b.1)

cpu_runs : (kind : RunKind) (at : FleetCpu) (list : List (ℕ × ℕ)) → AreRuns (IsOfKind kind at.known at.cpu) list
    → AreRunsOf (IsOf kind at) (map (run_at at.stream at.cpu) list)
cpu_runs kind at list runs = record {
  ordered = ordered_map IsNext IsApart (run_at at.stream at.cpu) (λ a b next. inr (refl, inr (refl, next.0))) list
      (ordered_rising IsNext (λ x y z p q. (omega (arith, p.0, p.1, q.0), q.1)) list
      (λ k a b here next. (runs.apart k a b here next, runs.forward (suc k) b next)));
  forward = λ run (k, is). let found = mapped_at (run_at at.stream at.cpu) list k run is in
      subst (λ (r : Run). r.first ≤ r.last) found.2 (runs.forward k found.0 found.1);
  of_them = λ s c n h.
      let found = mapped_at (run_at at.stream at.cpu) list h.among.0 h.run h.among.1 in
      record {
        stream_is = sym h.stream_is ∙ sym (ap (λ (r : Run). r.stream) found.2);
        cpu_is = sym h.cpu_is ∙ sym (ap (λ (r : Run). r.cpu) found.2);
        of_kind = runs.of_them n record {
          index = h.among.0;
          run = found.0;
          at = found.1;
          from = subst (λ (r : Run). r.first ≤ n) (sym found.2) h.from;
          to = subst (λ (r : Run). n ≤ r.last) (sym found.2) h.to;
        };
      };
  whole = λ s c n h.
      let r = runs.whole n h.of_kind in
      record {
        run = run_at at.stream at.cpu r.run;
        among = (r.index, at_mapped (run_at at.stream at.cpu) list r.index r.run r.at);
        stream_is = sym h.stream_is;
        cpu_is = sym h.cpu_is;
        from = r.from;
        to = r.to;
      };
}

-- the numbers below a bound are one run
pub some_forgotten : (known : Stream) (cpu bound : ℕ) → bound ≡ bound_of known cpu → 0 < bound
    → AreRuns (IsOfKind Forgotten known cpu) ((0, bound - 1) ∷ [])
some_forgotten known cpu bound is some = record {
  forward = λ k run at. subst (λ (r : ℕ × ℕ). r.0 ≤ r.1) (only (0, bound - 1) k run at) (omega arith);
  apart = λ k a b at next. absurd (none-some b next);
  of_them = λ n h.
      let last : n ≤ bound - 1 = subst (λ (r : ℕ × ℕ). n ≤ r.1) (sym (only (0, bound - 1) h.index h.run h.at)) h.to in
      omega arith;
  whole = λ n low. record { index = 0; run = (0, bound - 1); at = refl; from = omega arith; to = omega arith };
}

-- ---- one CPU more

pub no_runs : (kind : RunKind) → AreRunsOf (IsOfKindAmong kind []) []
no_runs kind = record {
  ordered = tt;
  forward = λ run s. absurd (none-some run s.1);
  of_them = λ s c n h. absurd (none-some h.run h.among.1);
  whole = λ s c n h. absurd (none-some record { stream = s; cpu = c; known = h.known } h.among.1);
}

pub runs_more : (kind : RunKind) (front : List FleetCpu) (at : FleetCpu) (runs : List Run) (list : List (ℕ × ℕ))
    → ((x : FleetCpu) → IsAmong front x → IsBefore x at) → AreRuns (IsOfKind kind at.known at.cpu) list
    → AreRunsOf (IsOfKindAmong kind front) runs
    → AreRunsOf (IsOfKindAmong kind (front ++ at ∷ [])) (runs ++ map (run_at at.stream at.cpu) list)
runs_more kind front at runs list low one before =
    runs_append (IsOfKindAmong kind front) (IsOf kind at) (IsOfKindAmong kind (front ++ at ∷ []))
    (λ s c n h. record {
      known = h.known;
      among = (
        h.among.0,
        get_in_front front (at ∷ []) h.among.0 record { stream = s; cpu = c; known = h.known }
            h.among.1,
      );
      of_kind = h.of_kind;
    })
    (λ s c n h. record {
      known = at.known;
      among = (
        length front + 0,
        get_behind front (at ∷ []) 0
            ∙ ap (λ (q : ℕ). Some record { stream = q; cpu = at.cpu; known = at.known }) (sym h.stream_is)
            ∙ ap (λ (q : ℕ). Some record { stream = s; cpu = q; known = at.known }) (sym h.cpu_is),
      );
      of_kind = subst (λ (q : ℕ). IsOfKind kind at.known q n) (sym h.cpu_is) h.of_kind;
    })
    (λ s c n h.
    let this : FleetCpu = record { stream = s; cpu = c; known = h.known } in
    ⊎_elim
    (λ (there : IsAmong front this). inl record { known = h.known; among = there; of_kind = h.of_kind })
    (λ (here : IsAmong (at ∷ []) this).
    let is : at ≡ this = only at here.0 this here.1 in
    inr record {
      stream_is = sym (ap (λ (x : FleetCpu). x.stream) is);
      cpu_is = sym (ap (λ (x : FleetCpu). x.cpu) is);
      of_kind = subst (λ (x : FleetCpu). IsOfKind kind x.known x.cpu n) (sym is) h.of_kind;
    })
    (get_in_either front (at ∷ []) h.among.0 this h.among.1))
    (λ a b p q. apart a b q.stream_is q.cpu_is (low record { stream = a.stream; cpu = a.cpu; known = p.known } p.among))
    runs (map (run_at at.stream at.cpu) list) before (cpu_runs kind at list one)
  where
    apart : (a b : Run) → b.stream ≡ at.stream → b.cpu ≡ at.cpu
        → (a.stream < at.stream) ⊎ ((a.stream ≡ at.stream) × (a.cpu < at.cpu)) → IsApart a b
    apart a b same_stream same_cpu (inl less) = inl (omega arith)
    apart a b same_stream same_cpu (inr (is, less)) = inr (is ∙ sym same_stream, inl (omega arith))

-- ---- in the order of a list

before_at : {X : Type 0} (before : X → X → Type 0) (x : X) (xs : List X) → IsBeforeAll before x xs → (k : ℕ) (y : X)
    → slice_get xs k ≡ Some y → before x y
before_at before x [] all k y at = absurd (none-some y at)
before_at before x (z ∷ xs) all zero y at = subst (λ w. before x w) (some_is z y at) all.0
before_at before x (z ∷ xs) all (suc k) y at = before_at before x xs all.1 k y at

ordered_at : {X : Type 0} (before : X → X → Type 0) (xs : List X) → AreOrdered before xs → (i j : ℕ) (x y : X) → i < j
    → slice_get xs i ≡ Some x → slice_get xs j ≡ Some y → before x y
ordered_at before [] ordered i j x y less at there = absurd (none-some x at)
ordered_at before (z ∷ xs) ordered zero zero x y less at there = absurd (omega arith)
ordered_at before (z ∷ xs) ordered zero (suc j) x y less at there =
    subst (λ w. before w y) (some_is z x at) (before_at before z xs ordered.0 j y there)
ordered_at before (z ∷ xs) ordered (suc i) zero x y less at there = absurd (omega arith)
ordered_at before (z ∷ xs) ordered (suc i) (suc j) x y less at there =
    ordered_at before xs ordered.1 i j x y (omega arith) at there

-- the elements before an index are before the one at it
pub front_before : (cpus : List FleetCpu) (n : ℕ) (at : FleetCpu) → AreOrdered IsBefore cpus → slice_get cpus n ≡ Some
    at
    → (x : FleetCpu) → IsAmong (take n cpus) x → IsBefore x at
front_before cpus n at ordered there x (k, is) =
    let early = slice_get_within (take n cpus) k x is in
    let within = slice_get_within cpus n at there in
    let short : length (take n cpus) ≡ n = length-take-le n cpus (omega arith) in
    let here : slice_get cpus k ≡ Some x =
    subst (λ (xs : List FleetCpu). slice_get xs k ≡ Some x) (take-append-drop n cpus)
    (get_in_front (take n cpus) (drop n cpus) k x is) in
    ordered_at IsBefore cpus ordered k n x at (omega arith) here there

-- ---- one CPU more, of those in a list

pub next_cpu : (kind : RunKind) (cpus : List StreamCpu) (n : ℕ) (at : StreamCpu) (runs : List Run) (list : List (ℕ × ℕ))
    (new : List Run)
    → AreOrdered IsBefore (map cpu_seen cpus) → n < length cpus → at ≡ get_or cpus n at
    → AreRunsOf (IsOfKindAmong kind (take n (map cpu_seen cpus))) runs
    → AreRuns (IsOfKind kind at.known.now at.cpu.0) list
    → new ≡ runs ++ map (run_at at.stream.0 at.cpu.0) list
    → AreRunsOf (IsOfKindAmong kind (take (n + 1) (map cpu_seen cpus))) new
next_cpu kind cpus n at runs list new ordered within is before one put =
    let seen = map cpu_seen cpus in
    let there : slice_get cpus n ≡ Some at = slice_get-get_or cpus n at within ∙ ap (λ x. Some x) (sym is) in
    let here : slice_get seen n ≡ Some (cpu_seen at) = at_mapped cpu_seen cpus n at there in
    let inside = slice_get_within seen n (cpu_seen at) here in
    let last : get_or seen n (cpu_seen at) ≡ cpu_seen at = get_or_from_slice_get seen n (cpu_seen at)
    (cpu_seen at) here in
    let more : take (n + 1) seen ≡ take n seen ++ cpu_seen at ∷ [] =
    take_more seen n (cpu_seen at) inside ∙ ap (λ x. take n seen ++ x ∷ []) last in
    subst (λ xs. AreRunsOf (IsOfKindAmong kind xs) new) (sym more)
    (subst (AreRunsOf (IsOfKindAmong kind (take n seen ++ cpu_seen at ∷ []))) (sym put)
    (runs_more kind (take n seen) (cpu_seen at) runs list (front_before seen n (cpu_seen at) ordered here) one before))

-- ---- all CPUs of a fleet

kind_there : (kind : RunKind) (known : Stream) (cpu n : ℕ) → IsOfKind kind known cpu n → IsThere known cpu
kind_there Missing known cpu n h = inl (n, inr h.misses)
kind_there Unknown known cpu n h = by h.expected
  where
    by : IsExpected known cpu n → IsThere known cpu
    by (inl later) = inl (later.0, later.1)
    by (inr end) = inr (inr (inr (subst IsSome (sym end.1) refl)))
kind_there Undelivered known cpu n h = inr (inl (n, inr h.given_up))
kind_there Forgotten known cpu n h = inr (inr (inl (omega arith)))

pub all_runs : (kind : RunKind) (fleet : List (ℕ × Stream)) (cpus : List FleetCpu) (runs : List Run)
    → AreCpusOfFleet fleet cpus → AreRunsOf (IsOfKindAmong kind cpus) runs → AreRunsOfFleet kind fleet runs
all_runs kind fleet cpus runs p q = record {
  ordered = q.ordered;
  forward = q.forward;
  of_them = λ s c n h.
      let found = q.of_them s c n h in
      subst (λ (known : Stream). IsOfKind kind known c n)
      (p.known_is record { stream = s; cpu = c; known = found.known } found.among) found.of_kind;
  whole = λ s c n h. q.whole s c n record {
    known = stream_at fleet s;
    among = p.whole s c (kind_there kind (stream_at fleet s) c n h);
    of_kind = h;
  };
}
