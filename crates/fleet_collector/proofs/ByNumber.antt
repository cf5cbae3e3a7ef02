-- Lines by stream, CPU and number: one CPU after the other, and one stream after the other.
use Rattle.std.proofs.Common.{◌≡◌, ◌⊎◌, inl, inr, ⊎_elim, ℕ, zero, suc, ◌+◌, ◌<◌, List, [], ◌∷◌, ◌++◌, length}
use Rattle.std.proofs.Common.{map, take, drop, get_or, Option, Some, None, refl, sym, ap, ◌∙◌, subst, arith}
use Rattle.std.specs.List.{slice_get}
use Rattle.std.specs.List.Sorted.{IsStrictlyIncreasing}
use Rattle.std.proofs.lemmas.List.{take-append-drop, length-take-le}
use Rattle.std.proofs.lemmas.Map.Keys.{below_from_sorted, sorted_from_strictly_increasing}
use Rattle.std.proofs.lemmas.Option.{none-some, slice_get_within, get_or_from_slice_get, slice_get-get_or}
use Rattle.trace_model.specs.Record.{Record}
use Rattle.trace_model.proofs.collections.Elements.{some_is, get_in_front, get_behind, get_in_either}
use Rattle.collector.specs.Known.{AreCpusOf}
use Rattle.collector.specs.Listed.{AreListed, AreRecordsFrom}
use Rattle.trace_model.specs.declared.numbers.Moment.{Moment}
use Rattle.stream_collector.specs.Stream.{Stream, bound_of, HasRecord}
use Rattle.time_merge.proofs.Ordered.{ordered_append, before_each, ordered_rising, ordered_map, mapped_at, at_mapped}
use Rattle.fleet_collector.specs.Listing.{Line, line_for, IsBeforeAtOnce}
use Rattle.fleet_collector.specs.Lines.{line_of, IsAmong, AreLinesOf, IsShown, HasOf, HasAmong, HasIn}

-- it holds of the record of this line
abbrev of_line : ((stream cpu number : ℕ) → Record → Type 0) → Line → Type 0
of_line holds line = holds line.stream line.cpu line.number record { moment = line.moment; bytes = line.bytes }

-- lines after others, if each of those is before each of them
module _ (first second both : (stream cpu number : ℕ) → Record → Type 0)
    (in_front : (s c n : ℕ) (r : Record) → first s c n r → both s c n r)
    (behind : (s c n : ℕ) (r : Record) → second s c n r → both s c n r)
    (either : (s c n : ℕ) (r : Record) → both s c n r → first s c n r ⊎ second s c n r)
    (before : (a b : Line) → of_line first a → of_line second b → IsBeforeAtOnce a b) where
  pub lines_append : (xs ys : List Line) → AreLinesOf first xs → AreLinesOf second ys → AreLinesOf both (xs ++ ys)
  lines_append xs ys p q = record {
    ordered = ordered_append IsBeforeAtOnce xs ys p.ordered q.ordered
        (λ k x at. before_each IsBeforeAtOnce x ys (λ j y there. before x y (p.of_them x (k, at))
        (q.of_them y (j, there))));
    of_them = λ line s. ⊎_elim
        (λ (front : IsAmong xs line). in_front line.stream line.cpu line.number record
        { moment = line.moment; bytes = line.bytes }
        (p.of_them line front))
        (λ (back : IsAmong ys line). behind line.stream line.cpu line.number record
        { moment = line.moment; bytes = line.bytes }
        (q.of_them line back))
        (get_in_either xs ys s.0 line s.1);
    whole = λ s c n r h. ⊎_elim
        (λ (one : first s c n r). let at = p.whole s c n r one in
        (at.0, get_in_front xs ys at.0 (line_for s c n r) at.1))
        (λ (other : second s c n r). let at = q.whole s c n r other in (length xs + at.0, get_behind xs ys at.0 ∙ at.1))
        (either s c n r h);
  }

-- what is shown is there
pub shown_has : (before : Option Moment) (known : Stream) (cpu n : ℕ) (r : Record) → IsShown before known cpu n r
    → HasRecord known cpu n r
shown_has None known cpu n r h = h
shown_has (Some moment) known cpu n r h = h.has

-- ---- one CPU of a stream

-- it is a record of this CPU of this stream
record IsOf (before : Option Moment) (stream : ℕ) (known : Stream) (cpu other c n : ℕ) (r : Record) : Type 0 where
  stream_is : other ≡ stream
  cpu_is : c ≡ cpu
  has : IsShown before known cpu n r

cpu_lines : (before : Option Moment) (stream : ℕ) (known : Stream) (cpu : ℕ) (list : List (ℕ × Record))
    → AreListed (IsShown before known cpu) list
    → AreLinesOf (IsOf before stream known cpu) (map (line_of stream cpu) list)
cpu_lines before stream known cpu list records = record {
  ordered = ordered_map (λ (a b : ℕ × Record). a.0 < b.0) IsBeforeAtOnce (line_of stream cpu)
      (λ a b lt. inr (refl, inr (refl, lt))) list
      (ordered_rising (λ (a b : ℕ × Record). a.0 < b.0) (λ x y z p q. let e : x.0 < z.0 = omega (arith, p, q) in e)
      list records.rising);
  of_them = λ line s.
      let found = mapped_at (line_of stream cpu) list s.0 line s.1 in
      subst (λ (z : Line). IsOf before stream known cpu z.stream z.cpu z.number record
      { moment = z.moment; bytes = z.bytes }) found.2
      record { stream_is = refl; cpu_is = refl; has = records.of_them s.0 found.0 found.1 };
  whole = λ s c n r h.
      let at = records.whole n r h.has in
      let there : slice_get (map (line_of stream cpu) list) at.0 ≡ Some (line_for stream cpu n r) =
      at_mapped (line_of stream cpu) list at.0 (n, r) at.1 in (
        at.0,
        there ∙ ap (λ q. Some (line_for q cpu n r)) (sym h.stream_is) ∙ ap (λ q. Some (line_for s q n r))
            (sym h.cpu_is),
      );
}

-- each of these numbers is below this one
abbrev pub AreFewer : List ℕ → ℕ → Type 0
AreFewer front cpu = (k other : ℕ) → slice_get front k ≡ Some other → other < cpu

only : {X : Type 0} (x : X) (k : ℕ) (y : X) → slice_get (x ∷ []) k ≡ Some y → x ≡ y
only x zero y at = some_is x y at
only x (suc k) y at = absurd (none-some y at)

-- one CPU more
pub stream_more : (before : Option Moment) (stream : ℕ) (known : Stream) (front : List ℕ) (cpu : ℕ) (lines : List Line)
    (list : List (ℕ × Record))
    → AreFewer front cpu
    → AreListed (IsShown before known cpu) list → AreLinesOf (HasAmong before stream known front) lines
    → AreLinesOf (HasAmong before stream known (front ++ cpu ∷ [])) (lines ++ map (line_of stream cpu) list)
stream_more before stream known front cpu lines list low records so_far =
    lines_append (HasAmong before stream known front) (IsOf before stream known cpu) (HasAmong before stream known
    (front ++ cpu ∷ []))
    (λ s c n r h. record {
      stream_is = h.stream_is;
      index = h.index;
      at = get_in_front front (cpu ∷ []) h.index c h.at;
      has = h.has;
    })
    (λ s c n r h. record {
      stream_is = h.stream_is;
      index = length front + 0;
      at = get_behind front (cpu ∷ []) 0 ∙ ap (λ q. Some q) (sym h.cpu_is);
      has = subst (λ q. IsShown before known q n r) (sym h.cpu_is) h.has;
    })
    (λ s c n r h. ⊎_elim
    (λ (there : (k : ℕ) × (slice_get front k ≡ Some c)). inl record
    { stream_is = h.stream_is; index = there.0; at = there.1; has = h.has })
    (λ (here : (k : ℕ) × (slice_get (cpu ∷ []) k ≡ Some c)).
    let e : c ≡ cpu = sym (only cpu here.0 c here.1) in
    inr record { stream_is = h.stream_is; cpu_is = e; has = subst (λ q. IsShown before known q n r) e h.has })
    (get_in_either front (cpu ∷ []) h.index c h.at))
    (λ a b p q.
    let lt = low p.index a.cpu p.at in
    let is = q.cpu_is in
    let less : a.cpu < b.cpu = omega arith in
    inr (p.stream_is ∙ sym q.stream_is, inl less))
    lines (map (line_of stream cpu) list) so_far (cpu_lines before stream known cpu list records)

-- no CPU: no line
pub stream_none : (before : Option Moment) (stream : ℕ) (known : Stream)
    → AreLinesOf (HasAmong before stream known []) []
stream_none before stream known = record {
  ordered = tt;
  of_them = λ line s. absurd (none-some line s.1);
  whole = λ s c n r h. absurd (none-some c h.at);
}

-- all CPUs of which something is known
pub stream_all : (before : Option Moment) (stream : ℕ) (known : Stream) (cpus : List ℕ) (lines : List Line)
    → AreCpusOf known.parcels cpus
    → AreLinesOf (HasAmong before stream known cpus) lines → AreLinesOf (HasOf before stream known) lines
stream_all before stream known cpus lines are p = record {
  ordered = p.ordered;
  of_them = λ line s. let h = p.of_them line s in record { stream_is = h.stream_is; has = h.has };
  whole = λ s c n r h.
      let there = (are.known c).1 (n, inl (r, (shown_has before known c n r h.has).has)) in
      p.whole s c n r record {
        stream_is = h.stream_is;
        index = there.0;
        at = slice_get-get_or cpus there.0 c there.1 ∙ ap (λ q. Some q) there.2;
        has = h.has;
      };
}

-- of rising numbers, those before a place are below the one there
pub fewer_next : (cpus : List ℕ) → IsStrictlyIncreasing cpus → (n cpu : ℕ) → n < length cpus → cpu ≡ get_or cpus n cpu
    → AreFewer (take n cpus) cpu
fewer_next cpus rising n cpu within is k other at =
    let early = slice_get_within (take n cpus) k other at in
    let short : length (take n cpus) ≡ n = length-take-le n cpus (omega arith) in
    let here : slice_get cpus k ≡ Some other =
    subst (λ xs. slice_get xs k ≡ Some other) (take-append-drop n cpus)
    (get_in_front (take n cpus) (drop n cpus) k other at) in
    let there : slice_get cpus n ≡ Some cpu = slice_get-get_or cpus n cpu within ∙ ap (λ q. Some q) (sym is) in
    let less = below_from_sorted cpus k n 0 (sorted_from_strictly_increasing cpus rising) (omega arith) within in
    let a = get_or_from_slice_get cpus k other 0 here in
    let b = get_or_from_slice_get cpus n cpu 0 there in
    omega arith

-- the records from the bound on are those that the stream has
pub listed_of : (known : Stream) (cpu : ℕ) (list : List (ℕ × Record)) → AreRecordsFrom known.parcels cpu
    (bound_of known cpu) list
    → AreListed (HasRecord known cpu) list
listed_of known cpu list records = record {
  rising = records.rising;
  of_them = λ k a at. let h = records.of_them k a at in record { from = h.up; has = h.has };
  whole = λ n r h. records.whole n r record { has = h.has; up = h.from };
}

-- ---- one stream more

-- each of these streams is before this one
abbrev pub AreBelow : List (ℕ × Stream) → ℕ → Type 0
AreBelow front stream = (k : ℕ) (entry : ℕ × Stream) → slice_get front k ≡ Some entry → entry.0 < stream

pub fleet_more : (before : Option Moment) (front : List (ℕ × Stream)) (stream : ℕ) (known : Stream)
    (lines more : List Line)
    → AreBelow front stream
    → AreLinesOf (HasIn before front) lines
    → AreLinesOf (HasOf before stream known) more
    → AreLinesOf (HasIn before (front ++ (stream, known) ∷ [])) (lines ++ more)
fleet_more before front stream known lines more low p q =
    lines_append (HasIn before front) (HasOf before stream known) (HasIn before (front ++ (stream, known) ∷ []))
    (λ s c n r h. record {
      index = h.index;
      known = h.known;
      at = get_in_front front ((stream, known) ∷ []) h.index (s, h.known) h.at;
      has = h.has;
    })
    (λ s c n r h. record {
      index = length front + 0;
      known = known;
      at = get_behind front ((stream, known) ∷ []) 0 ∙ ap (λ q. Some (q, known)) (sym h.stream_is);
      has = h.has;
    })
    (λ s c n r h. ⊎_elim
    (λ (there : (k : ℕ) × (slice_get front k ≡ Some (s, h.known))). inl record
    { index = there.0; known = h.known; at = there.1; has = h.has })
    (λ (here : (k : ℕ) × (slice_get ((stream, known) ∷ []) k ≡ Some (s, h.known))).
    let is : (stream, known) ≡ (s, h.known) = only (stream, known) here.0 (s, h.known) here.1 in
    let has : IsShown before known c n r = subst (λ x. IsShown before x c n r) (sym (ap (λ
    (e : ℕ × Stream). e.1) is)) h.has in
    inr record { stream_is = sym (ap (λ (e : ℕ × Stream). e.0) is); has = has })
    (get_in_either front ((stream, known) ∷ []) h.index (s, h.known) h.at))
    (λ a b h k.
    let less = low h.index (a.stream, h.known) h.at in
    let is = k.stream_is in
    let less_id : a.stream < b.stream = omega arith in
    inl less_id)
    lines more p q

-- no stream: no line
pub fleet_none : (before : Option Moment) → AreLinesOf (HasIn before []) []
fleet_none before = record {
  ordered = tt;
  of_them = λ line s. absurd (none-some line s.1);
  whole = λ s c n r h. absurd (none-some (s, h.known) h.at);
}
