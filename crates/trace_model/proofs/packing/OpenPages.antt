-- Data that holds the records of a fill: one record more, a payload written, and a record whose frame leaves.
use Rattle.std.proofs.Common.{◌≡◌, ℕ, zero, suc, ◌+◌, ◌-◌, ◌<◌, Bool, true, false, cond, ltb, leb, ◌^◌, List, [], ◌∷◌}
use Rattle.std.proofs.Common.{◌++◌, length, drop, replicate, map, Option, Some, None, IfSome, refl, sym, ap, ◌∙◌, subst}
use Rattle.std.proofs.Common.{arith, length-drop, length-take-le}
use Rattle.std.specs.List.{slice_get}
use Rattle.std.proofs.lemmas.List.{length-replicate}
use Rattle.trace_model.specs.Record.{Record}
use Rattle.trace_model.specs.Words.{Decodes, slot_len, encoded_len, padded}
use Rattle.trace_model.specs.Reading.{records_in, EndsInRecord}
use Rattle.trace_model.specs.Order.{moment_of_last}
use Rattle.trace_model.specs.Overwriting.{overwritten, bytes_at, IsPlaceOf}
use Rattle.trace_model.specs.History.{Reservation, last_moment, records_with_payload}
use Rattle.trace_model.specs.Packing.{len_behind, fill_len}
use Rattle.trace_model.specs.OpenPages.{IsOf, AreOf, first_moment, HoldsRecords}
use Rattle.trace_model.proofs.collections.Elements.{some_is}
use Rattle.trace_model.proofs.words.Lengths.{slot_len_ge_four, slot_len-slot_len}
use Rattle.trace_model.proofs.words.Unique.{records_in-Decodes}
use Rattle.trace_model.proofs.words.Overwritten.{place-within, length-overwritten}
use Rattle.trace_model.proofs.words.Places.{Decodes-overwritten, EndsInRecord-overwritten}
use Rattle.trace_model.proofs.packing.PackedHistories.{plain, plain-finished, fill_len-plain}

-- ---- lists that agree one by one

pub AreOf-length : (records : List Record) (fill : List Reservation) → AreOf records fill → length records ≡ length fill
AreOf-length [] [] all = refl
AreOf-length [] (s ∷ fill) all = absurd all
AreOf-length (r ∷ records) [] all = absurd all
AreOf-length (r ∷ records) (s ∷ fill) all = ap suc (AreOf-length records fill all.1)

pub AreOf-push : (records : List Record) (fill : List Reservation) (r : Record) (s : Reservation) → AreOf records fill
    → IsOf r s → AreOf (records ++ r ∷ []) (fill ++ s ∷ [])
AreOf-push [] [] r s all one = (one, tt)
AreOf-push [] (t ∷ fill) r s all one = absurd all
AreOf-push (q ∷ records) [] r s all one = absurd all
AreOf-push (q ∷ records) (t ∷ fill) r s all one = (all.0, AreOf-push records fill r s all.1 one)

-- the last moments are the same
pub AreOf-last : (records : List Record) (fill : List Reservation) → AreOf records fill
    → IfSome (moment_of_last records) (λ last. last ≡ last_moment fill)
AreOf-last [] [] all = tt
AreOf-last [] (s ∷ fill) all = absurd all
AreOf-last (r ∷ records) [] all = absurd all
AreOf-last (r ∷ []) (s ∷ []) all = all.0.moment_is
AreOf-last (r ∷ []) (s ∷ t ∷ fill) all = absurd all.1
AreOf-last (r ∷ q ∷ records) (s ∷ []) all = absurd all.1
AreOf-last (r ∷ q ∷ records) (s ∷ t ∷ fill) all = AreOf-last (q ∷ records) (t ∷ fill) all.1

-- a record whose bytes are still open may have others, as many
AreOf-replaced : (front behind : List Record) (moment : ℕ) (old new : List ℕ) (fill : List Reservation) (k : ℕ)
    (s : Reservation) → length front ≡ k → slice_get fill k ≡ Some s → s.bytes ≡ None → length old ≡ length new
    → AreOf (front ++ record { moment = moment; bytes = old } ∷ behind) fill
    → AreOf (front ++ record { moment = moment; bytes = new } ∷ behind) fill
AreOf-replaced [] behind moment old new [] k s at found unwritten same all = absurd all
AreOf-replaced [] behind moment old new (t ∷ fill) zero s at found unwritten same all = (
  record {
    moment_is = all.0.moment_is;
    fills_slot = sym same ∙ all.0.fills_slot;
    bytes_are =
        subst (λ (b : Option (List ℕ)). IfSome b (λ bytes. new ≡ bytes))
        (sym (ap (λ (x : Reservation). x.bytes) (some_is t s found) ∙ unwritten)) tt;
  },
  all.1,
)
AreOf-replaced [] behind moment old new (t ∷ fill) (suc k) s at found unwritten same all = absurd (omega arith)
AreOf-replaced (q ∷ front) behind moment old new [] k s at found unwritten same all = absurd all
AreOf-replaced (q ∷ front) behind moment old new (t ∷ fill) zero s at found unwritten same all = absurd (omega arith)
AreOf-replaced (q ∷ front) behind moment old new (t ∷ fill) (suc k) s at found unwritten same all =
    (all.0, AreOf-replaced front behind moment old new fill k s (omega arith) found unwritten same all.1)

-- a record whose frame leaves with its very bytes
pub AreOf-finished : (records : List Record) (fill : List Reservation) (k : ℕ) (payload : List ℕ) → AreOf records fill
    → ((r : Record) → slice_get records k ≡ Some r → r.bytes ≡ padded payload)
    → AreOf records (records_with_payload (Some k) (Some payload) fill)
AreOf-finished [] [] k payload all bytes = tt
AreOf-finished [] (s ∷ fill) k payload all bytes = absurd all
AreOf-finished (r ∷ records) [] k payload all bytes = absurd all
AreOf-finished (r ∷ records) (s ∷ fill) zero payload all bytes =
    (record { moment_is = all.0.moment_is; fills_slot = all.0.fills_slot; bytes_are = bytes r refl }, all.1)
AreOf-finished (r ∷ records) (s ∷ fill) (suc k) payload all bytes =
    (all.0, AreOf-finished records fill k payload all.1 bytes)

-- ---- how many bytes a record more takes

len_behind-push : (prev : ℕ) (fill : List Reservation) (first r : Reservation) → first.moment ≡ prev
    → len_behind prev (fill ++ r ∷ [])
    ≡ len_behind prev fill + encoded_len r.len (r.moment - last_moment (first ∷ fill)) false
len_behind-push prev [] first r at =
    ap (λ (m : ℕ). encoded_len r.len (r.moment - m) false + 0) (sym at)
    ∙ turned (encoded_len r.len (r.moment - first.moment) false)
  where
    turned : (k : ℕ) → k + 0 ≡ 0 + k
    turned k = omega arith
len_behind-push prev (s ∷ fill) first r at =
    together (encoded_len s.len (s.moment - prev) false) (len_behind s.moment (fill ++ r ∷ []))
    (len_behind s.moment fill) (encoded_len r.len (r.moment - last_moment (s ∷ fill)) false)
    (len_behind-push s.moment fill s r refl)
  where
    together : (a x b c : ℕ) → x ≡ b + c → a + x ≡ a + b + c
    together a x b c e = omega arith

-- it takes as many bytes as the writer reckons: after none it is the page's first
pub fill_len-first : (r : Reservation) → fill_len ([] ++ r ∷ []) ≡ encoded_len r.len 0 true
fill_len-first r = plus_none (encoded_len r.len 0 true)
  where
    plus_none : (k : ℕ) → k + 0 ≡ k
    plus_none k = omega arith

pub fill_len-push : (s : Reservation) (fill : List Reservation) (r : Reservation)
    → fill_len ((s ∷ fill) ++ r ∷ [])
    ≡ fill_len (s ∷ fill) + encoded_len r.len (r.moment - last_moment (s ∷ fill)) false
fill_len-push s fill r =
    together (encoded_len s.len 0 true) (len_behind s.moment (fill ++ r ∷ [])) (len_behind s.moment fill)
    (encoded_len r.len (r.moment - last_moment (s ∷ fill)) false) (len_behind-push s.moment fill s r refl)
  where
    together : (a x b c : ℕ) → x ≡ b + c → a + x ≡ a + b + c
    together a x b c e = omega arith

-- a slot takes as much as its payload
pub encoded_len-slot : (len delta : ℕ) (first : Bool)
    → encoded_len (slot_len len) delta first ≡ encoded_len len delta first
encoded_len-slot len delta first =
    ap (λ (n : ℕ). (cond first 0 (cond (ltb delta (2 ^ 27)) 0 8) + cond (leb n 112) 4 8) + n) (slot_len-slot_len len)

-- a fill takes bytes where it has a record
pub fill_len-some : (s : Reservation) (fill : List Reservation) → 0 < fill_len (s ∷ fill)
fill_len-some s fill = omega (arith, slot_len_ge_four s.len)

-- ---- data that holds a fill

pub holds_none : Decodes [] 0 (records_in 0 []) → records_in 0 [] ≡ [] → EndsInRecord [] → HoldsRecords 0 [] []
holds_none reads none ends = record {
  reads = reads;
  each = subst (λ (l : List Record). AreOf l []) (sym none) tt;
  time_is = refl;
  len_is = refl;
  ends = ends;
}

-- a payload of an open record, written again
pub holds_written : (time : ℕ) (bytes : List ℕ) (fill : List Reservation) (k start len : ℕ) (s : Reservation)
    (part : List ℕ) → HoldsRecords time bytes fill → IsPlaceOf bytes k start len → slice_get fill k ≡ Some s
    → s.bytes ≡ None → length part ≡ len
    → HoldsRecords time (overwritten bytes start part) fill
holds_written time bytes fill k start len s part h place found unwritten fills =
    let new : List ℕ = overwritten bytes start part in
    let d = Decodes-overwritten bytes time (records_in time bytes) k start len part place fills h.reads in
    let is : records_in time new ≡ d.0 = records_in-Decodes new time d.0 d.1 in
    let replaced = d.2 in
    let within = place-within bytes start len place.place in
    let old_len : length (bytes_at start len bytes) ≡ length part =
    length-take-le len (drop start bytes) (omega (arith, length-drop start bytes)) ∙ sym fills in
    let all : AreOf d.0 fill =
    subst (λ (l : List Record). AreOf l fill) (sym replaced.is)
    (AreOf-replaced replaced.front replaced.behind replaced.moment (bytes_at start len bytes) part fill k s
    replaced.at found unwritten old_len (subst (λ (l : List Record). AreOf l fill) replaced.was h.each)) in
    record {
      reads = subst (Decodes new time) (sym is) d.1;
      each = subst (λ (l : List Record). AreOf l fill) (sym is) all;
      time_is = h.time_is;
      len_is = length-overwritten bytes start len place.place part fills ∙ h.len_is;
      ends = EndsInRecord-overwritten bytes start len part place.place fills h.ends;
    }

get_at : (front behind : List Record) (x r : Record) (k : ℕ) → length front ≡ k
    → slice_get (front ++ x ∷ behind) k ≡ Some r → r ≡ x
get_at [] behind x r zero at found = sym (some_is x r found)
get_at [] behind x r (suc k) at found = absurd (omega arith)
get_at (y ∷ front) behind x r zero at found = absurd (omega arith)
get_at (y ∷ front) behind x r (suc k) at found = get_at front behind x r k (omega arith) found

-- the record of a place has the bytes that are there
pub bytes_of_place : (time : ℕ) (bytes : List ℕ) (k start len : ℕ) (r : Record)
    → Decodes bytes time (records_in time bytes) → IsPlaceOf bytes k start len
    → slice_get (records_in time bytes) k ≡ Some r → r.bytes ≡ bytes_at start len bytes
bytes_of_place time bytes k start len r reads place found =
    let within = place-within bytes start len place.place in
    let long : length (bytes_at start len bytes) ≡ len =
    length-take-le len (drop start bytes) (omega (arith, length-drop start bytes)) in
    let d =
    Decodes-overwritten bytes time (records_in time bytes) k start len (bytes_at start len bytes) place long
    reads in
    let replaced = d.2 in
    ap (λ (x : Record). x.bytes)
    (get_at replaced.front replaced.behind record { moment = replaced.moment; bytes = bytes_at start len bytes } r k
    replaced.at (subst (λ (l : List Record). slice_get l k ≡ Some r) replaced.was found))

pub first_moment-plain : (fill : List Reservation) → first_moment (map plain fill) ≡ first_moment fill
first_moment-plain [] = refl
first_moment-plain (s ∷ fill) = refl

-- the data holds a fill's records after the bytes of one of them are given, if those are in the data
pub holds_finished : (time : ℕ) (bytes : List ℕ) (fill : List Reservation) (k : ℕ) (payload : List ℕ)
    → HoldsRecords time bytes fill
    → ((r : Record) → slice_get (records_in time bytes) k ≡ Some r → r.bytes ≡ padded payload)
    → HoldsRecords time bytes (records_with_payload (Some k) (Some payload) fill)
holds_finished time bytes fill k payload h are =
    let same : map plain (records_with_payload (Some k) (Some payload) fill) ≡ map plain fill =
    plain-finished (Some k) (Some payload) fill in
    record {
      reads = h.reads;
      each = AreOf-finished (records_in time bytes) fill k payload h.each are;
      time_is =
          h.time_is ∙ sym (first_moment-plain fill) ∙ ap first_moment (sym same)
          ∙ first_moment-plain (records_with_payload (Some k) (Some payload) fill);
      len_is =
          h.len_is ∙ sym (fill_len-plain fill) ∙ ap fill_len (sym same)
          ∙ fill_len-plain (records_with_payload (Some k) (Some payload) fill);
      ends = h.ends;
    }

-- ---- one record more

-- What is left by a record that was put after those of a fill: its data, its time, and what is read there.
pub record PutBehind (time : ℕ) (bytes : List ℕ) (first : Bool) (moment len delta time' : ℕ) (bytes' : List ℕ) : Type 0
  where
    pub reads : Decodes bytes' time' (records_in time' bytes')
    pub records : records_in time' bytes'
        ≡ records_in time bytes ++ record { moment = moment; bytes = replicate (slot_len len) 0 } ∷ []
    pub time_is : time' ≡ cond first moment time
    pub len_is : length bytes' ≡ length bytes + encoded_len len delta first
    pub ends : EndsInRecord bytes'

new_is : (moment len : ℕ)
    → IsOf record { moment = moment; bytes = replicate (slot_len len) 0 }
    record { moment = moment; len = slot_len len; bytes = None }
new_is moment len = record { moment_is = refl; fills_slot = length-replicate (slot_len len) 0; bytes_are = tt }

pub holds_put_first : (time : ℕ) (bytes : List ℕ) (moment len delta time' : ℕ) (bytes' : List ℕ)
    → HoldsRecords time bytes [] → PutBehind time bytes true moment len delta time' bytes'
    → HoldsRecords time' bytes' ([] ++ record { moment = moment; len = slot_len len; bytes = None } ∷ [])
holds_put_first time bytes moment len delta time' bytes' h p = record {
  reads = p.reads;
  each =
      subst (λ (l : List Record). AreOf l (record { moment = moment; len = slot_len len; bytes = None } ∷ []))
      (sym p.records) (AreOf-push (records_in time bytes) [] _ _ h.each (new_is moment len));
  time_is = p.time_is;
  len_is =
      p.len_is ∙ ap (λ (n : ℕ). n + encoded_len len delta true) h.len_is ∙ plus (encoded_len len 0 true)
      ∙ sym
      (fill_len-first record { moment = moment; len = slot_len len; bytes = None }
      ∙ encoded_len-slot len 0 true);
  ends = p.ends;
}
  where
    plus : (k : ℕ) → 0 + k ≡ k
    plus k = omega arith

pub holds_put_behind : (time : ℕ) (bytes : List ℕ) (s : Reservation) (fill : List Reservation) (moment len time' : ℕ)
    (bytes' : List ℕ) → HoldsRecords time bytes (s ∷ fill)
    → PutBehind time bytes false moment len (moment - last_moment (s ∷ fill)) time' bytes'
    → HoldsRecords time' bytes' ((s ∷ fill) ++ record { moment = moment; len = slot_len len; bytes = None } ∷ [])
holds_put_behind time bytes s fill moment len time' bytes' h p = record {
  reads = p.reads;
  each =
      subst
      (λ (l : List Record).
      AreOf l ((s ∷ fill) ++ record { moment = moment; len = slot_len len; bytes = None } ∷ [])) (sym p.records)
      (AreOf-push (records_in time bytes) (s ∷ fill) _ _ h.each (new_is moment len));
  time_is = p.time_is ∙ h.time_is;
  len_is =
      p.len_is ∙ ap (λ (n : ℕ). n + encoded_len len (moment - last_moment (s ∷ fill)) false) h.len_is
      ∙ ap (λ (n : ℕ). fill_len (s ∷ fill) + n) (sym (encoded_len-slot len (moment - last_moment (s ∷ fill)) false))
      ∙ sym (fill_len-push s fill record { moment = moment; len = slot_len len; bytes = None });
  ends = p.ends;
}
