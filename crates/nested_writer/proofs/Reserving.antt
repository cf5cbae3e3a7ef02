-- A record that is reserved in the tail.
use Rattle.std.proofs.Common.{◌≡◌, ◌≢◌, ℕ, zero, suc, ◌+◌, ◌-◌, ◌<◌, ◌≤◌, max, Bool, true, false, cond, List, [], ◌∷◌}
use Rattle.std.proofs.Common.{◌++◌, length, get_or, drop, replicate, Option, Some, None, refl, sym, ap, ◌∙◌, subst}
use Rattle.std.proofs.Common.{arith, length-drop}
use Rattle.std.specs.List.{slice_get}
use Rattle.std.proofs.lemmas.Option.{same_Some, slice_get_within}
use Rattle.std.proofs.lemmas.List.{length_push}
use Rattle.trace_model.specs.declared.limits.TheConstants.{MOMENT_LIMIT}
use Rattle.trace_model.specs.Words.{slot_len, encoded_len}
use Rattle.trace_model.specs.Reading.{EndsInRecord}
use Rattle.trace_model.specs.Overwriting.{IsPlaceOf}
use Rattle.trace_model.specs.History.{HistoryEvent, reserve, Reservation, PushedFrame, record_frame, last_moment}
use Rattle.trace_model.specs.History.{reservation_for, writer_after, reserved_records, MayReserve}
use Rattle.trace_model.specs.Packing.{opens_of, cut_from, tail_of, fill_len, FitsBehind, is_wished}
use Rattle.trace_model.specs.Fitting.{IsRising, tail_at}
use Rattle.trace_model.specs.Frames.{reserved, pushed_onto, pushed_of}
use Rattle.trace_model.specs.Frames as frames_model
use Rattle.trace_model.specs.OpenPages.{HoldsRecords}
use Rattle.trace_model.proofs.collections.Elements.{get_in_front, get_behind}
use Rattle.trace_model.proofs.packing.FillCuts.{IsRising-more, reserved_before, reserved_last, opens_of-reserve}
use Rattle.trace_model.proofs.packing.PackedHistories.{room_reserved, needs_reserved, fit_more, tail_is, wanted_record}
use Rattle.trace_model.proofs.packing.PackedHistories.{is_wished-reserve}
use Rattle.trace_model.proofs.histories.Allowed.{IsHistory-push}
use Rattle.trace_model.proofs.histories.NextEvent.{reserved_stack}
use Rattle.trace_model.proofs.histories.NextRecords.{records_reserved}
use Rattle.trace_model.proofs.packing.OpenPages.{AreOf-length, holds_put_first, holds_put_behind, fill_len-some}
use Rattle.trace_model.proofs.packing.OpenPages.{fill_len-first, fill_len-push, encoded_len-slot}
use Rattle.page_image.specs.Contents.{Contents, IsPage, records_of_page, is_blank}
use Rattle.record_words.specs.declared.put.Place.{Place}
use Rattle.nested_writer.specs.declared.frame.Purpose.{Purpose}
use Rattle.nested_writer.specs.declared.frame.Purpose.TheVariants.{Record as ForRecord}
use Rattle.nested_writer.specs.declared.frame.Slot.{Slot}
use Rattle.nested_writer.specs.declared.frame.Progress.TheVariants.{Waiting, Reserved}
use Rattle.nested_writer.specs.declared.frame.Frame.{Frame}
use Rattle.nested_writer.specs.Stack.{Stack, tail_fill, next_number, kind_of, state_of, model_frames}
use Rattle.nested_writer.specs.IsStack.{is_tail, is_older, IsUnwritten, AreBefore, MayBePushed, FramesStand, IsStackOf}
use Rattle.nested_writer.specs.IsStack.{IsStack}
use Rattle.nested_writer.specs.Calls.{end_with}
use Rattle.nested_writer.proofs.Pushing.{same_of}
use Rattle.nested_writer.proofs.Standing.{unwritten_in, as_many, frames_on, all_before}

-- ---- the last fill

-- the records up to the last cut and those after it are all
tail_count-from : (from : ℕ) (cuts : List ℕ) (xs : List Reservation) → IsRising from cuts (length xs)
    → get_or (from ∷ cuts) (length cuts) 0 + length (get_or (cut_from from cuts xs) (length cuts) []) ≡ length xs
tail_count-from from [] xs r = omega (arith, length-drop from xs)
tail_count-from from (cut ∷ cuts) xs r = tail_count-from cut cuts xs r.1

pub tail_count : (cuts : List ℕ) (xs : List Reservation) → IsRising 0 cuts (length xs)
    → get_or (0 ∷ cuts) (length cuts) 0 + length (tail_at cuts xs) ≡ length xs
tail_count cuts xs r = tail_count-from 0 cuts xs r

last_moment-cons : (x : Reservation) (ys : List Reservation) (s : Reservation) (zs : List Reservation) → ys ≡ s ∷ zs
    → last_moment (x ∷ ys) ≡ last_moment (s ∷ zs)
last_moment-cons x [] s zs e = cc
last_moment-cons x (y ∷ ys) s zs e = ap last_moment e

drop_some : (n : ℕ) (xs : List Reservation) (s : Reservation) (ys : List Reservation) → drop n xs ≡ s ∷ ys
    → (z : Reservation) × (zs : List Reservation) × (xs ≡ z ∷ zs)
drop_some zero [] s ys e = cc
drop_some (suc n) [] s ys e = cc
drop_some n (x ∷ xs) s ys e = (x, xs, refl)

last_moment-drop : (n : ℕ) (xs : List Reservation) (s : Reservation) (ys : List Reservation) → drop n xs ≡ s ∷ ys
    → last_moment (s ∷ ys) ≡ last_moment xs
last_moment-drop zero xs s ys e = ap last_moment (sym e)
last_moment-drop (suc n) [] s ys e = cc
last_moment-drop (suc n) (x ∷ xs) s ys e = let some = drop_some n xs s ys e in
    last_moment-drop n xs s ys e ∙ ap last_moment some.2 ∙ sym (last_moment-cons x xs some.0 some.1 some.2)

last_from : (from : ℕ) (cuts : List ℕ) (xs : List Reservation) (s : Reservation) (ys : List Reservation)
    → get_or (cut_from from cuts xs) (length cuts) [] ≡ s ∷ ys → last_moment (s ∷ ys) ≡ last_moment xs
last_from from [] xs s ys e = last_moment-drop from xs s ys e
last_from from (cut ∷ cuts) xs s ys e = last_from cut cuts xs s ys e

-- the last moment of a tail that isn't empty is that of all
pub last_of_tail : (cuts : List ℕ) (xs : List Reservation) (s : Reservation) (ys : List Reservation)
    → tail_at cuts xs ≡ s ∷ ys → last_moment (s ∷ ys) ≡ last_moment xs
last_of_tail cuts xs s ys e = last_from 0 cuts xs s ys e

pub last_moment-push : (xs : List Reservation) (r : Reservation) → last_moment (xs ++ r ∷ []) ≡ r.moment
last_moment-push [] r = refl
last_moment-push (x ∷ []) r = refl
last_moment-push (x ∷ y ∷ xs) r = last_moment-push (y ∷ xs) r

-- ---- the record that is put

-- What a record put after those of a page leaves, with this payload in its slot.
pub record IsPutWith (tail tail' : Contents) (prev moment len : ℕ) (part : List ℕ) (place : Place) : Type 0 where
  pub page : IsPage tail → IsPage tail'
  pub records : IsPage tail
      → records_of_page tail' ≡ records_of_page tail ++ record { moment = moment; bytes = part } ∷ []
  pub long : length tail'.bytes ≡ length tail.bytes + encoded_len len (moment - prev) (is_blank tail.bytes)
  pub time : tail'.time ≡ cond (is_blank tail.bytes) moment tail.time
  pub count : tail'.count ≡ tail.count + 1
  pub first : tail'.first ≡ tail.first
  pub fill : tail'.fill ≡ tail.fill
  pub size : tail'.size ≡ tail.size
  pub ends : EndsInRecord tail'.bytes
  pub number : IsPage tail → IsPlaceOf tail'.bytes tail.count place.start place.len
  pub places_stay : (number start len : ℕ) → IsPlaceOf tail.bytes number start len
      → IsPlaceOf tail'.bytes number start len
  pub len_is : place.len ≡ slot_len len

-- with zeros there
abbrev pub IsPut : (tail tail' : Contents) (prev moment len : ℕ) (place : Place) → Type 0
IsPut tail tail' prev moment len place = IsPutWith tail tail' prev moment len (replicate (slot_len len) 0) place

blank_none : (bytes : List ℕ) → length bytes ≡ 0 → is_blank bytes ≡ true
blank_none [] e = refl
blank_none (b ∷ bytes) e = cc

blank_some : (bytes : List ℕ) → 0 < length bytes → is_blank bytes ≡ false
blank_some [] e = absurd (omega arith)
blank_some (b ∷ bytes) e = refl

-- the tail's data holds one record more
put_holds : (tail tail' : Contents) (prev moment len : ℕ) (place : Place) (fill : List Reservation) → IsPage tail
    → IsPut tail tail' prev moment len place → HoldsRecords tail.time tail.bytes fill
    → ((t : Reservation) (ts : List Reservation) → fill ≡ t ∷ ts → last_moment (t ∷ ts) ≡ prev)
    → HoldsRecords tail'.time tail'.bytes (fill ++ record { moment = moment; len = slot_len len; bytes = None } ∷ [])
put_holds tail tail' prev moment len place [] page p h last =
    let blank = blank_none tail.bytes h.len_is in
    holds_put_first tail.time tail.bytes moment len (moment - prev) tail'.time tail'.bytes h record {
      reads = (p.page page).reads;
      records = p.records page;
      time_is = p.time ∙ ap (λ (b : Bool). cond b moment tail.time) blank;
      len_is = p.long ∙ ap (λ (b : Bool). length tail.bytes + encoded_len len (moment - prev) b) blank;
      ends = p.ends;
    }
put_holds tail tail' prev moment len place (t ∷ ts) page p h last =
    let blank = blank_some tail.bytes (let long = h.len_is in let some = fill_len-some t ts in omega arith) in
    holds_put_behind tail.time tail.bytes t ts moment len tail'.time tail'.bytes h record {
      reads = (p.page page).reads;
      records = p.records page;
      time_is = p.time ∙ ap (λ (b : Bool). cond b moment tail.time) blank;
      len_is = p.long ∙ ap (λ (b : Bool). length tail.bytes + encoded_len len (moment - prev) b) blank
          ∙ ap (λ (m : ℕ). length tail.bytes + encoded_len len (moment - m) false) (sym (last t ts refl));
      ends = p.ends;
    }

-- ---- the stack

module _ (start : ℕ) (cuts : List ℕ) (records : List Reservation) (found : Bool) (s : Stack)
    (k : IsStackOf start cuts records found s) where
  -- how many fills were begun before the last one
  pub cuts_are : length cuts ≡ s.done - start + length s.older
  cuts_are = let begun = k.begun in let low = k.from_start in omega arith

  -- the next record's number is how many are reserved
  pub number_is : next_number s ≡ length records
  number_is = let first = k.tail_is.first_is in let counted = k.tail_is.page_reads.counted in
      let same = AreOf-length (records_of_page s.tail) (tail_at cuts records) k.tail_is.holds.each in
      let all = tail_count cuts records k.rising in omega arith

  pub tail_last : (t : Reservation) (ts : List Reservation) → tail_at cuts records ≡ t ∷ ts
      → last_moment (t ∷ ts) ≡ s.last_moment
  tail_last t ts e = last_of_tail cuts records t ts e ∙ sym k.last_is

module _ (start : ℕ) (cuts : List ℕ) (records : List Reservation) (found : Bool) (s : Stack)
    (k : IsStackOf start cuts records found s) (top : Frame) (below : List Frame) (moment len : ℕ) (tail' : Contents)
    (place : Place) (p : IsPut s.tail tail' s.last_moment (max moment s.last_moment) len place) where
  abbrev r : Reservation
  r = reservation_for moment len records

  abbrev slot : Slot
  slot = record { number = next_number s; fill = tail_fill s; place = place }

  abbrev pub after : Stack
  after =
      record s {
        tail = tail';
        last_moment = max moment s.last_moment;
        frames = record top { progress = Reserved slot } ∷ below;
      }

  r_is : r ≡ record { moment = max moment s.last_moment; len = slot_len len; bytes = None }
  r_is =
      ap (λ (m : ℕ). let q : Reservation = record { moment = max moment m; len = slot_len len; bytes = None } in q)
      (sym k.last_is)

  tail_holds : HoldsRecords tail'.time tail'.bytes (tail_at cuts records ++ r ∷ [])
  tail_holds =
      subst (λ (q : Reservation). HoldsRecords tail'.time tail'.bytes (tail_at cuts records ++ q ∷ [])) (sym r_is)
      (put_holds s.tail tail' s.last_moment (max moment s.last_moment) len place (tail_at cuts records)
      k.tail_is.page_reads p k.tail_is.holds (tail_last start cuts records found s k))

  -- it fits
  fits_behind : s.tail.size ≡ s.size → length tail'.bytes ≤ s.size → FitsBehind s.size (tail_at cuts records) r
  fits_behind same low = let long = tail_holds.len_is in omega arith

  lies_on : (n : ℕ) (l : Slot) → l.number < length records → IsUnwritten s.done s.older s.tail records n l
      → IsUnwritten s.done s.older tail' (records ++ r ∷ []) n l
  lies_on n l low lies = elim lies.open_page [
    | is_tail at is ↦ unwritten_in tail' lies (is_tail at refl)
        (let le = lies.first_le in let same = ap (λ (q : Contents). q.first) is in let stays = p.first in omega arith)
        (subst (λ (f : ℕ). IsPlaceOf tail'.bytes (l.number - f) l.place.start l.place.len) (sym p.first)
        (p.places_stay _ _ _
        (subst (λ (q : Contents). IsPlaceOf q.bytes (l.number - q.first) l.place.start l.place.len) is lies.place)))
        (get_in_front records (r ∷ []) l.number lies.reservation lies.at)
    | is_older j at is ↦ unwritten_in lies.page lies (is_older j at is) lies.first_le lies.place
        (get_in_front records (r ∷ []) l.number lies.reservation lies.at)
  ]

  pub of_reserved : s.frames ≡ top ∷ below → top.purpose ≡ ForRecord moment len → moment < MOMENT_LIMIT
      → length tail'.bytes ≤ s.size → IsStackOf start cuts (records ++ r ∷ []) found after
  of_reserved top_is purpose early low =
      let frames = subst (FramesStand s.size s.done s.older s.tail cuts records found) top_is k.frames_are in
      let all = all_before s.size s.done s.older s.tail cuts records found below frames.4 in
      let number = number_is start cuts records found s k in
      let page : IsPage s.tail = k.tail_is.page_reads in
      record {
        begun = k.begun;
        from_start = k.from_start;
        rising =
            IsRising-more 0 cuts (length records) (length (records ++ r ∷ [])) (omega (arith, length_push records r))
            k.rising;
        room = room_reserved s.size cuts records r k.rising (fits_behind k.tail_is.size_is low) k.room;
        last_is = ap (max moment) k.last_is ∙ sym (last_moment-push records r);
        in_time = let old = k.in_time in omega arith;
        large = k.large;
        older_are = λ j older at. let inside = slice_get_within s.older j older at in
            let cuts_len = cuts_are start cuts records found s k in
            let q = k.older_are j older at in
            record {
              page_reads = q.page_reads;
              size_is = q.size_is;
              fill_is = q.fill_is;
              first_is = q.first_is;
              holds =
                  subst (HoldsRecords older.time older.bytes)
                  (sym (reserved_before 0 cuts records r (s.done - start + j) k.rising (omega arith))) q.holds;
            };
        tail_is = record {
          page_reads = p.page page;
          size_is = p.size ∙ k.tail_is.size_is;
          fill_is = p.fill ∙ k.tail_is.fill_is;
          first_is = p.first ∙ k.tail_is.first_is;
          holds =
              subst (HoldsRecords tail'.time tail'.bytes) (sym (reserved_last 0 cuts records r k.rising)) tail_holds;
        };
        frames_are = (
          frames.0,
          (
            moment,
            len,
            ap kind_of purpose,
            record {
              page = tail';
              open_page = is_tail refl refl;
              first_le = let stays = p.first in omega arith;
              place =
                  subst (λ (n : ℕ). IsPlaceOf tail'.bytes n place.start place.len)
                  (let stays = p.first in let e : s.tail.count ≡ next_number s - tail'.first = omega arith in e)
                  (p.number page);
              fills_slot = p.len_is;
              reservation = r;
              at =
                  ap (slice_get (records ++ r ∷ [])) (number ∙ plus_none (length records))
                  ∙ get_behind records (r ∷ []) 0;
              len_is = refl;
              unwritten = refl;
            },
          ),
          subst (λ (n : ℕ). AreBefore n below) (sym number) all,
          λ e. cc,
          frames_on s.size s.done s.older s.tail cuts records found s.done s.older tail' cuts (records ++ r ∷ []) found
              (length records)
              (as_many refl (λ kind state needs. needs_reserved s.size cuts records r found kind state k.rising needs))
              lies_on below all frames.4,
        );
      }
    where
      plus_none : (n : ℕ) → n ≡ n + 0
      plus_none n = omega arith

-- ---- its room

pub holds_nothing : (bytes : List ℕ) (time : ℕ) → HoldsRecords time bytes [] → bytes ≡ []
holds_nothing [] time h = refl
holds_nothing (b ∷ bytes) time h = absurd (let none = h.len_is in omega arith)

module _ (start : ℕ) (cuts : List ℕ) (records : List Reservation) (found : Bool) (s : Stack)
    (k : IsStackOf start cuts records found s) where
  end_of : (fill : List Reservation) (prev moment len : ℕ) → HoldsRecords s.tail.time s.tail.bytes fill
      → ((t : Reservation) (ts : List Reservation) → fill ≡ t ∷ ts → last_moment (t ∷ ts) ≡ prev)
      → fill_len (fill ++ record { moment = moment; len = slot_len len; bytes = None } ∷ [])
      ≡ length s.tail.bytes + encoded_len len (moment - prev) (is_blank s.tail.bytes)
  end_of [] prev moment len h last = let blank = blank_none s.tail.bytes h.len_is in
      fill_len-first record { moment = moment; len = slot_len len; bytes = None } ∙ encoded_len-slot len 0 true
      ∙ plus (encoded_len len 0 true) ∙ ap (λ (n : ℕ). n + encoded_len len (moment - prev) true) (sym h.len_is)
      ∙ ap (λ (b : Bool). length s.tail.bytes + encoded_len len (moment - prev) b) (sym blank)
    where
      plus : (n : ℕ) → n ≡ 0 + n
      plus n = omega arith
  end_of (t ∷ ts) prev moment len h last =
      let blank =
      blank_some s.tail.bytes (let long = h.len_is in let some = fill_len-some t ts in omega arith) in
      fill_len-push t ts record { moment = moment; len = slot_len len; bytes = None }
      ∙ ap (λ (n : ℕ). fill_len (t ∷ ts) + n) (encoded_len-slot len (moment - last_moment (t ∷ ts)) false)
      ∙ ap (λ (m : ℕ). fill_len (t ∷ ts) + encoded_len len (moment - m) false) (last t ts refl)
      ∙ ap (λ (n : ℕ). n + encoded_len len (moment - prev) false) (sym h.len_is)
      ∙ ap (λ (b : Bool). length s.tail.bytes + encoded_len len (moment - prev) b) (sym blank)

  -- what the writer reckons is what the fill takes with the record
  pub end_is : (moment len : ℕ)
      → fill_len (tail_at cuts records ++ reservation_for moment len records ∷ []) ≡ end_with s moment len
  end_is moment len =
      ap
      (λ (m : ℕ). let q : Reservation = record { moment = max moment m; len = slot_len len; bytes = None } in
      fill_len (tail_at cuts records ++ q ∷ [])) (sym k.last_is)
      ∙ end_of (tail_at cuts records) s.last_moment (max moment s.last_moment) len k.tail_is.holds
      (tail_last start cuts records found s k)

  -- a tail of some bytes holds a record
  pub tail_some : s.tail.bytes ≢ [] → tail_at cuts records ≢ []
  tail_some some none =
      some (holds_nothing s.tail.bytes s.tail.time (subst (HoldsRecords s.tail.time s.tail.bytes) none k.tail_is.holds))

-- ---- the history

pub reserved_record : (start : ℕ) (h : List HistoryEvent) (s : Stack) (top : Frame) (below : List Frame)
    (moment len : ℕ) (noted : Option ℕ) (tail' : Contents) (place : Place)
    → s.frames ≡ top ∷ below
    → top.purpose ≡ ForRecord moment len
    → top.progress ≡ Waiting noted
    → length tail'.bytes ≤ s.size
    → IsPut s.tail tail' s.last_moment (max moment s.last_moment) len place
    → IsStack start h s
    → IsStack start (h ++ reserve ∷ [])
    (record s {
      tail = tail';
      last_moment = max moment s.last_moment;
      frames =
          record top {
            progress =
                Reserved record { number = next_number s; fill = tail_fill s; place = place };
          }
          ∷ below;
    })
reserved_record start h s top below moment len noted tail' place top_is purpose waits low p k =
    let xs : List Reservation = reserved_records h in
    let q : Reservation = reservation_for moment len xs in
    let o = k.holds in
    let rest : List PushedFrame = pushed_of (model_frames below) in
    let stack : (writer_after h).stack ≡ record_frame moment len None ∷ rest =
    k.stack_is ∙ ap (λ (fs : List Frame). pushed_of (model_frames fs)) top_is
    ∙ (λ i. pushed_onto (kind_of (purpose i)) (state_of (waits i)) rest) in
    let early =
    (subst (λ (kind : frames_model.Purpose). MayBePushed s.size kind) (ap kind_of purpose)
    (subst (FramesStand s.size s.done s.older s.tail (opens_of h) xs (is_wished h)) top_is o.frames_are).0).1 in
    let fits : FitsBehind s.size (tail_at (opens_of h) xs) q =
    fits_behind start (opens_of h) xs (is_wished h) s o top below moment len tail' place p o.tail_is.size_is low in
    record {
      keeps = IsHistory-push h reserve k.keeps (subst MayReserve (sym stack) refl);
      stack_is =
          reserved_stack h moment len rest stack
          ∙ ap (λ (n : ℕ). record_frame moment len (Some n) ∷ rest)
          (sym (number_is start (opens_of h) xs (is_wished h) s o))
          ∙ ap (λ (x : Purpose). pushed_onto (kind_of x) (reserved (next_number s)) rest) (sym purpose);
      fit =
          fit_more s.size h reserve k.fit
          (λ r wants.
          subst (FitsBehind s.size (tail_of h))
          (same_Some q r (sym (wanted_record h moment len rest stack) ∙ wants))
          (subst (λ (l : List Reservation). FitsBehind s.size l q) (sym (tail_is h)) fits));
      holds =
          same_of start (opens_of h) (opens_of (h ++ reserve ∷ [])) (xs ++ q ∷ [])
          (reserved_records (h ++ reserve ∷ [])) (is_wished h) (is_wished (h ++ reserve ∷ [])) _
          (opens_of-reserve h) (records_reserved h moment len rest stack) (is_wished-reserve h)
          (of_reserved start (opens_of h) xs (is_wished h) s o top below moment len tail' place p top_is purpose early
          low);
    }

-- what a reserve leaves of the stack, by the numbers as they are worked out
pub reserved_with : (start : ℕ) (h : List HistoryEvent) (s : Stack) (top : Frame) (below : List Frame) (moment len : ℕ)
    (noted : Option ℕ) (tail' : Contents) (place : Place) (raised number fill : ℕ)
    → raised ≡ max moment s.last_moment
    → number ≡ next_number s
    → fill ≡ tail_fill s
    → s.frames ≡ top ∷ below
    → top.purpose ≡ ForRecord moment len
    → top.progress ≡ Waiting noted
    → length tail'.bytes ≤ s.size
    → IsPut s.tail tail' s.last_moment raised len place
    → IsStack start h s
    → IsStack start (h ++ reserve ∷ [])
    (record s {
      tail = tail';
      last_moment = raised;
      frames =
          record top { progress = Reserved record { number = number; fill = fill; place = place } }
          ∷ below;
    })
reserved_with start h s top below moment len noted tail' place raised number fill a b d top_is purpose waits low p k =
    rw (a, b, d)
    (reserved_record start h s top below moment len noted tail' place top_is purpose waits low
    (subst (λ (m : ℕ). IsPut s.tail tail' s.last_moment m len place) a p) k)
