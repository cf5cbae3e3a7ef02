-- Pages that are passed out while the stack is empty but for a frame that has left, and what they hold.
use Rattle.std.proofs.Common.{◌≡◌, ◌≢◌, ℕ, zero, suc, ◌+◌, ◌-◌, ◌<◌, ◌≤◌, true, List, [], ◌∷◌, length, get_or, take}
use Rattle.std.proofs.Common.{drop, map, replicate, Option, Some, None, IfSome, refl, sym, ap, ◌∙◌, subst, arith}
use Rattle.std.specs.Prelude.{◌↔◌, All, IsSomeAnd, IsTrue, false, unwrap_or}
use Rattle.std.proofs.lemmas.List.{nil_from_length, take_all, take-map, drop-map}
use Rattle.std.proofs.lemmas.List.Elements.{All-nil, All-head, All-tail, All-take, All-drop}
use Rattle.trace_model.specs.Record.{Record}
use Rattle.trace_model.specs.History.{HistoryEvent, Reservation, HasItsBytes, as_record, writer_after, reserved_records}
use Rattle.trace_model.specs.History.{is_settled, settled_prefix, committed_records, IsHistory}
use Rattle.trace_model.specs.Packing.{opens_of, cut_from, tail_of, is_wished, first_of_fill}
use Rattle.trace_model.specs.Fitting.{tail_at}
use Rattle.trace_model.specs.Frames.{Progress, left, pushed_onto, pushed_of}
use Rattle.trace_model.specs.Ring.{fill_of}
use Rattle.trace_model.specs.OpenPages.{IsOf, AreOf, HoldsRecords}
use Rattle.trace_model.proofs.histories.Committed.{whole_front}
use Rattle.trace_model.proofs.histories.CommittedWritten.{committed-IsWritten}
use Rattle.trace_model.proofs.packing.FillCuts.{length-cut_from}
use Rattle.trace_model.proofs.packing.FullFills.{packed_full}
use Rattle.trace_model.proofs.packing.OpenPages.{AreOf-length, fill_len-some}
use Rattle.trace_model.proofs.packing.PackedHistories.{is_packed, tail_is}
use Rattle.page_image.specs.Contents.{Contents, records_of_page}
use Rattle.nested_writer.specs.declared.frame.Frame.{Frame}
use Rattle.nested_writer.specs.Stack.{Stack, tail_fill, kind_of, state_of, model_frames}
use Rattle.nested_writer.specs.declared.stack.WriterStack.TheInside.{Inside}
use Rattle.nested_writer.specs.Inside.{stack_of, frames_from, top_frame}
use Rattle.nested_writer.specs.Calls.{IsAtBottom}
use Rattle.nested_writer.specs.IsStack.{IsPageOf, IsStack}
use Rattle.nested_writer.specs.Released.{IsWrittenPage, AreCommitted}
use Rattle.nested_writer.proofs.Reserving.{tail_some}
use Rattle.nested_writer.proofs.Leaving.{left_is}
use Rattle.nested_writer.proofs.Dropping.{oldest}

-- ---- records if the stack is empty

whole_prefix : (h : List HistoryEvent) → (writer_after h).stack ≡ [] → settled_prefix h ≡ h
whole_prefix h none = let settled : is_settled h ≡ true = rw (is_settled, none) refl in
    whole_front (length h) h (omega arith) settled

-- all of them are committed
pub all_committed : (h : List HistoryEvent) → (writer_after h).stack ≡ []
    → committed_records h ≡ map as_record (reserved_records h)
all_committed h none = ap (λ (front : List HistoryEvent). map as_record (reserved_records front)) (whole_prefix h none)

all_written : (h : List HistoryEvent) → IsHistory h → (writer_after h).stack ≡ [] → All HasItsBytes (reserved_records h)
all_written h keeps none =
    subst (λ (front : List HistoryEvent). All HasItsBytes (reserved_records front)) (whole_prefix h none)
    (committed-IsWritten h keeps)

-- ---- a fill of them

fill_written : (from : ℕ) (cuts : List ℕ) (xs : List Reservation) (i : ℕ) → All HasItsBytes xs
    → All HasItsBytes (get_or (cut_from from cuts xs) i [])
fill_written from [] xs zero all = All-drop HasItsBytes from xs all
fill_written from [] xs (suc i) all = All-nil HasItsBytes
fill_written from (cut ∷ cuts) xs zero all =
    All-take HasItsBytes (cut - from) (drop from xs) (All-drop HasItsBytes from xs all)
fill_written from (cut ∷ cuts) xs (suc i) all = fill_written cut cuts xs i all

take_counted : (n : ℕ) (xs : List Reservation) → take n xs ≡ take (length (take n xs)) xs
take_counted zero xs = refl
take_counted (suc n) [] = refl
take_counted (suc n) (x ∷ xs) = ap (λ (ys : List Reservation). x ∷ ys) (take_counted n xs)

-- it is as many of the records as it has, from its first number on
fill_counted : (from : ℕ) (cuts : List ℕ) (xs : List Reservation) (i : ℕ) → i ≤ length cuts
    → get_or (cut_from from cuts xs) i []
    ≡ take (length (get_or (cut_from from cuts xs) i [])) (drop (get_or (from ∷ cuts) i 0) xs)
fill_counted from [] xs zero low = sym (take_all (length (drop from xs)) (drop from xs) (omega arith))
fill_counted from [] xs (suc i) low = absurd (omega arith)
fill_counted from (cut ∷ cuts) xs zero low = take_counted (cut - from) (drop from xs)
fill_counted from (cut ∷ cuts) xs (suc i) low = fill_counted cut cuts xs i (omega arith)

-- ---- what the data reads as

bytes_read : (bytes : List ℕ) (written : Option (List ℕ)) (len : ℕ) → IfSome written (λ w. bytes ≡ w)
    → IsSomeAnd written (λ w. length w ≡ len) → bytes ≡ unwrap_or written (replicate len 0)
bytes_read bytes None len is some = absurd some
bytes_read bytes (Some w) len is some = is

record_read : (r : Record) (s : Reservation) → IsOf r s → HasItsBytes s → r ≡ as_record s
record_read r s is some =
    λ i. record { moment = is.moment_is i; bytes = bytes_read r.bytes s.bytes s.len is.bytes_are some i }

records_read : (records : List Record) (fill : List Reservation) → AreOf records fill → All HasItsBytes fill
    → records ≡ map as_record fill
records_read [] [] all written = refl
records_read [] (s ∷ fill) all written = absurd all
records_read (r ∷ records) [] all written = absurd all
records_read (r ∷ records) (s ∷ fill) all written =
    λ i.
    record_read r s all.0 (All-head HasItsBytes s fill written) i
    ∷ records_read records fill all.1 (All-tail HasItsBytes s fill written) i

-- ---- a page of an open fill, if the stack is empty

module _ (size start : ℕ) (h : List HistoryEvent) (fill : ℕ) (page : Contents) (keeps : IsHistory h)
    (none : (writer_after h).stack ≡ []) (p : IsPageOf size fill (opens_of h) (reserved_records h) (fill - start) page)
  where
    abbrev its : List Reservation
    its = (fill_of h start fill).records

    its_written : All HasItsBytes its
    its_written = fill_written 0 (opens_of h) (reserved_records h) (fill - start) (all_written h keeps none)

    reads_as : records_of_page page ≡ map as_record its
    reads_as = records_read (records_of_page page) its p.holds.each its_written

    pub page_written : IsWrittenPage size fill (fill_of h start fill) page
    page_written = assumption (p, its_written, reads_as)

    pub page_committed : fill - start ≤ length (opens_of h) → AreCommitted h page
    page_committed low =
        let from : ℕ = first_of_fill h start fill in
        let count : length its ≡ page.count =
        sym (p.page_reads.counted ∙ AreOf-length (records_of_page page) its p.holds.each) in
        reads_as
        ∙ ap (map as_record) (fill_counted 0 (opens_of h) (reserved_records h) (fill - start) low)
        ∙ sym (take-map as_record (length its) (drop from (reserved_records h)))
        ∙ ap (take (length its)) (sym (drop-map as_record from (reserved_records h)))
        ∙ (λ i. take (count i) (drop (sym p.first_is i) (sym (all_committed h none) i)))

-- ---- the bottom frame, which has left

bottom_of : (frames : List Frame) → IsAtBottom frames
    → (bottom : Frame) × (frames ≡ bottom ∷ []) × (state_of bottom.progress ≡ left)
bottom_of [] at = absurd at
bottom_of (f ∷ []) at = (f, refl, left_is f.progress at)
bottom_of (f ∷ next ∷ below) at = absurd at

pub none_stands : (start : ℕ) (h : List HistoryEvent) (s : Stack) → IsAtBottom s.frames → IsStack start h s
    → (writer_after h).stack ≡ []
none_stands start h s at k = let bottom = bottom_of s.frames at in
    k.stack_is ∙ ap (λ (fs : List Frame). pushed_of (model_frames fs)) bottom.1
    ∙ ap (λ (state : Progress). pushed_onto (kind_of bottom.0.purpose) state []) bottom.2

-- ---- the oldest page goes

module _ (start : ℕ) (h : List HistoryEvent) (s : Stack) (page : Contents) (older : List Contents)
    (at : IsAtBottom s.frames) (is : s.older ≡ page ∷ older) (k : IsStack start h s) where
  abbrev cuts : List ℕ
  cuts = opens_of h

  abbrev xs : List Reservation
  xs = reserved_records h

  long : length s.older ≡ suc (length older)
  long = ap length is

  front_page : IsPageOf s.size s.done cuts xs (s.done - start) page
  front_page = oldest start cuts xs (is_wished h) s page older is k.holds

  -- a fill more is begun
  not_last : s.done - start + 1 ≤ length cuts
  not_last = let begun = k.holds.begun in let from = k.holds.from_start in let more = long in omega arith

  pub front_written : IsWrittenPage s.size s.done (fill_of h start s.done) page
  front_written = page_written s.size start h s.done page k.keeps (none_stands start h s at k) front_page

  pub front_committed : AreCommitted h page
  front_committed =
      page_committed s.size start h s.done page k.keeps (none_stands start h s at k) front_page
      (let low = not_last in omega arith)

  pub front_some : 0 < page.count
  front_some =
      let some =
      packed_full h s.size (s.done - start) (is_packed s.size h k.holds.room k.fit)
      (let low = not_last in let all = length-cut_from 0 cuts xs in omega arith) in
      let count = front_page.page_reads.counted in
      let same =
      AreOf-length (records_of_page page) (get_or (cut_from 0 cuts xs) (s.done - start) []) front_page.holds.each in
      let few = some_counted (get_or (cut_from 0 cuts xs) (s.done - start) []) some in omega arith
    where
      some_counted : (l : List Reservation) → l ≢ [] → 0 < length l
      some_counted [] some = absurd (some refl)
      some_counted (x ∷ l) some = omega arith

-- ---- the tail, if the stack is empty

no_top : (top : Option Frame) (below : List Frame) → frames_from top below ≡ [] → top ≡ None
no_top None below e = refl
no_top (Some f) below e = cc

-- it is the only open page
pub only_tail : (w : Inside) (s : Stack) → stack_of w ≡ s → (top_frame w ≡ None → w.older.pages ≡ []) → s.frames ≡ []
    → s.older ≡ []
only_tail w s is rest none =
    ap (λ (x : Stack). x.older) (sym is)
    ∙ rest (no_top (top_frame w) w.below.items (ap (λ (x : Stack). x.frames) is ∙ none))

pub all_left : (start : ℕ) (h : List HistoryEvent) (s : Stack) → s.frames ≡ [] → IsStack start h s
    → (writer_after h).stack ≡ []
all_left start h s none k = k.stack_is ∙ ap (λ (fs : List Frame). pushed_of (model_frames fs)) none

module _ (start : ℕ) (h : List HistoryEvent) (s : Stack) (none : s.frames ≡ []) (alone : s.older ≡ [])
    (k : IsStack start h s) where
  pub last_fill : length (opens_of h) ≡ s.done - start
  last_fill = let few : length s.older ≡ 0 = ap length alone in let begun = k.holds.begun in omega arith

  tail_page : IsPageOf s.size s.done (opens_of h) (reserved_records h) (s.done - start) s.tail
  tail_page = let few : length s.older ≡ 0 = ap length alone in
      subst (λ (n : ℕ). IsPageOf s.size n (opens_of h) (reserved_records h) (s.done - start) s.tail)
      (let fill : tail_fill s ≡ s.done = omega arith in fill)
      (subst (λ (n : ℕ). IsPageOf s.size (tail_fill s) (opens_of h) (reserved_records h) n s.tail) last_fill
      k.holds.tail_is)

  pub tail_written : IsWrittenPage s.size s.done (fill_of h start s.done) s.tail
  tail_written = page_written s.size start h s.done s.tail k.keeps (all_left start h s none k) tail_page

  pub tail_committed : AreCommitted h s.tail
  tail_committed =
      page_committed s.size start h s.done s.tail k.keeps (all_left start h s none k) tail_page
      (let last = last_fill in omega arith)

-- ---- whether the tail holds a record

empty_fill : (page : Contents) (fill : List Reservation) → HoldsRecords page.time page.bytes fill → page.bytes ≡ []
    → fill ≡ []
empty_fill page [] holds none = refl
empty_fill page (r ∷ fill) holds none =
    absurd (let long = holds.len_is in let few = ap length none in let some = fill_len-some r fill in omega arith)

pub tail_empty : (start : ℕ) (h : List HistoryEvent) (s : Stack) → IsStack start h s → s.tail.bytes ≡ []
    → tail_of h ≡ []
tail_empty start h s k none =
    tail_is h ∙ empty_fill s.tail (tail_at (opens_of h) (reserved_records h)) k.holds.tail_is.holds none

pub tail_holds : (start : ℕ) (h : List HistoryEvent) (s : Stack) → IsStack start h s → s.tail.bytes ≢ []
    → tail_of h ≢ []
tail_holds start h s k some none =
    tail_some start (opens_of h) (reserved_records h) (is_wished h) s k.holds some (sym (tail_is h) ∙ none)

-- so an empty one isn't closed
pub none_to_close : (start : ℕ) (h : List HistoryEvent) (s : Stack) → IsStack start h s → length s.tail.bytes ≡ 0
    → IsTrue false ↔ tail_of h ≢ []
none_to_close start h s k none = (
  (λ truth. absurd (let no = truth in cc)),
  (λ some. absurd (some (tail_empty start h s k (nil_from_length s.tail.bytes none)))),
)
