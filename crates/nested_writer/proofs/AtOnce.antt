-- A record written at once: its frame is pushed, reserves, gets its payload and leaves.
use Rattle.std.proofs.Common.{◌≡◌, ℕ, zero, suc, ◌+◌, ◌<◌, ◌≤◌, max, List, [], ◌∷◌, ◌++◌, length, replicate, Some, None}
use Rattle.std.proofs.Common.{refl, sym, ap, ◌∙◌, subst, arith, rules, inr, append_assoc}
use Rattle.std.specs.Prelude.{true}
use Rattle.std.specs.List.{slice_get}
use Rattle.std.proofs.lemmas.List.{same_lists, places, take_all, length-replicate}
use mathlib.Core.Logic.{dite}
use native.Mathlib.Decide.{dec_le}
use Rattle.trace_model.specs.declared.limits.TheConstants.{MOMENT_LIMIT}
use Rattle.trace_model.specs.Record.{Record}
use Rattle.trace_model.specs.Words.{Decodes, slot_len, padded, encoded_len}
use Rattle.trace_model.specs.Reading.{records_in, EndsInRecord, IsPlaceIn}
use Rattle.trace_model.specs.Overwriting.{overwritten, bytes_at, IsPlaceOf}
use Rattle.trace_model.specs.History.{HistoryEvent, push, reserve, leave, Reservation, PushedFrame, record_frame}
use Rattle.trace_model.specs.History.{records_with_payload, writer_after, reserved_records, MayLeave, IsHistory}
use Rattle.trace_model.specs.Steps.{IsTooLong}
use Rattle.trace_model.specs.Fitting.{AreFit}
use Rattle.trace_model.proofs.histories.Allowed.{IsHistory-push}
use Rattle.trace_model.proofs.histories.NextEvent.{left_stack}
use Rattle.trace_model.proofs.histories.NextRecords.{records_left}
use Rattle.trace_model.proofs.packing.FillCuts.{opens_of-leave}
use Rattle.trace_model.proofs.packing.PackedHistories.{fit_more, is_wished-leave}
use Rattle.trace_model.proofs.collections.Elements.{get_behind}
use Rattle.trace_model.proofs.words.Lengths.{length-padded, padded_whole, slot_len-slot_len}
use Rattle.trace_model.proofs.words.Overwritten.{length-overwritten}
use Rattle.trace_model.proofs.words.Places.{EndsInRecord-overwritten, IsPlaceOf-overwritten, overwritten-reads}
use Rattle.trace_model.proofs.words.Places.{records_in-overwritten_end}
use Rattle.trace_model.proofs.packing.OpenPages.{bytes_of_place}
use Rattle.page_image.specs.Contents.{Contents, IsPage, records_of_page}
use Rattle.page_image.specs.Lending.{with_payload}
use Rattle.record_words.specs.declared.put.Place.{Place}
use Rattle.nested_writer.specs.declared.frame.Purpose.TheVariants.{Record as ForRecord}
use Rattle.nested_writer.specs.declared.frame.Slot.{Slot}
use Rattle.nested_writer.specs.declared.frame.Progress.{Progress}
use Rattle.nested_writer.specs.declared.frame.Progress.TheVariants.{Waiting, Reserved, Left}
use Rattle.nested_writer.specs.declared.frame.Frame.{Frame}
use Rattle.trace_model.specs.Frames.{pushed_onto, pushed_of}
use Rattle.nested_writer.specs.Stack.{Stack, tail_fill, next_number, kind_of, state_of, model_frames}
use Rattle.nested_writer.specs.Calls.{frames_after_leave, after_leave}
use Rattle.nested_writer.specs.AtOnce.{MayStand, with_left}
use Rattle.nested_writer.specs.IsStack.{is_tail, IsStack}
use Rattle.trace_model.specs.Packing.{opens_of, is_wished}
use Rattle.nested_writer.proofs.Pushing.{pushed_record, same_of, of_frames}
use Rattle.nested_writer.proofs.Leaving.{of_left}
use Rattle.nested_writer.proofs.Reserving.{IsPutWith, IsPut, reserved_record}
use Rattle.nested_writer.proofs.Lending.{in_tail}
use Rattle.nested_writer.proofs.Written.{written}
use Rattle.nested_writer.proofs.Ending.{ended}

-- ---- the page

-- What a record put at a page's end leaves, with this payload in its slot.
pub record IsPutLast (tail tail' : Contents) (prev moment len : ℕ) (part : List ℕ) (place : Place) : Type 0 where
  pub put : IsPutWith tail tail' prev moment len part place
  pub lies : IsPlaceIn tail'.bytes place.start place.len
  pub place_end : place.start + place.len ≡ length tail'.bytes

-- bytes up to the end, overwritten and then as they were
written_back : (bytes other : List ℕ) (start len : ℕ) → start + len ≡ length bytes → length other ≡ len
    → overwritten (overwritten bytes start other) start (bytes_at start len bytes) ≡ bytes
written_back bytes other start len end same =
    same_lists _ _ (search (rules, places)) (λ k d h. grind (arith, places))

module _ (tail tail' : Contents) (prev moment len : ℕ) (part : List ℕ) (place : Place) (is : IsPage tail)
    (p : IsPutLast tail tail' prev moment len part place) where
  abbrev zeros : List ℕ
  zeros = replicate (slot_len len) 0

  -- the page as it is before the payload is written
  abbrev pub zeroed : Contents
  zeroed = with_payload tail' place.start zeros

  zeros_fill : length zeros ≡ place.len
  zeros_fill = length-replicate (slot_len len) 0 ∙ sym p.put.len_is

  kept : length (overwritten tail'.bytes place.start zeros) ≡ length tail'.bytes
  kept = length-overwritten tail'.bytes place.start place.len p.lies zeros zeros_fill

  zeroed_bytes : zeroed.bytes ≡ overwritten tail'.bytes place.start zeros
  zeroed_bytes =
      take_all (length tail'.bytes) (overwritten tail'.bytes place.start zeros) (let same = kept in omega arith)

  pub put_zeroed : IsPut tail zeroed prev moment len place
  put_zeroed = record {
    page = λ page. let t = p.put.page page in
        let h =
        overwritten-reads tail'.bytes tail'.time (records_of_page tail') place.start place.len zeros p.lies
        zeros_fill t.reads in
        record {
          reads = subst (λ (b : List ℕ). Decodes b tail'.time (records_in tail'.time b)) (sym zeroed_bytes) h.0;
          counted = t.counted ∙ sym h.1 ∙ ap (λ (b : List ℕ). length (records_in tail'.time b)) (sym zeroed_bytes);
          in_time = t.in_time;
        };
    records = λ page. ap (records_in tail'.time) zeroed_bytes
        ∙ records_in-overwritten_end tail'.bytes tail'.time (records_of_page tail)
        record { moment = moment; bytes = part } place.start place.len zeros p.lies p.place_end zeros_fill
        (subst (Decodes tail'.bytes tail'.time) (p.put.records page) (p.put.page page).reads);
    long = ap length zeroed_bytes ∙ kept ∙ p.put.long;
    time = p.put.time;
    count = p.put.count;
    first = p.put.first;
    fill = p.put.fill;
    size = p.put.size;
    ends =
        subst EndsInRecord (sym zeroed_bytes)
        (EndsInRecord-overwritten tail'.bytes place.start place.len zeros p.lies zeros_fill p.put.ends);
    number =
        λ page.
        subst (λ (b : List ℕ). IsPlaceOf b tail.count place.start place.len) (sym zeroed_bytes)
        (IsPlaceOf-overwritten tail'.bytes tail.count place.start place.len place.start place.len zeros
        (p.put.number page) p.lies zeros_fill);
    places_stay =
        λ number start len' there.
        subst (λ (b : List ℕ). IsPlaceOf b number start len') (sym zeroed_bytes)
        (IsPlaceOf-overwritten tail'.bytes number start len' place.start place.len zeros
        (p.put.places_stay number start len' there) p.lies zeros_fill);
    len_is = p.put.len_is;
  }

  -- the payload is in its place
  pub part_at : bytes_at place.start place.len tail'.bytes ≡ part
  part_at =
      let r : Record = record { moment = moment; bytes = part } in
      let at : tail.count ≡ length (records_of_page tail) + 0 = omega (arith, is.counted) in
      let last : slice_get (records_of_page tail') tail.count ≡ Some r =
      ap (λ (rs : List Record). slice_get rs tail.count) (p.put.records is)
      ∙ ap (slice_get (records_of_page tail ++ r ∷ [])) at ∙ get_behind (records_of_page tail) (r ∷ []) 0 in
      sym (bytes_of_place tail'.time tail'.bytes tail.count place.start place.len r (p.put.page is).reads
      (p.put.number is) last)

  -- and written there it makes the page
  pub written_page : with_payload zeroed place.start part ≡ tail'
  written_page =
      let whole : overwritten zeroed.bytes place.start part ≡ tail'.bytes =
      ap (λ (b : List ℕ). overwritten b place.start part) zeroed_bytes
      ∙ ap (overwritten (overwritten tail'.bytes place.start zeros) place.start) (sym part_at)
      ∙ written_back tail'.bytes zeros place.start place.len p.place_end zeros_fill in
      let size : length zeroed.bytes ≡ length tail'.bytes = ap length zeroed_bytes ∙ kept in
      let bytes : (with_payload zeroed place.start part).bytes ≡ tail'.bytes =
      take_all (length zeroed.bytes) (overwritten zeroed.bytes place.start part) (omega (arith, ap length whole))
      ∙ whole in
      ap (λ (b : List ℕ). let q : Contents = record tail' { bytes = b } in q) bytes

-- ---- the history

pub padded_twice : (payload : List ℕ) → padded (padded payload) ≡ padded payload
padded_twice payload =
    padded_whole (padded payload)
    (ap slot_len (length-padded payload) ∙ slot_len-slot_len (length payload) ∙ sym (length-padded payload))

-- a record gets the same bytes by payloads that only differ in the zeros after them
same_padded : (number : ℕ) (p q : List ℕ) (xs : List Reservation) → padded p ≡ padded q
    → records_with_payload (Some number) (Some p) xs ≡ records_with_payload (Some number) (Some q) xs
same_padded number p q [] same = refl
same_padded zero p q (x ∷ xs) same =
    ap (λ (b : List ℕ). let r : Reservation = record x { bytes = Some b } in r ∷ xs) same
same_padded (suc number) p q (x ∷ xs) same = ap (λ (l : List Reservation). x ∷ l) (same_padded number p q xs same)

keeps_front : (h : List HistoryEvent) (a : HistoryEvent) → IsHistory (h ++ a ∷ []) → IsHistory h
keeps_front h a keeps =
    λ front behind x is.
    keeps front (behind ++ a ∷ []) x
    (ap (λ (g : List HistoryEvent). g ++ a ∷ []) is ∙ append_assoc front (x ∷ behind) (a ∷ []))

fit_front : (size : ℕ) (h : List HistoryEvent) (a : HistoryEvent) → AreFit size (h ++ a ∷ []) → AreFit size h
fit_front size h a fit =
    λ front behind x is.
    fit front (behind ++ a ∷ []) x
    (ap (λ (g : List HistoryEvent). g ++ a ∷ []) is ∙ append_assoc front (x ∷ behind) (a ∷ []))

-- so its frame may leave with either of them
pub left_alike : (start : ℕ) (h : List HistoryEvent) (s : Stack) (moment len number : ℕ) (below : List PushedFrame)
    (p q : List ℕ) → padded p ≡ padded q → (writer_after h).stack ≡ record_frame moment len (Some number) ∷ below
    → slot_len (length p) ≡ slot_len len
    → IsStack start (h ++ leave (Some q) ∷ []) s
    → IsStack start (h ++ leave (Some p) ∷ []) s
left_alike start h s moment len number below p q same stack fills k =
    let f : PushedFrame = record_frame moment len (Some number) in
    let a : HistoryEvent = leave (Some p) in
    let b : HistoryEvent = leave (Some q) in
    record {
      keeps =
          IsHistory-push h a (keeps_front h b k.keeps)
          (subst (λ (st : List PushedFrame). MayLeave st (Some p)) (sym stack) fills);
      stack_is = left_stack h f below (Some p) stack ∙ sym (left_stack h f below (Some q) stack) ∙ k.stack_is;
      fit = fit_more s.size h a (fit_front s.size h b k.fit) tt;
      holds =
          same_of start (opens_of (h ++ b ∷ [])) (opens_of (h ++ a ∷ [])) (reserved_records (h ++ b ∷ []))
          (reserved_records (h ++ a ∷ [])) (is_wished (h ++ b ∷ [])) (is_wished (h ++ a ∷ [])) s
          (opens_of-leave h (Some p) ∙ sym (opens_of-leave h (Some q)))
          (records_left h f below (Some p) stack ∙ same_padded number p q (reserved_records h) same
          ∙ sym (records_left h f below (Some q) stack))
          (is_wished-leave h (Some p) ∙ sym (is_wished-leave h (Some q))) k.holds;
    }

-- ---- frames that have left

-- one that isn't too long fits a page
pub fits_page : (size len : ℕ) → (IsTooLong size len → ⊥) → encoded_len len 0 true ≤ size
fits_page size len fits =
    dite (dec_le (encoded_len len 0 true) size) (λ low. low) (λ past. absurd (fits (inr (omega arith))))

-- a frame that has left may be put on an empty stack
pub stands_again : (start : ℕ) (h : List HistoryEvent) (s : Stack) (moment len : ℕ) → s.frames ≡ []
    → MayStand s moment len → IsStack start h s → IsStack start h (with_left s moment len)
stands_again start h s moment len none may k = record {
  keeps = k.keeps;
  stack_is = k.stack_is ∙ ap (λ (fs : List Frame). pushed_of (model_frames fs)) none;
  fit = k.fit;
  holds =
      of_left start (opens_of h) (reserved_records h) (is_wished h) s
      (record { purpose = ForRecord moment len; progress = Left None }) [] (fits_page s.size len may.0, may.1) tt
      k.holds;
}

-- and goes again
pub goes_again : (start : ℕ) (h : List HistoryEvent) (s : Stack) (f : Frame) → s.frames ≡ f ∷ []
    → f.progress ≡ Left None → IsStack start h s → IsStack start h (record s { frames = [] })
goes_again start h s f top_is gone k = record {
  keeps = k.keeps;
  stack_is =
      k.stack_is ∙ ap (λ (fs : List Frame). pushed_of (model_frames fs)) top_is
      ∙ ap (λ (p : Progress). pushed_onto (kind_of f.purpose) (state_of p) []) gone;
  fit = k.fit;
  holds = of_frames (is_wished h) [] tt k.holds;
}

-- ---- the stack

module _ (start : ℕ) (h : List HistoryEvent) (s : Stack) (moment : ℕ) (payload : List ℕ) (tail' : Contents)
    (place : Place) (fits : encoded_len (length payload) 0 true ≤ s.size) (early : moment < MOMENT_LIMIT)
    (low : length tail'.bytes ≤ s.size)
    (p : IsPutLast s.tail tail' s.last_moment (max moment s.last_moment) (length payload) (padded payload) place)
    (k : IsStack start h s) where
  abbrev raised : ℕ
  raised = max moment s.last_moment

  abbrev waits : Frame
  waits = record { purpose = ForRecord moment (length payload); progress = Waiting None }

  abbrev slot : Slot
  slot = record { number = next_number s; fill = tail_fill s; place = place }

  abbrev holds : Frame
  holds = record { purpose = ForRecord moment (length payload); progress = Reserved slot }

  abbrev page : Contents
  page = zeroed s.tail tail' s.last_moment raised (length payload) (padded payload) place k.holds.tail_is.page_reads p

  -- each state on the way
  abbrev pushed : Stack
  pushed = record s { frames = waits ∷ s.frames }

  abbrev allotted : Stack
  allotted = record s { tail = page; frames = holds ∷ s.frames; last_moment = raised }

  abbrev filled : Stack
  filled = record s { tail = tail'; frames = holds ∷ s.frames; last_moment = raised }

  is_pushed : IsStack start (h ++ push moment (length payload) ∷ []) pushed
  is_pushed = pushed_record start h s moment (length payload) fits early k

  is_allotted : IsStack start ((h ++ push moment (length payload) ∷ []) ++ reserve ∷ []) allotted
  is_allotted =
      let put =
      put_zeroed s.tail tail' s.last_moment raised (length payload) (padded payload) place
      k.holds.tail_is.page_reads p in
      reserved_record start (h ++ push moment (length payload) ∷ []) pushed waits s.frames moment (length payload) None
      page place refl refl refl (let long = put.long in let long' = p.put.long in omega arith) put is_pushed

  is_filled : IsStack start ((h ++ push moment (length payload) ∷ []) ++ reserve ∷ []) filled
  is_filled =
      let whole =
      written_page s.tail tail' s.last_moment raised (length payload) (padded payload) place
      k.holds.tail_is.page_reads p in
      let there : slot.fill ≡ page.fill = sym k.holds.tail_is.fill_is ∙ sym p.put.fill in
      subst (IsStack start ((h ++ push moment (length payload) ∷ []) ++ reserve ∷ []))
      (sym (in_tail allotted slot (padded payload) there)
      ∙ ap
      (λ (q : Contents). let t : Stack =
      record s { tail = q; frames = holds ∷ s.frames; last_moment = raised } in
      t) whole)
      (written start ((h ++ push moment (length payload) ∷ []) ++ reserve ∷ []) allotted slot (padded payload) refl
      (length-padded payload ∙ sym p.put.len_is) is_allotted)

  -- the frame leaves: one with a frame below it is popped, the bottom one stays
  is_left : IsStack start (((h ++ push moment (length payload) ∷ []) ++ reserve ∷ []) ++ leave (Some payload) ∷ [])
      (after_leave filled holds s.frames)
  is_left =
      let before : List HistoryEvent = (h ++ push moment (length payload) ∷ []) ++ reserve ∷ [] in
      let there : bytes_at place.start place.len tail'.bytes ≡ padded payload =
      part_at s.tail tail' s.last_moment raised (length payload) (padded payload) place k.holds.tail_is.page_reads
      p in
      left_alike start before (after_leave filled holds s.frames) moment (length payload) (next_number s)
      (pushed_of (model_frames s.frames)) payload (padded payload) (sym (padded_twice payload)) is_filled.stack_is refl
      (subst (λ (b : List ℕ). IsStack start (before ++ leave (Some b) ∷ []) (after_leave filled holds s.frames)) there
      (ended start before filled holds s.frames slot tail' refl refl (is_tail refl refl) is_filled))

  abbrev events : List HistoryEvent
  events = push moment (length payload) ∷ reserve ∷ leave (Some payload) ∷ []

  abbrev with_frames : List Frame → Stack
  with_frames frames = record s { tail = tail'; frames = frames; last_moment = raised }

  is_written : IsStack start (h ++ events) (with_frames (frames_after_leave holds s.frames))
  is_written =
      subst (λ (g : List HistoryEvent). IsStack start g (with_frames (frames_after_leave holds s.frames)))
      (append_assoc (h ++ push moment (length payload) ∷ []) (reserve ∷ []) (leave (Some payload) ∷ [])
      ∙ append_assoc h (push moment (length payload) ∷ []) (reserve ∷ leave (Some payload) ∷ [])) is_left

  -- a bottom frame may be taken off again
  with_those : (frames : List Frame) → IsStack start (h ++ events) (with_frames (frames_after_leave holds frames))
      → IsStack start (h ++ events) (with_frames frames)
  with_those [] left =
      goes_again start (h ++ events) (with_frames (frames_after_leave holds [])) (record holds { progress = Left None })
      refl refl left
  with_those (next ∷ below) left = left

  -- so the frames are those of before
  pub written_at_once : IsStack start (h ++ push moment (length payload) ∷ reserve ∷ leave (Some payload) ∷ [])
      (record s { tail = tail'; last_moment = max moment s.last_moment })
  written_at_once = with_those s.frames is_written
