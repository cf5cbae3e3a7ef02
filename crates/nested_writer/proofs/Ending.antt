-- A record frame that is ended: its record gets the bytes in its slot.
use Rattle.std.proofs.Common.{◌≡◌, ℕ, zero, suc, ◌+◌, ◌-◌, ◌<◌, ◌≤◌, ltb, Bool, List, [], ◌∷◌, ◌++◌, length, get_or}
use Rattle.std.proofs.Common.{take, drop, map, Option, Some, None, IfSome, refl, sym, ap, ◌∙◌, subst, arith}
use Rattle.std.proofs.Common.{length-append, length-drop, length-take-le}
use Rattle.std.specs.List.{slice_get}
use Rattle.std.proofs.lemmas.Bool.{cond-true, cond-false, le-ltb, lt-ltb}
use Rattle.std.proofs.lemmas.Option.{slice_get_within}
use mathlib.Core.Logic.{dite}
use native.Mathlib.Decide.{ℕ_discrete, dec_le}
use Rattle.trace_model.specs.Record.{Record}
use Rattle.trace_model.specs.Words.{slot_len, padded}
use Rattle.trace_model.specs.Reading.{records_in}
use Rattle.trace_model.specs.Overwriting.{IsPlaceOf, bytes_at}
use Rattle.trace_model.specs.History.{HistoryEvent, leave, Reservation, PushedFrame, record_frame, last_moment}
use Rattle.trace_model.specs.History.{records_with_payload, writer_after, reserved_records, MayLeave}
use Rattle.trace_model.specs.Packing.{opens_of, cut_from, is_wished}
use Rattle.trace_model.specs.Fitting.{IsRising}
use Rattle.trace_model.specs.Frames.{Purpose, reserved, number_of, pushed_onto, pushed_of}
use Rattle.trace_model.specs.Ring.{PageRecords}
use Rattle.trace_model.specs.OpenPages.{HoldsRecords}
use Rattle.trace_model.proofs.collections.Elements.{some_is}
use Rattle.trace_model.proofs.words.Lengths.{padded_whole, slot_len-slot_len}
use Rattle.trace_model.proofs.histories.Allowed.{IsHistory-push}
use Rattle.trace_model.proofs.histories.NextEvent.{left_stack}
use Rattle.trace_model.proofs.histories.NextRecords.{records_left, length-records_with_payload}
use Rattle.trace_model.proofs.packing.FillFirsts.{first_below, first_rises_to, fill_behind}
use Rattle.trace_model.proofs.packing.FillCuts.{finished_fill, opens_of-leave}
use Rattle.trace_model.proofs.words.Overwritten.{place-within}
use Rattle.trace_model.proofs.words.Places.{Decodes-overwritten}
use Rattle.trace_model.proofs.packing.PackedHistories.{plain, plain-finished, room_alike, needs_alike, fit_more}
use Rattle.trace_model.proofs.packing.PackedHistories.{is_wished-leave}
use Rattle.trace_model.proofs.packing.OpenPages.{AreOf-length, bytes_of_place, holds_finished}
use Rattle.page_image.specs.Contents.{Contents}
use Rattle.nested_writer.specs.declared.frame.Slot.{Slot}
use Rattle.nested_writer.specs.declared.frame.Progress.{Progress}
use Rattle.nested_writer.specs.declared.frame.Progress.TheVariants.{Reserved}
use Rattle.nested_writer.specs.declared.frame.Frame.{Frame}
use Rattle.nested_writer.specs.Stack.{Stack, tail_fill, kind_of, state_of, model_frames}
use Rattle.nested_writer.specs.Calls.{after_leave}
use Rattle.nested_writer.specs.IsStack.{IsPageOf, IsOpenPage, is_tail, is_older, IsUnwritten, StandsAt, AreBefore}
use Rattle.nested_writer.specs.IsStack.{FramesStand, IsStackOf, IsStack}
use Rattle.nested_writer.proofs.Pushing.{same_of}
use Rattle.nested_writer.proofs.Standing.{unwritten_in, as_many, frames_on}
use Rattle.nested_writer.proofs.Reserving.{cuts_are}
use Rattle.nested_writer.proofs.Leaving.{frames_left, pushed_after_leave}

-- ---- fills lie apart

-- after a fill the next one begins
fill_ends : (cuts : List ℕ) (xs : List Reservation) (i : ℕ) → i < length cuts → IsRising 0 cuts (length xs)
    → get_or (0 ∷ cuts) i 0 + length (get_or (cut_from 0 cuts xs) i []) ≡ get_or (0 ∷ cuts) (suc i) 0
fill_ends cuts xs i low rising =
    let here = first_below 0 cuts (length xs) i (omega arith) rising in
    let next = first_below 0 cuts (length xs) (suc i) (omega arith) rising in
    let whole = ap length (fill_behind 0 cuts xs i low rising) in
    omega (
      arith,
      whole,
      length-append (take (get_or (0 ∷ cuts) i 0) xs) (get_or (cut_from 0 cuts xs) i []),
      length-take-le (get_or (0 ∷ cuts) i 0) xs here,
      length-take-le (get_or (0 ∷ cuts) (suc i) 0) xs next,
    )

-- a number is in one fill only
apart_below : (cuts : List ℕ) (xs : List Reservation) (i j number : ℕ) → IsRising 0 cuts (length xs) → i < j
    → j ≤ length cuts → number < get_or (0 ∷ cuts) i 0 + length (get_or (cut_from 0 cuts xs) i [])
    → get_or (0 ∷ cuts) j 0 ≤ number → ⊥
apart_below cuts xs i j number rising low inside before behind =
    let ends = fill_ends cuts xs i (omega arith) rising in
    let rises = first_rises_to cuts (length xs) (suc i) (j - suc i) (omega arith) rising in
    let same = ap (λ (m : ℕ). get_or (0 ∷ cuts) m 0) (let e : suc i + (j - suc i) ≡ j = omega arith in e) in
    omega arith

pub apart : (cuts : List ℕ) (xs : List Reservation) (i j number : ℕ) → IsRising 0 cuts (length xs) → i ≤ length cuts
    → j ≤ length cuts
    → get_or (0 ∷ cuts) i 0 ≤ number → number < get_or (0 ∷ cuts) i 0 + length (get_or (cut_from 0 cuts xs) i [])
    → get_or (0 ∷ cuts) j 0 ≤ number → number < get_or (0 ∷ cuts) j 0 + length (get_or (cut_from 0 cuts xs) j [])
    → i ≡ j
apart cuts xs i j number rising inside inside' low high low' high' =
    dite (ℕ_discrete i j) (λ e. e) (λ ne. dite (dec_le (suc i) j)
    (λ before. absurd (apart_below cuts xs i j number rising before inside' high low'))
    (λ behind. absurd (apart_below cuts xs j i number rising (omega arith) inside high' low)))

-- ---- the records with the bytes of one

get_unfinished : (k j : ℕ) (payload : List ℕ) (xs : List Reservation) → j < k
    → slice_get (records_with_payload (Some k) (Some payload) xs) j ≡ slice_get xs j
get_unfinished k j payload [] low = refl
get_unfinished zero j payload (x ∷ xs) low = absurd (omega arith)
get_unfinished (suc k) zero payload (x ∷ xs) low = refl
get_unfinished (suc k) (suc j) payload (x ∷ xs) low = get_unfinished k j payload xs (omega arith)

last_finished : (number : Option ℕ) (payload : Option (List ℕ)) (xs : List Reservation)
    → last_moment (records_with_payload number payload xs) ≡ last_moment xs
last_finished None payload xs = refl
last_finished (Some k) None xs = refl
last_finished (Some k) (Some p) [] = refl
last_finished (Some zero) (Some p) (x ∷ []) = refl
last_finished (Some zero) (Some p) (x ∷ y ∷ xs) = refl
last_finished (Some (suc k)) (Some p) (x ∷ []) = refl
last_finished (Some (suc zero)) (Some p) (x ∷ y ∷ xs) = last_finished (Some zero) (Some p) (y ∷ xs)
last_finished (Some (suc (suc k))) (Some p) (x ∷ y ∷ xs) = last_finished (Some (suc k)) (Some p) (y ∷ xs)

-- a place is that of a record of the data
pub place_inside : (time : ℕ) (bytes : List ℕ) (k start len : ℕ) (fill : List Reservation)
    → HoldsRecords time bytes fill → IsPlaceOf bytes k start len → k < length fill
place_inside time bytes k start len fill h place =
    let within = place-within bytes start len place.place in
    let long : length (bytes_at start len bytes) ≡ len =
    length-take-le len (drop start bytes) (omega (arith, length-drop start bytes)) in
    let d =
    Decodes-overwritten bytes time (records_in time bytes) k start len (bytes_at start len bytes) place long
    h.reads in
    let count = ap length d.2.was in
    omega (
      arith,
      length-append d.2.front (record { moment = d.2.moment; bytes = bytes_at start len bytes } ∷ d.2.behind),
      d.2.at,
      AreOf-length (records_in time bytes) fill h.each,
    )

-- ---- a page

-- the page of a fill, if the record of this number gets the bytes in its slot, on the page of that fill
page_finished : (size fill : ℕ) (cuts : List ℕ) (xs : List Reservation) (index : ℕ) (page : Contents) (number : ℕ)
    (payload : List ℕ) (home : ℕ) (lies : Contents) (start len : ℕ) → IsRising 0 cuts (length xs)
    → index ≤ length cuts → home ≤ length cuts
    → (index ≡ home → page ≡ lies)
    → lies.first ≡ get_or (0 ∷ cuts) home 0
    → lies.first ≤ number
    → number - lies.first < length (get_or (cut_from 0 cuts xs) home [])
    → IsPlaceOf lies.bytes (number - lies.first) start len
    → padded payload ≡ bytes_at start len lies.bytes
    → IsPageOf size fill cuts xs index page
    → IsPageOf size fill cuts (records_with_payload (Some number) (Some payload) xs) index page
page_finished size fill cuts xs index page number payload home lies start len rising inside inside' same first low high
    place are q =
    record {
      page_reads = q.page_reads;
      size_is = q.size_is;
      fill_is = q.fill_is;
      first_is = q.first_is;
      holds =
          subst (HoldsRecords page.time page.bytes)
          (ap (λ (h : PageRecords). h.records) (finished_fill (Some number) (Some payload) cuts xs index inside))
          (dite (dec_le (get_or (0 ∷ cuts) index 0) number)
          (λ at.
          subst (HoldsRecords page.time page.bytes)
          (sym
          (cond-false (ltb number (get_or (0 ∷ cuts) index 0)) _ _ (le-ltb number (get_or (0 ∷ cuts) index 0) at)))
          (holds_finished page.time page.bytes (get_or (cut_from 0 cuts xs) index [])
          (number - get_or (0 ∷ cuts) index 0)
          payload q.holds (bytes_are at)))
          (λ before.
          subst (HoldsRecords page.time page.bytes)
          (sym (cond-true (ltb number (get_or (0 ∷ cuts) index 0)) _ _
          (lt-ltb number (get_or (0 ∷ cuts) index 0) (omega arith)))) q.holds));
    }
  where
    bytes_are : get_or (0 ∷ cuts) index 0 ≤ number → (r : Record)
        → slice_get (records_in page.time page.bytes) (number - get_or (0 ∷ cuts) index 0) ≡ Some r
        → r.bytes ≡ padded payload
    bytes_are at r found =
        let there = slice_get_within (records_in page.time page.bytes) (number - get_or (0 ∷ cuts) index 0) r found in
        let count =
        AreOf-length (records_in page.time page.bytes) (get_or (cut_from 0 cuts xs) index []) q.holds.each in
        let one : index ≡ home =
        apart cuts xs index home number rising inside inside' at (omega arith) (omega arith) (omega arith) in
        let is : page ≡ lies = same one in
        let number_is : number - get_or (0 ∷ cuts) index 0 ≡ number - lies.first =
        ap (λ (m : ℕ). number - m) (ap (λ (i : ℕ). get_or (0 ∷ cuts) i 0) one ∙ sym first) in
        bytes_of_place page.time page.bytes (number - get_or (0 ∷ cuts) index 0) start len r q.holds.reads
        (subst (λ (k : ℕ). IsPlaceOf page.bytes k start len) (sym number_is)
        (subst (λ (p : Contents). IsPlaceOf p.bytes (number - lies.first) start len) (sym is) place)) found
        ∙ ap (λ (p : Contents). bytes_at start len p.bytes) is ∙ sym are

-- ---- the stack

-- an open fill has one page
pub open_page_is : (done : ℕ) (older : List Contents) (tail : Contents) (fill : ℕ) (p q : Contents)
    → IsOpenPage done older tail fill p → IsOpenPage done older tail fill q → p ≡ q
open_page_is done older tail fill p q (is_tail at is) (is_tail at' is') = is ∙ sym is'
open_page_is done older tail fill p q (is_tail at is) (is_older j at' is') =
    let inside =
    slice_get_within older j q is' in
    absurd (omega arith)
open_page_is done older tail fill p q (is_older j at is) (is_tail at' is') =
    let inside =
    slice_get_within older j p is in
    absurd (omega arith)
open_page_is done older tail fill p q (is_older j at is) (is_older j' at' is') = let same : j ≡ j' = omega arith in
    some_is p q (sym is ∙ ap (slice_get older) same ∙ is')

-- the fill of an open page: which one it is, and that no other page is of it
record IsHome (start : ℕ) (cuts : List ℕ) (xs : List Reservation) (s : Stack) (page : Contents) : Type 0 where
  home : ℕ
  inside : home ≤ length cuts
  is_page : (fill : ℕ) × IsPageOf s.size fill cuts xs home page
  tail_alone : length cuts ≡ home → s.tail ≡ page
  older_alone : (j : ℕ) (other : Contents) → slice_get s.older j ≡ Some other → s.done - start + j ≡ home → other ≡ page

module _ (start : ℕ) (cuts : List ℕ) (xs : List Reservation) (found : Bool) (s : Stack)
    (k : IsStackOf start cuts xs found s) where
  home_of : (fill : ℕ) (page : Contents) → IsOpenPage s.done s.older s.tail fill page → IsHome start cuts xs s page
  home_of fill page (is_tail at is) = let count = cuts_are start cuts xs found s k in record {
    home = length cuts;
    inside = omega arith;
    is_page = (tail_fill s, subst (IsPageOf s.size (tail_fill s) cuts xs (length cuts)) (sym is) k.tail_is);
    tail_alone = λ _. sym is;
    older_alone = λ j other there same. let low = slice_get_within s.older j other there in absurd (omega arith);
  }
  home_of fill page (is_older i at is) = let count = cuts_are start cuts xs found s k in
      let here = slice_get_within s.older i page is in
      record {
        home = s.done - start + i;
        inside = omega arith;
        is_page = (s.done + i, k.older_are i page is);
        tail_alone = λ same. absurd (omega arith);
        older_alone = λ j other there same. let e : j ≡ i = omega arith in
            some_is other page (sym there ∙ ap (slice_get s.older) e ∙ is);
      }

module _ (start : ℕ) (cuts : List ℕ) (xs : List Reservation) (found : Bool) (s : Stack)
    (k : IsStackOf start cuts xs found s) (top : Frame) (below : List Frame) (slot : Slot) (len : ℕ)
    (lies : IsUnwritten s.done s.older s.tail xs len slot) where
  abbrev pub payload : List ℕ
  payload = bytes_at slot.place.start slot.place.len lies.page.bytes

  abbrev xs' : List Reservation
  xs' = records_with_payload (Some slot.number) (Some payload) xs

  pub payload_len : length payload ≡ slot_len len
  payload_len = let within = place-within lies.page.bytes slot.place.start slot.place.len lies.place.place in
      length-take-le slot.place.len (drop slot.place.start lies.page.bytes)
      (omega (arith, length-drop slot.place.start lies.page.bytes)) ∙ lies.fills_slot

  whole : padded payload ≡ payload
  whole = padded_whole payload (ap slot_len payload_len ∙ slot_len-slot_len len ∙ sym payload_len)

  same_plain : map plain xs' ≡ map plain xs
  same_plain = plain-finished (Some slot.number) (Some payload) xs

  lies_on : (n : ℕ) (l : Slot) → l.number < slot.number → IsUnwritten s.done s.older s.tail xs n l
      → IsUnwritten s.done s.older s.tail xs' n l
  lies_on n l low other =
      unwritten_in other.page other other.open_page other.first_le other.place
      (get_unfinished slot.number l.number payload xs low ∙ other.at)

  pub of_ended : s.frames ≡ top ∷ below → top.progress ≡ Reserved slot
      → IsStackOf start cuts xs' found (after_leave s top below)
  of_ended top_is has =
      let frames = subst (FramesStand s.size s.done s.older s.tail cuts xs found) top_is k.frames_are in
      let before =
      subst (λ (p : Progress). IfSome (number_of (state_of p)) (λ number. AreBefore number below)) has frames.2 in
      let home = home_of start cuts xs found s k slot.fill lies.page lies.open_page in
      let count = cuts_are start cuts xs found s k in
      let q = home.is_page.1 in
      let high : slot.number - lies.page.first < length (get_or (cut_from 0 cuts xs) home.home []) =
      place_inside lies.page.time lies.page.bytes (slot.number - lies.page.first) slot.place.start slot.place.len
      (get_or (cut_from 0 cuts xs) home.home []) q.holds lies.place in
      record {
        begun = k.begun;
        from_start = k.from_start;
        rising =
            subst (IsRising 0 cuts) (sym (length-records_with_payload (Some slot.number) (Some payload) xs)) k.rising;
        room = room_alike s.size cuts xs xs' same_plain k.room;
        last_is = k.last_is ∙ sym (last_finished (Some slot.number) (Some payload) xs);
        in_time = k.in_time;
        large = k.large;
        older_are = λ j older at. let inside = slice_get_within s.older j older at in
            page_finished s.size (s.done + j) cuts xs (s.done - start + j) older slot.number payload home.home lies.page
            slot.place.start slot.place.len k.rising (omega arith) home.inside (home.older_alone j older at)
            q.first_is lies.first_le high lies.place whole (k.older_are j older at);
        tail_is =
            page_finished s.size (tail_fill s) cuts xs (length cuts) s.tail slot.number payload home.home lies.page
            slot.place.start slot.place.len k.rising (omega arith) home.inside home.tail_alone q.first_is
            lies.first_le high lies.place whole k.tail_is;
        frames_are = frames_left s.size s.done s.older s.tail cuts xs' found top below frames.0
            (frames_on s.size s.done s.older s.tail cuts xs found s.done s.older s.tail cuts xs' found slot.number
            (as_many refl (λ kind state needs. needs_alike s.size cuts xs xs' found kind state same_plain needs))
            lies_on below before frames.4);
      }

-- ---- the history

pub ended : (start : ℕ) (h : List HistoryEvent) (s : Stack) (top : Frame) (below : List Frame) (slot : Slot)
    (page : Contents) → s.frames ≡ top ∷ below → top.progress ≡ Reserved slot
    → IsOpenPage s.done s.older s.tail slot.fill page
    → IsStack start h s
    → IsStack start (h ++ leave (Some (bytes_at slot.place.start slot.place.len page.bytes)) ∷ [])
    (after_leave s top below)
ended start h s top below slot page top_is has there k =
    let xs : List Reservation = reserved_records h in
    let frames =
    subst (FramesStand s.size s.done s.older s.tail (opens_of h) xs (is_wished h)) top_is k.holds.frames_are in
    let (moment, len, kind, lies) =
    subst (StandsAt s.size s.done s.older s.tail (opens_of h) xs (is_wished h) (kind_of top.purpose)) has
    frames.1 in
    let same : lies.page ≡ page = open_page_is s.done s.older s.tail slot.fill lies.page page lies.open_page there in
    let p : List ℕ = bytes_at slot.place.start slot.place.len lies.page.bytes in
    let rest : List PushedFrame = pushed_of (model_frames below) in
    let stack : (writer_after h).stack ≡ record_frame moment len (Some slot.number) ∷ rest =
    k.stack_is ∙ ap (λ (fs : List Frame). pushed_of (model_frames fs)) top_is
    ∙ ap (λ (x : Progress). pushed_onto (kind_of top.purpose) (state_of x) rest) has
    ∙ ap (λ (x : Purpose). pushed_onto x (reserved slot.number) rest) kind in
    let long = payload_len start (opens_of h) xs (is_wished h) s k.holds top below slot len lies in
    let done : IsStack start (h ++ leave (Some p) ∷ []) (after_leave s top below) = record {
      keeps =
          IsHistory-push h (leave (Some p)) k.keeps
          (subst (λ (st : List PushedFrame). MayLeave st (Some p)) (sym stack)
          (ap slot_len long ∙ slot_len-slot_len len));
      stack_is =
          left_stack h (record_frame moment len (Some slot.number)) rest (Some p) stack
          ∙ sym (pushed_after_leave top below);
      fit = fit_more s.size h (leave (Some p)) k.fit tt;
      holds =
          same_of start (opens_of h) (opens_of (h ++ leave (Some p) ∷ []))
          (records_with_payload (Some slot.number) (Some p) xs) (reserved_records (h ++ leave (Some p) ∷ []))
          (is_wished h) (is_wished (h ++ leave (Some p) ∷ [])) _
          (opens_of-leave h (Some p)) (records_left h (record_frame moment len (Some slot.number)) rest (Some p) stack)
          (is_wished-leave h (Some p))
          (of_ended start (opens_of h) xs (is_wished h) s k.holds top below slot len lies top_is has);
    } in
    subst
    (λ (q : Contents).
    IsStack start (h ++ leave (Some (bytes_at slot.place.start slot.place.len q.bytes)) ∷ [])
    (after_leave s top below)) same done
