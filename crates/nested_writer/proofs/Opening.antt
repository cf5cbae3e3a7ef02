-- A page that is added: the tail of the next fill.
use Rattle.std.proofs.Common.{◌≡◌, ℕ, zero, suc, ◌+◌, ◌-◌, ◌<◌, ◌≤◌, ◌⊎◌, Bool, false, List, [], ◌∷◌, ◌++◌, length}
use Rattle.std.proofs.Common.{get_or, Some, refl, sym, ap, ◌∙◌, subst, inl, inr, ⊎_elim, arith}
use Rattle.std.specs.List.{slice_get}
use Rattle.std.proofs.lemmas.Option.{none-some, slice_get_within}
use Rattle.std.proofs.lemmas.List.{length_push}
use Rattle.trace_model.specs.History.{HistoryEvent, open_fill, Reservation, PushedFrame, writer_after, reserved_records}
use Rattle.trace_model.specs.History.{MayOpen}
use Rattle.trace_model.specs.Packing.{opens_of, cut_from, is_wished}
use Rattle.trace_model.specs.Fitting.{NeedsFill, FitsPage}
use Rattle.trace_model.specs.Frames.{Purpose, for_record, for_close, left, pushed_onto, pushed_of}
use Rattle.trace_model.specs.OpenPages.{HoldsRecords}
use Rattle.trace_model.specs.Reading.{records_in}
use Rattle.trace_model.proofs.collections.Elements.{some_is, get_in_front, get_behind}
use Rattle.trace_model.proofs.histories.Allowed.{IsHistory-push}
use Rattle.trace_model.proofs.words.Appended.{EndsInRecord-nil}
use Rattle.trace_model.proofs.histories.NextEvent.{opened_stack}
use Rattle.trace_model.proofs.histories.NextRecords.{records_snoc}
use Rattle.trace_model.proofs.packing.FillCuts.{IsRising-snoc, opened_before, opened_last, opens_of-open_fill}
use Rattle.trace_model.proofs.packing.PackedHistories.{room_opened, fit_more, fit_open, is_wished-open_fill}
use Rattle.trace_model.proofs.packing.OpenPages.{holds_none}
use Rattle.page_image.specs.Contents.{Contents, IsPage}
use Rattle.nested_writer.specs.declared.frame.Slot.{Slot}
use Rattle.nested_writer.specs.declared.frame.Progress.{Progress}
use Rattle.nested_writer.specs.declared.frame.Progress.TheVariants.{Waiting, Through, Reserved, Left}
use Rattle.nested_writer.specs.declared.frame.Frame.{Frame}
use Rattle.nested_writer.specs.Stack.{Stack, tail_fill, opened, next_number, blank_page, kind_of, state_of}
use Rattle.nested_writer.specs.Stack.{model_frames}
use Rattle.nested_writer.specs.Calls.{with_tail, HasNoted, MayAddPage}
use Rattle.nested_writer.specs.IsStack.{IsPageOf, is_tail, is_older, IsUnwritten, StandsAt, MayBePushed, FramesStand}
use Rattle.nested_writer.specs.IsStack.{IsStackOf, IsStack}
use Rattle.nested_writer.proofs.Pushing.{same_of}
use Rattle.nested_writer.proofs.NewStack.{nothing}
use Rattle.nested_writer.proofs.Standing.{unwritten_in, more, frames_on, all_before}
use Rattle.nested_writer.proofs.Reserving.{cuts_are, number_is}

-- the first number of a fill that was begun before
stays_at : (x : ℕ) (cuts : List ℕ) (last i : ℕ) → i ≤ length cuts
    → get_or (x ∷ cuts ++ last ∷ []) i 0 ≡ get_or (x ∷ cuts) i 0
stays_at x cuts last zero low = refl
stays_at x [] last (suc i) low = absurd (omega arith)
stays_at x (cut ∷ cuts) last (suc i) low = stays_at cut cuts last i (omega arith)

first_last : (x : ℕ) (cuts : List ℕ) (last : ℕ) → get_or (x ∷ cuts ++ last ∷ []) (suc (length cuts)) 0 ≡ last
first_last x [] last = refl
first_last x (cut ∷ cuts) last = first_last cut cuts last

-- a page of one of these fills stays so
page_stays : (size fill : ℕ) (cuts : List ℕ) (records : List Reservation) (index : ℕ) (page : Contents)
    → index ≤ length cuts → IsPageOf size fill cuts records index page
    → IsPageOf size fill (cuts ++ length records ∷ []) records index page
page_stays size fill cuts records index page low q = record {
  page_reads = q.page_reads;
  size_is = q.size_is;
  fill_is = q.fill_is;
  first_is = q.first_is ∙ sym (stays_at 0 cuts (length records) index low);
  holds = subst (HoldsRecords page.time page.bytes) (sym (opened_before 0 cuts records index low)) q.holds;
}

-- an element of a list with one more after it
get_in_longer : (xs : List Contents) (y : Contents) (k : ℕ) (x : Contents) → slice_get (xs ++ y ∷ []) k ≡ Some x
    → (slice_get xs k ≡ Some x) ⊎ ((k ≡ length xs) × (y ≡ x))
get_in_longer [] y zero x at = inr (refl, some_is y x at)
get_in_longer [] y (suc k) x at = absurd (none-some x at)
get_in_longer (z ∷ xs) y zero x at = inl at
get_in_longer (z ∷ xs) y (suc k) x at = ⊎_elim inl (λ (e, is). inr (ap suc e, is)) (get_in_longer xs y k x at)

module _ (start : ℕ) (cuts : List ℕ) (records : List Reservation) (found : Bool) (s : Stack)
    (k : IsStackOf start cuts records found s) (page : Contents)
    (blank : page ≡ blank_page s.size (next_number s) (opened s)) (reads : IsPage page) where
  lies_on : (n : ℕ) (l : Slot) → l.number < length records → IsUnwritten s.done s.older s.tail records n l
      → IsUnwritten s.done (s.older ++ s.tail ∷ []) page records n l
  lies_on n l low lies = unwritten_in lies.page lies
      (elim lies.open_page [
        | is_tail at is ↦ is_older (length s.older) at
            (ap (slice_get (s.older ++ s.tail ∷ [])) (plus_none (length s.older)) ∙ get_behind s.older (s.tail ∷ []) 0
            ∙ ap Some (sym is))
        | is_older j at is ↦ is_older j at (get_in_front s.older (s.tail ∷ []) j lies.page is)
      ])
      lies.first_le lies.place lies.at
    where
      plus_none : (m : ℕ) → m ≡ m + 0
      plus_none m = omega arith

  pub of_opened : IsStackOf start (cuts ++ length records ∷ []) records false (with_tail s page)
  of_opened =
      let cuts_len = cuts_are start cuts records found s k in
      let number = number_is start cuts records found s k in
      let one = length_push s.older s.tail in
      let longer = length_push cuts (length records) in
      let none : HoldsRecords 0 [] [] =
      let r : IsPage (blank_page s.size (next_number s) (opened s)) =
      subst IsPage blank reads in
      holds_none r.reads (nothing (records_in 0 []) r.counted) EndsInRecord-nil in
      record {
        begun = let begun = k.begun in omega arith;
        from_start = k.from_start;
        rising = IsRising-snoc 0 cuts (length records) k.rising;
        room = room_opened s.size cuts records k.room;
        last_is = k.last_is;
        in_time = k.in_time;
        large = k.large;
        older_are = λ j older at. ⊎_elim
            (λ there. let inside = slice_get_within s.older j older there in
            page_stays s.size (s.done + j) cuts records (s.done - start + j) older (omega arith)
            (k.older_are j older there))
            (λ (e, is).
            subst (IsPageOf s.size (s.done + j) (cuts ++ length records ∷ []) records (s.done - start + j)) is
            (subst (λ (i : ℕ). IsPageOf s.size (s.done + j) (cuts ++ length records ∷ []) records i s.tail)
            (let same : length cuts ≡ s.done - start + j = omega arith in same)
            (subst (λ (f : ℕ). IsPageOf s.size f (cuts ++ length records ∷ []) records (length cuts) s.tail)
            (let same : tail_fill s ≡ s.done + j = omega arith in same)
            (page_stays s.size (tail_fill s) cuts records (length cuts) s.tail (omega arith) k.tail_is))))
            (get_in_longer s.older s.tail j older at);
        tail_is = record {
          page_reads = reads;
          size_is = ap (λ (p : Contents). p.size) blank;
          fill_is = let fill = ap (λ (p : Contents). p.fill) blank in omega arith;
          first_is =
              ap (λ (p : Contents). p.first) blank ∙ number ∙ sym (first_last 0 cuts (length records))
              ∙ ap (λ (i : ℕ). get_or (0 ∷ cuts ++ length records ∷ []) i 0)
              (let same : suc (length cuts) ≡ length (cuts ++ length records ∷ []) = omega arith in same);
          holds =
              subst (λ (l : List Reservation). HoldsRecords page.time page.bytes l)
              (sym (opened_last 0 cuts records)
              ∙ ap (λ (i : ℕ). get_or (cut_from 0 (cuts ++ length records ∷ []) records) i [])
              (let same : suc (length cuts) ≡ length (cuts ++ length records ∷ []) = omega arith in same))
              (subst (λ (p : Contents). HoldsRecords p.time p.bytes []) (sym blank) none);
        };
        frames_are =
            frames_on s.size s.done s.older s.tail cuts records found s.done (s.older ++ s.tail ∷ []) page
            (cuts ++ length records ∷ []) records false (length records)
            (more (omega arith)) lies_on s.frames
            (all_before s.size s.done s.older s.tail cuts records found s.frames k.frames_are) k.frames_are;
      }

-- what the frame that noted its need still needs
still_needs : (size done : ℕ) (older : List Contents) (tail : Contents) (cuts : List ℕ) (records : List Reservation)
    (found : Bool) (s : Stack) (kind : Purpose) (progress : Progress) → opened s ≡ done + length older + 1
    → HasNoted s progress → StandsAt size done older tail cuts records found kind progress
    → NeedsFill size cuts records found kind (state_of progress)
still_needs size done older tail cuts records found s kind (Waiting noted) same has st = st.1 (has ∙ ap Some same)
still_needs size done older tail cuts records found s kind (Through noted) same has st = absurd has
still_needs size done older tail cuts records found s kind (Reserved slot) same has st = absurd has
still_needs size done older tail cuts records found s for_close (Left noted) same has st = st.1 (has ∙ ap Some same)
still_needs size done older tail cuts records found s (for_record moment len) (Left noted) same has st =
    st.1 (has ∙ ap Some same)

may_open : (kind : Purpose) (progress : Progress) (s : Stack) (below : List PushedFrame) → HasNoted s progress
    → (state_of progress ≡ left → below ≡ []) → MayOpen (pushed_onto kind (state_of progress) below)
may_open (for_record moment len) (Waiting noted) s below has alone = refl
may_open for_close (Waiting noted) s below has alone = tt
may_open kind (Through noted) s below has alone = absurd has
may_open kind (Reserved slot) s below has alone = absurd has
may_open (for_record moment len) (Left noted) s below has alone = subst MayOpen (sym (alone refl)) tt
may_open for_close (Left noted) s below has alone = subst MayOpen (sym (alone refl)) tt

fits_page : (size : ℕ) (kind : Purpose) → MayBePushed size kind → FitsPage size kind
fits_page size (for_record moment len) may = may.0
fits_page size for_close may = tt

-- a page is added for the frame on top, which noted that it needs one
pub page_added : (start : ℕ) (h : List HistoryEvent) (s : Stack) (top : Frame) (below : List Frame) (page : Contents)
    → s.frames ≡ top ∷ below → HasNoted s top.progress → page ≡ blank_page s.size (next_number s) (opened s)
    → IsPage page
    → IsStack start h s
    → IsStack start (h ++ open_fill ∷ []) (with_tail s page)
page_added start h s top below page top_is has blank reads k =
    let rest : List PushedFrame = pushed_of (model_frames below) in
    let frames =
    subst (FramesStand s.size s.done s.older s.tail (opens_of h) (reserved_records h) (is_wished h)) top_is
    k.holds.frames_are in
    let stack : (writer_after h).stack ≡ pushed_onto (kind_of top.purpose) (state_of top.progress) rest =
    k.stack_is ∙ ap (λ (fs : List Frame). pushed_of (model_frames fs)) top_is in
    let alone : state_of top.progress ≡ left → rest ≡ [] =
    λ gone. ap (λ (fs : List Frame). pushed_of (model_frames fs)) (frames.3 gone) in
    record {
      keeps =
          IsHistory-push h open_fill k.keeps
          (subst MayOpen (sym stack) (may_open (kind_of top.purpose) top.progress s rest has alone));
      stack_is = opened_stack h (pushed_of (model_frames s.frames)) k.stack_is;
      fit =
          fit_more s.size h open_fill k.fit
          (fit_open s.size h (kind_of top.purpose) (state_of top.progress) rest stack alone
          (fits_page s.size (kind_of top.purpose) frames.0)
          (still_needs s.size s.done s.older s.tail (opens_of h) (reserved_records h) (is_wished h) s
          (kind_of top.purpose) top.progress refl has frames.1));
      holds =
          same_of start (opens_of h ++ length (reserved_records h) ∷ []) (opens_of (h ++ open_fill ∷ []))
          (reserved_records h) (reserved_records (h ++ open_fill ∷ [])) false (is_wished (h ++ open_fill ∷ [])) _
          (opens_of-open_fill h) (records_snoc h open_fill) (is_wished-open_fill h)
          (of_opened start (opens_of h) (reserved_records h) (is_wished h) s k.holds page blank reads);
    }

pub page_may_be_added : (start : ℕ) (h : List HistoryEvent) (s : Stack) (page : Contents) → MayAddPage s s.frames
    → page ≡ blank_page s.size (next_number s) (opened s) → IsPage page → IsStack start h s
    → IsStack start (h ++ open_fill ∷ []) (with_tail s page)
page_may_be_added start h s page may blank reads k = by_frames s.frames refl may
  where
    by_frames : (frames : List Frame) → s.frames ≡ frames → MayAddPage s frames
        → IsStack start (h ++ open_fill ∷ []) (with_tail s page)
    by_frames [] e none = absurd none
    by_frames (top ∷ below) e has = page_added start h s top below page e has blank reads k
