-- A frame that is pushed.
use Rattle.std.proofs.Common.{◌≡◌, ℕ, ◌+◌, ◌-◌, ◌<◌, ◌≤◌, true, false, List, [], ◌∷◌, ◌++◌, None, sym, ap, ◌∙◌, subst}
use Rattle.std.proofs.Common.{arith}
use Rattle.std.specs.Prelude.{Bool, if◌then◌else◌, nat_le}
use Rattle.std.proofs.lemmas.Option.{none-some}
use Rattle.trace_model.specs.declared.limits.TheConstants.{MIN_SIZE, MOMENT_LIMIT}
use Rattle.trace_model.specs.Words.{slot_len, encoded_len}
use Rattle.trace_model.specs.History.{HistoryEvent, push, push_close, Reservation, WriterState, PushedFrame}
use Rattle.trace_model.specs.History.{record_frame, close_frame, reserved_records}
use Rattle.trace_model.specs.Packing.{opens_of, is_wished}
use Rattle.trace_model.proofs.histories.Allowed.{IsHistory-push}
use Rattle.trace_model.proofs.histories.NextEvent.{writer_snoc}
use Rattle.trace_model.proofs.histories.NextRecords.{records_snoc}
use Rattle.trace_model.proofs.packing.FillCuts.{opens_of-push, opens_of-push_close}
use Rattle.trace_model.proofs.packing.PackedHistories.{fit_more, is_wished-push, is_wished-push_close}
use Rattle.nested_writer.specs.declared.frame.Purpose.{Purpose}
use Rattle.nested_writer.specs.declared.frame.Purpose.TheVariants.{Record, Close}
use Rattle.nested_writer.specs.declared.frame.Progress.TheVariants.{Waiting}
use Rattle.nested_writer.specs.declared.frame.Frame.{Frame}
use Rattle.nested_writer.specs.Stack.{Stack, kind_of}
use Rattle.nested_writer.specs.Calls.{with_frame}
use Rattle.nested_writer.specs.IsStack.{MayBePushed, FramesStand, IsStackOf, IsStack}

-- by equations of the cuts, the records and the wish
pub same_of : (start : ℕ) (cuts cuts' : List ℕ) (records records' : List Reservation) (found found' : Bool) (s : Stack)
    → cuts' ≡ cuts → records' ≡ records → found' ≡ found → IsStackOf start cuts records found s
    → IsStackOf start cuts' records' found' s
same_of start cuts cuts' records records' found found' s a b c k =
    subst (λ (l : List ℕ). IsStackOf start l records' found' s) (sym a)
    (subst (λ (l : List Reservation). IsStackOf start cuts l found' s) (sym b)
    (subst (λ (f : Bool). IsStackOf start cuts records f s) (sym c) k))

-- with other frames, and what is noted of a wish
pub of_frames : {start : ℕ} {cuts : List ℕ} {records : List Reservation} {found : Bool} {s : Stack} (found' : Bool)
    (frames : List Frame) → FramesStand s.size s.done s.older s.tail cuts records found' frames
    → IsStackOf start cuts records found s → IsStackOf start cuts records found' (record s { frames = frames })
of_frames found' frames are k = assumption (are, k)

of_pushed : (start : ℕ) (cuts : List ℕ) (records : List Reservation) (found : Bool) (s : Stack) (purpose : Purpose)
    → MayBePushed s.size (kind_of purpose) → IsStackOf start cuts records found s
    → IsStackOf start cuts records found (with_frame s record { purpose = purpose; progress = Waiting None })
of_pushed start cuts records found s purpose may k =
    of_frames found (record { purpose = purpose; progress = Waiting None } ∷ s.frames)
    (may, (tt, (λ e. absurd (none-some _ e))), tt, (λ e. cc), k.frames_are) k

-- a record that is this much shorter than a page has room in an empty one
pub surely_fits : (size len : ℕ) → MIN_SIZE ≤ size → len ≤ size - 12 → encoded_len len 0 true ≤ size
surely_fits size len some low = let slot : slot_len len ≤ len + 4 = omega arith in
    let word = word_len (nat_le (slot_len len) 112) in
    omega arith
  where
    word_len : (short : Bool) → (if short then 4 else 8) ≤ 8
    word_len true = omega arith
    word_len false = omega arith

pub pushed_record : (start : ℕ) (h : List HistoryEvent) (s : Stack) (moment len : ℕ) → encoded_len len 0 true ≤ s.size
    → moment < MOMENT_LIMIT → IsStack start h s
    → IsStack start (h ++ push moment len ∷ [])
    (with_frame s record { purpose = Record moment len; progress = Waiting None })
pushed_record start h s moment len fits early k = record {
  keeps = IsHistory-push h (push moment len) k.keeps tt;
  stack_is =
      ap (λ (w : WriterState). w.stack) (writer_snoc h (push moment len))
      ∙ ap (λ (l : List PushedFrame). record_frame moment len None ∷ l) k.stack_is;
  fit = fit_more s.size h (push moment len) k.fit tt;
  holds =
      same_of start (opens_of h) (opens_of (h ++ push moment len ∷ [])) (reserved_records h)
      (reserved_records (h ++ push moment len ∷ [])) (is_wished h) (is_wished (h ++ push moment len ∷ [])) _
      (opens_of-push h moment len) (records_snoc h (push moment len)) (is_wished-push h moment len)
      (of_pushed start (opens_of h) (reserved_records h) (is_wished h) s (Record moment len) (fits, early) k.holds);
}

pub pushed_close : (start : ℕ) (h : List HistoryEvent) (s : Stack) → IsStack start h s
    → IsStack start (h ++ push_close ∷ []) (with_frame s record { purpose = Close; progress = Waiting None })
pushed_close start h s k = record {
  keeps = IsHistory-push h push_close k.keeps tt;
  stack_is =
      ap (λ (w : WriterState). w.stack) (writer_snoc h push_close)
      ∙ ap (λ (l : List PushedFrame). close_frame ∷ l) k.stack_is;
  fit = fit_more s.size h push_close k.fit tt;
  holds =
      same_of start (opens_of h) (opens_of (h ++ push_close ∷ [])) (reserved_records h)
      (reserved_records (h ++ push_close ∷ [])) (is_wished h) (is_wished (h ++ push_close ∷ [])) _
      (opens_of-push_close h) (records_snoc h push_close) (is_wished-push_close h)
      (of_pushed start (opens_of h) (reserved_records h) (is_wished h) s Close tt k.holds);
}
