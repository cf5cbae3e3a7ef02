-- The two ends of a ring at rest, joined.
use Rattle.std.proofs.Common.{◌≡◌, ◌⊎◌, ℕ, ◌+◌, ◌-◌, ◌<◌, ◌≤◌, ◌==◌, List, [], ◌∷◌, ◌++◌, length, map, get_or, Option}
use Rattle.std.proofs.Common.{Some, refl, sym, ap, ◌∙◌, subst, arith, append-nil, inl, inr, ⊎_elim}
use Rattle.std.proofs.lemmas.Bool.{cases_Bool, cond-true, cond-false, eqb-true}
use Rattle.trace_model.specs.Record.{Record}
use Rattle.trace_model.specs.History.{HistoryEvent, as_record, committed_records}
use Rattle.trace_model.specs.Packing.{tail_of, fills_of}
use Rattle.trace_model.specs.Partition.{Piece, IsPartition}
use Rattle.trace_model.specs.Ring.{Reader, IsTaken, fill_of, AreFillsOf}
use Rattle.ring_model.specs.KeptPartition.{pieces_of}
use Rattle.ring_model.specs.RingKept.{IsRingKept}
use Rattle.ring_model.proofs.partition.RingsKept.{reached_kept, reached_ring}
use Rattle.ring_model.proofs.partition.SettledRest.{tail_is_the_rest}
use Rattle.page_image.specs.Contents.{Contents, records_of_page}
use Rattle.nested_writer.specs.IsStack.{IsStack}
use Rattle.nested_writer.specs.Released.{IsWrittenPage}
use Rattle.ring_steps.specs.declared.rule.Shape.{Shape}
use Rattle.ring_steps.specs.declared.settling.SettledSeats.{SettledSeats}
use Rattle.ring_steps.specs.Made.{writer_made_of}
use Rattle.ring_steps.specs.Views.{Writing, Reading}
use Rattle.ring_steps.specs.Seats.{AreParts}
use Rattle.ring_steps.proofs.Made.{part_here}
use Rattle.ring_shared.specs.Value.{WriterValue, ReaderValue}
use Rattle.ring_shared.specs.Calls.{AreWriterFields}
use Rattle.ring_shared.specs.Takes.{IsReader}
use Rattle.ring_shared.specs.declared.settling.Settled.{Settled}
use Rattle.ring_shared.specs.TailLaws.{TailsAreTheRest}
use Rattle.ring_shared.specs.Settling.{piece_unread, unread_page, WasTaken, IsOneRun, IsSettled}

-- what is left as one piece more, before which nothing is skipped
rest_as_piece : (records : List Record) (pieces : List Piece) (rest : List Record) → IsPartition records pieces rest
    → IsPartition records (pieces ++ record { skipped = 0; records = rest } ∷ []) []
rest_as_piece records [] rest is = ([], [], refl, is ∙ sym (append-nil rest), refl)
rest_as_piece records (p ∷ pieces) rest (lost, behind, skips, cut, more) =
    (lost, behind, skips, cut, rest_as_piece behind pieces rest more)

none_long : (l : List Record) → length l ≡ 0 → l ≡ []
none_long [] e = refl
none_long (r ∷ l) e = absurd (omega arith)

-- the tail's records as the unread page, or none
with_unread : (records : List Record) (pieces : List Piece) (settled : Settled)
    → IsPartition records pieces (records_of_page settled.tail)
    → settled.tail.count ≡ length (records_of_page settled.tail)
    → IsPartition records (pieces ++ piece_unread (unread_page settled)) []
with_unread records pieces settled is counted = elim (cases_Bool (settled.tail.count == 0)) [
  | inl none ↦
      let empty = none_long (records_of_page settled.tail) (sym counted ∙ eqb-true settled.tail.count 0 none) in
      subst (λ (o : Option Contents). IsPartition records (pieces ++ piece_unread o) [])
      (sym (cond-true (settled.tail.count == 0) _ _ none))
      (subst (λ (ps : List Piece). IsPartition records ps []) (sym (append-nil pieces))
      (subst (IsPartition records pieces) empty is))
  | inr some ↦
      subst (λ (o : Option Contents). IsPartition records (pieces ++ piece_unread o) [])
      (sym (cond-false (settled.tail.count == 0) _ _ some))
      (rest_as_piece records pieces (records_of_page settled.tail) is)
]

-- what both ends made is one run
abbrev pub one_run : (shape : Shape) (writing : Writing) (part : Reading) → AreParts shape writing part
    → IsOneRun shape writing part
one_run shape writing part p = record {
  from = p.reached.from;
  exchanges = p.reached.exchanges;
  last = p.core;
  may_start = p.reached.may_start;
  is_new = p.reached.is_new;
  run = p.reached.run;
  made = record { by_writer_are = ap (λ (w : Writing). w.made) p.writing_is; by_reader_are = sym p.reader_made_is };
  in_time = p.in_time;
  writing_is = part_here (writer_made_of p.reached) p.core writing p.writing_is;
  reading_is = p.reading_is;
}

module _ (shape : Shape) (writing : Writing) (part : Reading) (page : Contents) (p : AreParts shape writing part)
    (at_rest : writing.frames ≡ []) (hint : part.reader.hint ≡ writing.done)
    (tail : IsWrittenPage shape.size writing.done (fill_of writing.history shape.start writing.done) page) where
  kept : IsRingKept shape.pages shape.size shape.start p.core
  kept = reached_kept shape.pages shape.size shape.start p.core p.reached

  none_stand : p.core.frames ≡ []
  none_stand = ap (λ (w : Writing). w.frames) p.writing_is ∙ at_rest

  done_is : p.core.done ≡ writing.done
  done_is = ap (λ (w : Writing). w.done) p.writing_is

  history_is : p.core.history ≡ writing.history
  history_is = ap (λ (w : Writing). w.history) p.writing_is

  all_read : p.core.head ≡ p.core.done
  all_read =
      let low = kept.links.hint_le in let high = kept.links.head_le in
      let same = ap (λ (r : Reader). r.hint) p.reading_is.reader_is in
      let done = done_is in omega arith

  tail_records : map as_record (tail_of writing.history) ≡ records_of_page page
  tail_records =
      let begun = (reached_ring shape.pages shape.size shape.start p.core p.reached).begun in
      let alone = kept.stack.at_rest none_stand in
      let from = (reached_ring shape.pages shape.size shape.start p.core p.reached).from_start in
      let head = all_read in
      let done = done_is in
      let count = ap (λ (h : List HistoryEvent). length (fills_of h)) history_is in
      ap (λ (i : ℕ). map as_record (get_or (fills_of writing.history) i []))
      (let e : length (fills_of writing.history) - 1 ≡ writing.done - shape.start = omega arith in e)
      ∙ sym tail.records_are

  pub left : IsPartition (committed_records writing.history) (pieces_of part.reader.taken) (records_of_page page)
  left =
      let whole = tail_is_the_rest shape.pages shape.size shape.start p.core kept none_stand all_read in
      subst (IsPartition (committed_records writing.history) (pieces_of part.reader.taken)) tail_records
      (subst
      (λ (h : List HistoryEvent).
      IsPartition (committed_records h) (pieces_of part.reader.taken) (map as_record (tail_of h))) history_is
      (subst
      (λ (r : Reader).
      IsPartition (committed_records p.core.history) (pieces_of r.taken) (map as_record (tail_of p.core.history)))
      (sym p.reading_is.reader_is) whole))

  pub passed : (f : ℕ) → shape.start ≤ f → f < writing.done → WasTaken part f ⊎ (f + shape.pages < writing.opened)
  passed f low high =
      let ring = reached_ring shape.pages shape.size shape.start p.core p.reached in
      let head = all_read in let done = done_is in
      let opened = ap (λ (w : Writing). w.opened) p.writing_is in
      ⊎_elim (λ (t : IsTaken p.core f).
      inl (subst (λ (r : Reader). WasTaken (record part { reader = r }) f) (sym p.reading_is.reader_is) t))
      (λ (lost : f + shape.pages < p.core.opened). inr (omega arith))
      (ring.lost_at_rest f low (omega arith) none_stand)

  pub fills : AreFillsOf shape.start writing.history part.reader.taken
  fills =
      subst (λ (h : List HistoryEvent). AreFillsOf shape.start h part.reader.taken) history_is
      (subst (λ (r : Reader). AreFillsOf shape.start p.core.history r.taken) (sym p.reading_is.reader_is)
      kept.partition.fills)

pub settles : (shape : Shape) (writing : Writing) (part : Reading) (settled : Settled) → AreParts shape writing part
    → writing.frames ≡ [] → part.reader.hint ≡ writing.done
    → IsWrittenPage shape.size writing.done (fill_of writing.history shape.start writing.done) settled.tail
    → IsSettled shape writing part settled
settles shape writing part settled p at_rest hint tail = record {
  partition =
      with_unread (committed_records writing.history) (pieces_of part.reader.taken) settled
      (left shape writing part settled.tail p at_rest hint tail) tail.page_reads.counted;
  tail = tail;
  passed = passed shape writing part settled.tail p at_rest hint tail;
  fills = fills shape writing part settled.tail p at_rest hint tail;
  parts = p;
  one_run = one_run shape writing part p;
}

-- what is left is the tail of a writer at rest
pub tails_are_the_rest : TailsAreTheRest
tails_are_the_rest shape writing part page p at_rest hint tail =
    left shape writing part page p at_rest hint tail.written

-- ---- by the fields of both ends

-- the writer's part and its frames know alike how many fills are closed
pub done_there : (w : WriterValue) → AreWriterFields w → w.part.done ≡ w.frames.stack.done
done_there w writer = sym (ap (λ (p : Writing). p.done) writer.part_is) ∙ writer.frames_are.done_is

module _ (w : WriterValue) (r : ReaderValue) (tail : Contents) (seats : SettledSeats) (writer : AreWriterFields w)
    (reader : IsReader r) (at_rest : w.part.frames ≡ []) (found : r.empty_at ≡ Some w.part.done) where
  tail_there : ((start : ℕ) (history : List HistoryEvent) → IsStack start history w.frames.stack
      → IsWrittenPage w.frames.stack.size w.frames.stack.done (fill_of history start w.frames.stack.done)
      tail)
      → IsWrittenPage w.shape.size w.part.done (fill_of w.part.history w.shape.start w.part.done) tail
  tail_there written =
      let page = written w.shape.start writer.core.history writer.frames_are.stack_is in
      subst
      (λ (h : List HistoryEvent). IsWrittenPage w.shape.size w.part.done (fill_of h w.shape.start w.part.done) tail)
      (ap (λ (p : Writing). p.history) writer.part_is)
      (subst (λ (done : ℕ). IsWrittenPage w.shape.size done (fill_of writer.core.history w.shape.start done) tail)
      (sym (done_there w writer))
      (subst
      (λ (size : ℕ).
      IsWrittenPage size w.frames.stack.done (fill_of writer.core.history w.shape.start w.frames.stack.done) tail)
      writer.frames_are.size_is page))

  -- what is known of the seats and the frames, of which both ends are shown
  pub ends_settle : (shown_w : WriterValue) (shown_r : ReaderValue) → shown_w ≡ w → shown_r ≡ r
      → AreParts shown_w.shape shown_w.part shown_r.part
      → ((start : ℕ) (history : List HistoryEvent) → IsStack start history shown_w.frames.stack
      → IsWrittenPage shown_w.frames.stack.size shown_w.frames.stack.done
      (fill_of history start shown_w.frames.stack.done) tail)
      → IsSettled w.shape w.part r.part record { tail = tail; seats = seats }
  ends_settle shown_w shown_r w_is r_is parts written =
      settles w.shape w.part r.part record { tail = tail; seats = seats }
      (subst (λ (v : ReaderValue). AreParts w.shape w.part v.part) r_is
      (subst (λ (v : WriterValue). AreParts v.shape v.part shown_r.part) w_is parts))
      at_rest (reader.empty w.part.done found).hint_is
      (tail_there (subst
      (λ (v : WriterValue).
      (start : ℕ) (history : List HistoryEvent) → IsStack start history v.frames.stack
      → IsWrittenPage v.frames.stack.size v.frames.stack.done
      (fill_of history start v.frames.stack.done) tail) w_is written))
