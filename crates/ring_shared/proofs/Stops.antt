-- The two ends of a ring, joined at any moment.
use Rattle.std.proofs.Common.{◌≡◌, ℕ, ◌+◌, List, [], ◌++◌, length, take, drop, map, sym, ap, ◌∙◌, subst}
use Rattle.std.proofs.lemmas.List.{take-append-drop, map-append, drop_all}
use Rattle.trace_model.specs.Record.{Record}
use Rattle.trace_model.specs.History.{HistoryEvent, Reservation, writer_after, reserved_records, settled_prefix}
use Rattle.trace_model.specs.History.{as_record, committed_records}
use Rattle.trace_model.specs.Packing.{first_of_fill}
use Rattle.trace_model.specs.Partition.{IsPartition}
use Rattle.trace_model.specs.Frames.{pushed_frames}
use Rattle.trace_model.specs.Ring.{Reader, Core, AreFillsOf}
use Rattle.trace_model.proofs.histories.NextEvent.{settled_at_rest}
use Rattle.trace_model.proofs.histories.Committed.{committed_prefix, committed_len-settled}
use Rattle.ring_model.specs.KeptPartition.{pieces_of}
use Rattle.ring_model.specs.RingKept.{IsRingKept}
use Rattle.ring_model.proofs.partition.RingsKept.{reached_kept}
use Rattle.ring_model.proofs.partition.UnreadRest.{rest_is_unread}
use Rattle.ring_steps.specs.declared.rule.Shape.{Shape}
use Rattle.ring_steps.specs.Views.{Writing, Reading}
use Rattle.ring_steps.specs.Seats.{AreParts}
use Rattle.ring_shared.specs.Value.{WriterValue, ReaderValue}
use Rattle.ring_shared.specs.Settling.{IsStopped}
use Rattle.ring_shared.proofs.Settles.{one_run}

-- ---- what is reserved and not committed

abbrev pending_in : List HistoryEvent → List Record
pending_in history =
    map as_record (drop (length (reserved_records (settled_prefix history))) (reserved_records history))

reserved_in : (history : List HistoryEvent)
    → map as_record (reserved_records history) ≡ committed_records history ++ pending_in history
reserved_in history =
    let base : ℕ = length (reserved_records (settled_prefix history)) in
    let xs : List Reservation = reserved_records history in
    ap (map as_record) (sym (take-append-drop base xs))
    ∙ map-append as_record (take base xs) (drop base xs)
    ∙ ap (λ (l : List Record). l ++ pending_in history) (committed_prefix history).agrees

-- with no frame all is committed
none_pending : (n size start : ℕ) (c : Core) → IsRingKept n size start c → c.frames ≡ [] → pending_in c.history ≡ []
none_pending n size start c kept none =
    let empty : (writer_after c.history).stack ≡ [] = kept.history.stack ∙ ap pushed_frames none in
    let all = committed_len-settled c.history (settled_at_rest c.history empty) in
    ap (map as_record)
    (drop_all (length (reserved_records (settled_prefix c.history))) (reserved_records c.history) all)

-- ---- of both ends

module _ (shape : Shape) (w : Writing) (r : Reading) (p : AreParts shape w r) where
  kept : IsRingKept shape.pages shape.size shape.start p.core
  kept = reached_kept shape.pages shape.size shape.start p.core p.reached

  -- what holds of the state's history holds of the writer's
  written : (holds : List HistoryEvent → Type 0) → holds p.core.history → holds w.history
  written holds is = subst holds (ap (λ (x : Writing). x.history) p.writing_is) is

  -- and what holds of its reader, of the reader's part
  read : (holds : Reader → Type 0) → holds p.core.reader → holds r.reader
  read holds is = subst holds (sym p.reading_is.reader_is) is

  pub stopped : IsStopped shape w r
  stopped =
      let (overwritten, unread, rest) = rest_is_unread shape.pages shape.size shape.start p.core kept in
      record {
        one_run = one_run shape w r p;
        overwritten = overwritten;
        unread = unread;
        partition =
            written (λ h. IsPartition (committed_records h) (pieces_of r.reader.taken) (overwritten ++ unread))
            (read (λ x. IsPartition (committed_records p.core.history) (pieces_of x.taken) (overwritten ++ unread))
            rest.partition);
        unread_from =
            written
            (λ h. length (committed_records h) ≡ first_of_fill h shape.start p.core.head + length unread)
            rest.behind;
        pending = pending_in w.history;
        reserved_are = reserved_in w.history;
        none_stands =
            λ none.
            written (λ h. pending_in h ≡ [])
            (none_pending shape.pages shape.size shape.start p.core kept
            (ap (λ (x : Writing). x.frames) p.writing_is ∙ none));
        fills =
            written (λ h. AreFillsOf shape.start h r.reader.taken)
            (read (λ x. AreFillsOf shape.start p.core.history x.taken) kept.partition.fills);
      }

-- of the ends by what is shown of them
pub ends_stop : (w shown_w : WriterValue) (r shown_r : ReaderValue) → shown_w ≡ w → shown_r ≡ r
    → AreParts shown_w.shape shown_w.part shown_r.part
    → IsStopped w.shape w.part r.part
ends_stop w shown_w r shown_r w_is r_is parts =
    stopped w.shape w.part r.part
    (subst (λ (v : ReaderValue). AreParts w.shape w.part v.part) r_is
    (subst (λ (v : WriterValue). AreParts v.shape v.part shown_r.part) w_is parts))
