-- What is left of the committed records after those that the reader took or the ring lost.
use Rattle.std.proofs.Common.{◌≡◌, ℕ, ◌+◌, ◌-◌, ◌≤◌, List, [], ◌++◌, length, take, drop, map, sym, ap, ◌∙◌, subst}
use Rattle.std.proofs.Common.{arith, length-take-le}
use Rattle.std.proofs.lemmas.List.{take-append-drop, map-append, drop-drop, length-map, length-drop, take_all}
use Rattle.trace_model.specs.Record.{Record}
use Rattle.trace_model.specs.History.{Reservation, writer_after, reserved_records, settled_prefix, as_record}
use Rattle.trace_model.specs.History.{committed_records}
use Rattle.trace_model.specs.Packing.{opens_of, first_of_fill}
use Rattle.trace_model.specs.Partition.{IsPartition}
use Rattle.trace_model.specs.Ring.{Core}
use Rattle.trace_model.specs.Frames.{pushed_frames}
use Rattle.trace_model.proofs.histories.NextEvent.{settled_at_rest}
use Rattle.trace_model.proofs.histories.Committed.{committed_prefix, committed_len-settled}
use Rattle.trace_model.proofs.packing.FillsJoined.{joined_behind}
use Rattle.ring_model.specs.KeptPartition.{pieces_of}
use Rattle.ring_model.specs.RingKept.{IsRingKept}
use Rattle.ring_model.specs.HistoryLaws.{records_from, IsRest, RestIsUnread}
use Rattle.ring_model.proofs.partition.PartitionSteps.{head_settled}
use Rattle.ring_model.proofs.partition.RingsKept.{taken_partition_at}

module _ (n size start : ℕ) (c : Core) (r : IsRingKept n size start c) where
  abbrev xs : List Reservation
  xs = reserved_records c.history

  abbrev base : ℕ
  base = length (reserved_records (settled_prefix c.history))

  abbrev gone : ℕ
  gone = first_of_fill c.history start c.head

  gone_le : gone ≤ base
  gone_le = head_settled n start c r.links r.contents r.closed r.partition

  abbrev lost : List Record
  lost = map as_record (take (gone - c.reader.expected) (drop c.reader.expected (take base xs)))

  abbrev rest : List Record
  rest = map as_record (drop gone (take base xs))

  joined : lost ++ rest ≡ map as_record (drop c.reader.expected (take base xs))
  joined =
      let e = c.reader.expected in
      let le = r.partition.expected_le in
      let ys : List Reservation = drop e (take base xs) in
      let same : drop gone (take base xs) ≡ drop (gone - e) ys =
      ap (λ (m : ℕ). drop m (take base xs)) (let s : gone ≡ e + (gone - e) = omega arith in s)
      ∙ sym (drop-drop (gone - e) e (take base xs)) in
      sym (map-append as_record (take (gone - e) ys) (drop gone (take base xs)))
      ∙ ap (λ (l : List Reservation). map as_record (take (gone - e) ys ++ l)) same
      ∙ ap (map as_record) (take-append-drop (gone - e) ys)

  counted : length (committed_records c.history) ≡ gone + length rest
  counted =
      let k = committed_prefix c.history in
      let within = k.within in
      let whole = ap (length {A = Record}) k.agrees in
      let all = length-map (take base xs) as_record in
      let front = length-take-le base xs within in
      let left = length-map (drop gone (take base xs)) as_record in
      let behind = length-drop gone (take base xs) in
      let le = gone_le in
      omega (arith, whole, all, front, left, behind, le)

  -- with no frame standing all is committed
  all_committed : c.frames ≡ [] → take base xs ≡ xs
  all_committed none =
      let empty : (writer_after c.history).stack ≡ [] = r.history.stack ∙ ap pushed_frames none in
      take_all base xs (committed_len-settled c.history (settled_at_rest c.history empty))

  unread : c.frames ≡ [] → rest ≡ map as_record (records_from c.history (c.head - start))
  unread none =
      let begun = r.contents.begun in let le = r.links.head_le in let lt = r.links.done_lt in
      ap (λ (l : List Reservation). map as_record (drop gone l)) (all_committed none)
      ∙ ap (map as_record)
      (sym (joined_behind 0 (opens_of c.history) xs (c.head - start) (omega arith) r.contents.rising))

  rest_of : (lost' rest' : List Record) × IsRest start c lost' rest'
  rest_of = (
    lost,
    rest,
    record {
      partition =
          subst (IsPartition (committed_records c.history) (pieces_of c.reader.taken)) (sym joined)
          (taken_partition_at n size start c r);
      behind = counted;
      at_rest = unread;
    },
  )

pub rest_is_unread : RestIsUnread
rest_is_unread n size start c r = rest_of n size start c r
