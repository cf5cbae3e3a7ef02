-- The records of a page that was taken have numbers, and the missing numbers before it are below its first one.
use Rattle.std.proofs.Common.{◌≡◌, ℕ, ◌+◌, ◌^◌, ◌<◌, ◌≤◌, List, [], ◌∷◌, ◌++◌, length, map, take, Some, sym, ap, ◌∙◌}
use Rattle.std.proofs.Common.{subst, arith, length-append}
use Rattle.std.proofs.lemmas.List.{length-map, length-take, map-append}
use Rattle.trace_model.specs.declared.limits.TheConstants.{MAX_SIZE, MAX_CPUS}
use Rattle.trace_model.specs.Record.{Record}
use Rattle.trace_model.specs.History.{as_record, reserved_records}
use Rattle.trace_model.specs.Partition.{Piece, IsPartition, first_of}
use Rattle.trace_model.specs.Ring.{TakenFill, Core}
use Rattle.trace_model.specs.Steps as model
use Rattle.trace_model.specs.Steps.{Event, page_taken, Step}
use Rattle.trace_model.proofs.collections.Elements.{some_is, get_behind}
use Rattle.ring_model.specs.RingKept.{IsRingKept}
use Rattle.ring_model.specs.KeptPartition.{piece_of, pieces_of, covered_total, PartitionAt}
use Rattle.ring_model.proofs.frames.AnswersRight.{swapped_right}
use Rattle.ring_model.proofs.partition.PartitionLemmas.{first_new, covered_total-snoc}
use Rattle.ring_model.proofs.contents.RecordCounts.{numbers_fit}
use Rattle.ring_model.proofs.partition.RingsKept.{ring_step}
use Rattle.page_image.specs.Contents.{records_of_page}
use Rattle.ring_frames.specs.declared.answer.Answer.{Answer}
use Rattle.ring_frames.specs.declared.answer.Answer.TheVariants.{Pushed, Going, Reserved, Ended, Gone, Refused, Looking}
use Rattle.ring_frames.specs.declared.answer.Answer.TheVariants.{Empty, Moving, Taken, Wished}
use Rattle.ring_frames.specs.Answers.{IsAnswerOf}
use Rattle.ring_core.specs.Answers.{GivesBack}
use Rattle.script_replay.specs.Takes.{MayKeep}

-- pieces without a rest cover all records
covered : (records : List Record) (pieces : List Piece)
    → IsPartition records pieces []
    → covered_total pieces ≡ length records
covered records [] is = sym (ap (λ (l : List Record). length l) is)
covered records (p ∷ pieces) (lost, behind, skips, cut, rest) =
    let more : covered_total pieces ≡ length behind = covered behind pieces rest in
    let whole : length records ≡ length lost + (length p.records + length behind) =
    ap (λ (l : List Record). length l) cut
    ∙ length-append lost (p.records ++ behind)
    ∙ ap (λ (k : ℕ). length lost + k) (length-append p.records behind) in
    omega arith

module _ (n size start : ℕ) (c : Core) (event : Event) (t : TakenFill) (after : Core) (kept : IsRingKept n size start c)
    (step : Step n size c event (page_taken t) after) where
  abbrev after_kept : IsRingKept n size start after
  after_kept = ring_step n size start c event (page_taken t) after kept step

  abbrev pieces : List Piece
  pieces = pieces_of c.reader.taken

  here : PartitionAt start after.history after.head after.reader.expected (c.reader.taken ++ t ∷ [])
  here =
      subst (PartitionAt start after.history after.head after.reader.expected)
      (swapped_right n size start c event t after kept step).3 after_kept.partition

  pieces_are : pieces_of (c.reader.taken ++ t ∷ []) ≡ pieces ++ piece_of t ∷ []
  pieces_are = map-append piece_of c.reader.taken (t ∷ [])

  index_is : length c.reader.taken + 0 ≡ length pieces
  index_is = let count = length-map c.reader.taken piece_of in omega arith

  first_is : t.held.first ≡ covered_total pieces + t.skipped
  first_is = some_is t.held.first (covered_total pieces + t.skipped)
      (sym (here.firsts (length c.reader.taken + 0) t (get_behind c.reader.taken (t ∷ []) 0))
      ∙ (λ i. first_of (pieces_are i) (index_is i))
      ∙ first_new 0 pieces (piece_of t)
      ∙ ap Some (let e : 0 + covered_total pieces + t.skipped ≡ covered_total pieces + t.skipped = omega arith in e))

  pub missed_fits : t.skipped ≤ t.held.first
  missed_fits = let first = first_is in omega arith

  all_covered : t.held.first + length t.held.records ≡ covered_total (pieces_of (c.reader.taken ++ t ∷ []))
  all_covered = let first = first_is in let count = length-map t.held.records as_record in
      let whole : covered_total (pieces_of (c.reader.taken ++ t ∷ []))
      ≡ covered_total pieces + (t.skipped + length (map as_record t.held.records)) =
      ap covered_total pieces_are ∙ covered_total-snoc pieces (piece_of t) in
      omega arith

  all_reserved : t.held.first + length t.held.records ≤ length (reserved_records after.history)
  all_reserved =
      let records = map as_record (reserved_records after.history) in
      let whole = all_covered in
      let cover = covered (take after.reader.expected records) (pieces_of (c.reader.taken ++ t ∷ [])) here.partition in
      let few = length-take after.reader.expected records in
      let count = length-map (reserved_records after.history) as_record in
      omega arith

  pub last_fits : size ≤ MAX_SIZE → t.held.first + length t.held.records < 2 ^ 64
  last_fits large = let few = all_reserved in let low = numbers_fit n size start after after_kept large in omega arith

-- so what the reader is answered may be kept
pub may_keep : (n size start cpu : ℕ) (c : Core) (event : Event) (body : List ℕ) (result : Answer)
    (reported : model.Answer) (after : Core)
    → IsRingKept n size start c
    → size ≤ MAX_SIZE
    → cpu < MAX_CPUS
    → Step n size c event reported after
    → GivesBack body result
    → IsAnswerOf size result reported
    → MayKeep cpu result
may_keep n size start cpu c event body Pushed reported after kept large known step gives reports = absurd gives
may_keep n size start cpu c event body Going reported after kept large known step gives reports = absurd gives
may_keep n size start cpu c event body (Reserved number) reported after kept large known step gives reports =
    absurd gives
may_keep n size start cpu c event body (Ended ended) reported after kept large known step gives reports = absurd gives
may_keep n size start cpu c event body Gone reported after kept large known step gives reports = absurd gives
may_keep n size start cpu c event body (Refused fault) reported after kept large known step gives reports = absurd gives
may_keep n size start cpu c event body (Looking back) reported after kept large known step gives reports = tt
may_keep n size start cpu c event body (Empty done back) reported after kept large known step gives reports = tt
may_keep n size start cpu c event body (Moving fill back) reported after kept large known step gives reports = tt
may_keep n size start cpu c event body (Taken page missed) reported after kept large known step gives (t, is, whole) =
    let taken : Step n size c event (page_taken t) after =
    subst (λ (a : model.Answer). Step n size c event a after) is step in
    let first = whole.written.first_is in
    let missed_is = whole.missed_is in
    let count : length (records_of_page page) ≡ length t.held.records =
    ap (λ (l : List Record). length l) whole.written.records_are ∙ length-map t.held.records as_record in
    let low = last_fits n size start c event t after kept taken large in
    let few = missed_fits n size start c event t after kept taken in
    (whole.written.page_reads, known, omega arith, omega arith)
may_keep n size start cpu c event body (Wished fill) reported after kept large known step gives reports = absurd gives
