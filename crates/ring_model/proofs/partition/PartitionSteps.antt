-- Each step keeps the taken fills and the lost ones a partition of the records.
use Rattle.std.proofs.Common.{◌≡◌, ℕ, ◌+◌, ◌-◌, ◌≤◌, List, [], ◌∷◌, ◌++◌, length, get_or, Some, None, refl, sym, ap}
use Rattle.std.proofs.Common.{◌∙◌, subst, arith, length-append}
use Rattle.trace_model.specs.History.{HistoryEvent, push, push_close, open_fill, reserve, leave, wished, Reservation}
use Rattle.trace_model.specs.History.{reserved_records}
use Rattle.trace_model.specs.Packing.{opens_of, first_of_fill}
use Rattle.trace_model.specs.Fitting.{IsRising}
use Rattle.trace_model.specs.Frames.{Purpose, for_record, for_close, Progress, waiting, reserved, left, Phase, idle}
use Rattle.trace_model.specs.Frames.{looking, claiming, looking_next, marking, clearing, opening, releasing, wishing}
use Rattle.trace_model.specs.Frames.{Frame}
use Rattle.trace_model.specs.Ring.{ReaderPhase, loading_head, loading_done, storing_spare_link, swapping, Core, page_at}
use Rattle.trace_model.specs.Steps.{Event, Answer, with_new_tail, after_begin, taken_fill, contents_of}
use Rattle.trace_model.proofs.steps.StepCases.{StepCases, BeginsAgain, reserves, finds_nothing, is_crowded, is_worn}
use Rattle.trace_model.proofs.steps.StepCases.{notes, load_link_late, sees_free, sees_header, sees_update, claim_late}
use Rattle.trace_model.proofs.steps.StepCases.{claims, claim_fails, load_next_late, sees_normal, sees_other, mark_late}
use Rattle.trace_model.proofs.steps.StepCases.{marks, mark_fails, clears, open_late, opens, releases, releases_last}
use Rattle.trace_model.proofs.steps.StepCases.{grants, closes_more, goes_away, IdleStep, FrameStep, push_step}
use Rattle.trace_model.proofs.steps.StepCases.{push_refused, close_step, close_refused, frame_step, frame_lacks}
use Rattle.trace_model.proofs.steps.StepCases.{end_step, end_lacks, end_early, read_step, store_wish_step, loads_header}
use Rattle.trace_model.proofs.steps.StepCases.{loads_update, loads_owed, loads_passed, finds_none, finds_closed, swaps}
use Rattle.trace_model.proofs.steps.StepCases.{swap_fails, ReadStep}
use Rattle.ring_model.specs.KeptLinks.{PhaseKept, ReaderKept, LinksKept}
use Rattle.ring_model.specs.KeptHistory.{HistoryKept}
use Rattle.ring_model.specs.KeptContents.{ContentsKept, ClosedKept}
use Rattle.ring_model.specs.KeptPartition.{PartitionAt, PartitionKept}
use Rattle.trace_model.proofs.histories.NextRecords.{records_snoc}
use Rattle.trace_model.proofs.histories.Committed.{committed_len, first_more}
use Rattle.trace_model.proofs.packing.FillCuts.{IsRising-snoc, opens_of-open_fill}
use Rattle.trace_model.proofs.packing.FillFirsts.{first_below, first_rises_to}
use Rattle.ring_model.proofs.links.FrameChanges.{top_kept}
use Rattle.ring_model.proofs.links.LinkFills.{header_inside, header_reports, fill_at}
use Rattle.ring_model.proofs.partition.PartitionChanges.{partition_more, partition_lost, partition_taken}

module _ (n start : ℕ) (c : Core) (k : LinksKept n c) (t : ContentsKept n start c) (z : ClosedKept start c)
    (q : PartitionKept start c) where
  counted : c.head - start ≤ length (opens_of c.history)
  counted = let a = t.begun in let b = k.done_lt in let d = k.head_le in omega arith

  -- what is taken or lost is committed
  pub head_settled : first_of_fill c.history start c.head ≤ committed_len c.history
  head_settled = let a = t.begun in let b = k.done_lt in let d = k.head_le in let e = t.from_start in
      let rises =
      first_rises_to (opens_of c.history) (length (reserved_records c.history)) (c.head - start) (c.done - c.head)
      (omega arith) t.rising in
      let same =
      ap (λ (i : ℕ). get_or (0 ∷ opens_of c.history) i 0)
      (let s : (c.head - start) + (c.done - c.head) ≡ c.done - start = omega arith in s) in
      omega arith

  -- and so is what the reader expects
  pub settled : c.reader.expected ≤ committed_len c.history
  settled = let le = q.expected_le in let low = head_settled in omega arith

  partition_acts : (a : HistoryEvent) → PartitionAt start (c.history ++ a ∷ []) c.head c.reader.expected c.reader.taken
  partition_acts a =
      partition_more start c.history a c.head c.reader.expected c.reader.taken counted t.rising head_settled q

  partition_begun : (kind : Purpose) (state : Progress) (frame : Frame) (below : List Frame)
      → PartitionKept start (after_begin kind state c frame below)
  partition_begun (for_record moment len) waiting frame below = q
  partition_begun for_close waiting frame below = partition_acts (leave None)
  partition_begun kind (reserved number) frame below = q
  partition_begun kind left frame below = q

  -- after the fill that is begun, a close frame leaves
  partition_closes : PartitionAt start ((c.history ++ open_fill ∷ []) ++ leave None ∷ []) c.head c.reader.expected
      c.reader.taken
  partition_closes =
      partition_more start (c.history ++ open_fill ∷ []) (leave None) c.head c.reader.expected c.reader.taken
      (let low = counted in
      omega (
        arith,
        ap (length {A = ℕ}) (opens_of-open_fill c.history),
        length-append (opens_of c.history) (length (reserved_records c.history) ∷ []),
      ))
      (subst (λ (l : List ℕ). IsRising 0 l (length (reserved_records (c.history ++ open_fill ∷ []))))
      (sym (opens_of-open_fill c.history))
      (subst
      (λ (l : List Reservation).
      IsRising 0 (opens_of c.history ++ length (reserved_records c.history) ∷ []) (length l))
      (sym (records_snoc c.history open_fill))
      (IsRising-snoc 0 (opens_of c.history) (length (reserved_records c.history)) t.rising)))
      (first_more c.history open_fill (c.head - start) counted head_settled)
      (partition_acts open_fill)

  partition_begins : (kind : Purpose) (state : Progress) (page : ℕ) (frame : Frame) (below : List Frame)
      → PartitionKept start (after_begin kind state (with_new_tail c page) frame below)
  partition_begins (for_record moment len) waiting page frame below = partition_acts open_fill
  partition_begins for_close waiting page frame below = partition_closes
  partition_begins kind (reserved number) page frame below = partition_acts open_fill
  partition_begins kind left page frame below = partition_acts open_fill

  again : (frame : Frame) (below : List Frame) (noted : ℕ) (answer : Answer) (after : Core)
      → BeginsAgain c frame below noted answer after → PartitionKept start after
  again frame below noted answer after step =
      subst (PartitionKept start) (sym step.after_is) (partition_begun frame.kind frame.state frame below)

module _ (n size start : ℕ) (c : Core) (frame : Frame) (below : List Frame) (k : LinksKept n c)
    (h : HistoryKept n start c) (t : ContentsKept n start c) (z : ClosedKept start c) (q : PartitionKept start c)
    (top : c.frames ≡ frame ∷ below) where
  partition_idle : (state : Progress) (answer : Answer) (after : Core)
      → IdleStep n size c frame below state answer after → PartitionKept start after
  partition_idle waiting answer after (reserves moment len r kind r_is fits a is) =
      subst (PartitionKept start) (sym is) (partition_acts n start c k t z q reserve)
  partition_idle waiting answer after (finds_nothing kind none a is) =
      subst (PartitionKept start) (sym is) (partition_acts n start c k t z q (leave None))
  partition_idle waiting answer after (is_crowded needs full a is) =
      subst (PartitionKept start) (sym is) (partition_acts n start c k t z q (leave None))
  partition_idle waiting answer after (is_worn needs full last a is) =
      subst (PartitionKept start) (sym is) (partition_acts n start c k t z q (leave None))
  partition_idle waiting answer after (notes needs room small a is) = subst (PartitionKept start) (sym is) q
  partition_idle (reserved number) answer after step = subst (PartitionKept start) (sym step.1) q
  partition_idle left answer after step = absurd step

  partition_frame : (phase : Phase) (answer : Answer) (after : Core) → frame.phase ≡ phase
      → FrameStep n size c frame below phase answer after → PartitionKept start after
  partition_frame idle answer after same step = partition_idle frame.state answer after step
  partition_frame (looking noted) answer after same (load_link_late step) =
      again n start c k t z q frame below noted answer after step
  partition_frame (looking noted) answer after same (sees_free page now at a is) =
      subst (PartitionKept start) (sym is) q
  partition_frame (looking noted) answer after same (sees_header page lost now sum at a is) =
      subst (PartitionKept start) (sym is) q
  partition_frame (looking noted) answer after same (sees_update page lost now sum at a is) =
      subst (PartitionKept start) (sym is) q
  partition_frame (claiming noted page) answer after same (claim_late step) =
      again n start c k t z q frame below noted answer after step
  partition_frame (claiming noted page) answer after same (claims lost now sum at a is) =
      let (open_yet, begun_yet, room, small) =
      (subst (PhaseKept n c.links c.order c.head c.done c.opened) same (top_kept n c frame below k top)).noted noted
      refl in
      let unread = k.head_le in
      let within = k.opened_le in
      let behind = k.done_lt in
      let count = t.begun in
      let from_start = t.from_start in
      let (here, page_is, head_at) = header_inside n c k noted page lost (omega arith) (omega arith) sum at in
      subst (PartitionKept start) (sym is)
      (partition_lost start c.history c.head c.reader.expected c.reader.taken from_start (omega arith) t.rising q)
  partition_frame (claiming noted page) answer after same (claim_fails now other a is) =
      subst (PartitionKept start) (sym is) q
  partition_frame (looking_next role noted page) answer after same (load_next_late helps step) =
      again n start c k t z q frame below noted answer after step
  partition_frame (looking_next role noted page) answer after same (sees_normal lost next goes_on sum at a is) =
      subst (PartitionKept start) (sym is) q
  partition_frame (looking_next role noted page) answer after same (sees_other lost goes_on sum other a is) =
      subst (PartitionKept start) (sym is) q
  partition_frame (marking role noted page next) answer after same (mark_late helps step) =
      again n start c k t z q frame below noted answer after step
  partition_frame (marking role noted page next) answer after same (marks lost goes_on sum at a is) =
      subst (PartitionKept start) (sym is) q
  partition_frame (marking role noted page next) answer after same (mark_fails lost goes_on sum other a is) =
      subst (PartitionKept start) (sym is) q
  partition_frame (clearing noted page) answer after same (clears lost sum at a is) =
      subst (PartitionKept start) (sym is) q
  partition_frame (opening noted page) answer after same (open_late step) =
      again n start c k t z q frame below noted answer after step
  partition_frame (opening noted page) answer after same (opens now a is) =
      subst (PartitionKept start) (sym is) (partition_begins n start c k t z q frame.kind frame.state page frame below)
  partition_frame releasing answer after same (releases alone more a is) = subst (PartitionKept start) (sym is) q
  partition_frame releasing answer after same (releases_last alone last a is) = subst (PartitionKept start) (sym is) q
  partition_frame wishing answer after same (grants alone granted a is) =
      subst (PartitionKept start) (sym is) (partition_acts n start c k t z q wished)
  partition_frame wishing answer after same (closes_more alone denied more a is) =
      subst (PartitionKept start) (sym is) q
  partition_frame wishing answer after same (goes_away alone denied last a is) = subst (PartitionKept start) (sym is) q

partition_read : (n start : ℕ) (c : Core) (phase : ReaderPhase) (answer : Answer) (after : Core) → LinksKept n c
    → ContentsKept n start c → ReaderKept n c.links c.order c.spare_link c.head c.done c.reader.hint phase
    → PartitionKept start c → ReadStep n c phase answer after → PartitionKept start after
partition_read n start c loading_head answer after k t facts q (loads_header page fill at a is) =
    subst (PartitionKept start) (sym is) q
partition_read n start c loading_head answer after k t facts q (loads_update page lost at a is) =
    subst (PartitionKept start) (sym is) q
partition_read n start c loading_head answer after k t facts q (loads_owed page at a is) =
    subst (PartitionKept start) (sym is) q
partition_read n start c loading_head answer after k t facts q (loads_passed page fill least at more sum a is) =
    subst (PartitionKept start) (sym is) q
partition_read n start c (loading_done page fill) answer after k t facts q (finds_none le a is) =
    subst (PartitionKept start) (sym is) q
partition_read n start c (loading_done page fill) answer after k t facts q (finds_closed below a is) =
    subst (PartitionKept start) (sym is) q
partition_read n start c (storing_spare_link page fill) answer after k t facts q step =
    subst (PartitionKept start) (sym step.after_is) q
partition_read n start c (swapping page fill) answer after k t facts q (swaps at a is) =
    let (g, low_g, high_g, same, link) = fill_at n c k fill in
    let reported = header_reports n c.links c.order c.head c.frames g page fill link (same ∙ at) in
    let here : fill ≡ c.head = reported.0 ∙ reported.1 in let below = facts.1 in
    let behind = k.done_lt in let count = t.begun in let from_start = t.from_start in
    subst (PartitionKept start) (sym is)
    (partition_taken start c.history c.head c.reader.expected c.reader.taken from_start (omega arith) t.rising
    (first_below 0 (opens_of c.history) (length (reserved_records c.history)) (c.head - start) (omega arith) t.rising)
    (taken_fill c page fill) here
    (ap (contents_of c) (reported.2 ∙ ap (page_at n c.order) reported.1) ∙ t.each c.head (omega arith) (omega arith))
    refl q)
partition_read n start c (swapping page fill) answer after k t facts q (swap_fails at a is) =
    subst (PartitionKept start) (sym is) q

pub partition_step : (n size start : ℕ) (c : Core) (event : Event) (answer : Answer) (after : Core) → LinksKept n c
    → HistoryKept n start c → ContentsKept n start c → ClosedKept start c → PartitionKept start c
    → StepCases n size c event answer after → PartitionKept start after
partition_step n size start c event answer after k h t z q (push_step moment len e few fits early a is) =
    subst (PartitionKept start) (sym is) (partition_acts n start c k t z q (push moment len))
partition_step n size start c event answer after k h t z q (push_refused moment len why e refused a is) =
    subst (PartitionKept start) (sym is) q
partition_step n size start c event answer after k h t z q (close_step e few a is) =
    subst (PartitionKept start) (sym is) (partition_acts n start c k t z q push_close)
partition_step n size start c event answer after k h t z q (close_refused e many a is) =
    subst (PartitionKept start) (sym is) q
partition_step n size start c event answer after k h t z q (frame_step frame below e top step) =
    partition_frame n size start c frame below k h t z q top frame.phase answer after refl step
partition_step n size start c event answer after k h t z q (frame_lacks e none a is) =
    subst (PartitionKept start) (sym is) q
partition_step n size start c event answer after k h t z q
    (end_step payload frame below number moment len e top phase kind slot a is) =
    subst (PartitionKept start) (sym is) (partition_acts n start c k t z q (leave (Some payload)))
partition_step n size start c event answer after k h t z q (end_lacks payload e none a is) =
    subst (PartitionKept start) (sym is) q
partition_step n size start c event answer after k h t z q (end_early payload frame below e top none a is) =
    subst (PartitionKept start) (sym is) q
partition_step n size start c event answer after k h t z q (read_step e step) =
    partition_read n start c c.reader.phase answer after k t k.reader q step
partition_step n size start c event answer after k h t z q (store_wish_step e a is) =
    subst (PartitionKept start) (sym is) q
