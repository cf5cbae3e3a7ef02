-- What every step keeps is a ring; a new ring has it; and so it holds after every run.
use Rattle.std.proofs.Common.{◌≡◌, ℕ, zero, suc, ◌+◌, ◌-◌, ◌<◌, ◌≤◌, ◌⊎◌, List, [], ◌∷◌, ◌++◌, length, get_or, take}
use Rattle.std.proofs.Common.{drop, map, Some, refl, sym, ap, ◌∙◌, subst, inl, inr, arith}
use Rattle.std.specs.List.{slice_get}
use Rattle.std.proofs.lemmas.List.{take-append-drop, map-append}
use Rattle.trace_model.specs.Record.{Record}
use Rattle.trace_model.specs.History.{HistoryEvent, Reservation, reserved_records, settled_prefix, as_record}
use Rattle.trace_model.specs.History.{committed_records}
use Rattle.trace_model.specs.Packing.{opens_of, fills_of, first_of_fill}
use Rattle.trace_model.specs.Links.{Link}
use Rattle.trace_model.specs.Frames.{Frame, owned_update}
use Rattle.trace_model.specs.Ring.{PageRecords, ReaderPhase, loading_head, loading_done, storing_spare_link, swapping}
use Rattle.trace_model.specs.Ring.{Reader, Core, IsStart, AreApart, IsRing, IsBehindHead, reported, moved, IsAtHead}
use Rattle.trace_model.specs.Ring.{marked, owed, Moves, IsMoved, IsSwapReady, IsTaken, page_at}
use Rattle.trace_model.specs.Steps.{Event, Answer, Step, Exchange, Run}
use Rattle.trace_model.specs.Sublist.{IsPrefix}
use Rattle.ring_model.specs.KeptLinks.{HasMover, MoversDiffer, PhaseKept, FramesKept, LinkKept, is_normal, is_header}
use Rattle.ring_model.specs.KeptLinks.{is_update, ReaderKept}
use Rattle.ring_model.specs.KeptHistory.{Passing, WhyPassed}
use Rattle.ring_model.specs.KeptContents.{PagesKept}
use Rattle.ring_model.specs.RingKept.{IsRingKept}
use Rattle.ring_model.specs.Reached.{MayStart, IsReached}
use Rattle.ring_model.proofs.links.FramePhases.{none_some, normal_ne_update}
use Rattle.ring_model.proofs.links.LinkFills.{owned_by}
use Rattle.trace_model.proofs.packing.FillCuts.{length-cut_from}
use Rattle.trace_model.proofs.histories.Committed.{committed_prefix}
use Rattle.ring_model.proofs.links.LinkSteps.{step_kept}
use Rattle.ring_model.proofs.frames.StackSteps.{stack_start, stack_step}
use Rattle.ring_model.proofs.steps.ProgressSteps.{progress_start, progress_step}
use Rattle.ring_model.proofs.contents.OpenPageSteps.{open_pages_step}
use Rattle.ring_model.proofs.contents.OtherPageSteps.{other_pages_step, other_pages_start}
use Rattle.ring_model.proofs.contents.PackedSteps.{packed_start, packs_step}
use Rattle.ring_model.proofs.histories.HistorySteps.{step_owed}
use Rattle.ring_model.proofs.contents.ContentSteps.{contents_step}
use Rattle.ring_model.proofs.contents.ClosedSteps.{closed_step}
use Rattle.ring_model.proofs.partition.PartitionSteps.{partition_step, settled}
use Rattle.ring_model.proofs.partition.PartitionLemmas.{partition_rest, take_map}
use Rattle.ring_model.specs.KeptPartition.{PartitionAt, pieces_of}
use Rattle.trace_model.specs.Partition.{IsPartition}
use Rattle.trace_model.proofs.steps.StepSound.{cases_of}
use Rattle.ring_model.proofs.contents.PageChanges.{page_below}
use Rattle.ring_model.proofs.partition.NewRing.{start_kept, start_history, start_open_pages}

-- ---- frames by their index on the stack

some_frame : (a b : Frame) → Some a ≡ Some b → a ≡ b
some_frame a b e = cc

pub moves_stands : (frames : List Frame) (k f : ℕ) → Moves frames k f → HasMover frames f
moves_stands [] k f (frame, at, is) = absurd (none_some at)
moves_stands (x ∷ frames) zero f (frame, at, is) =
    inl (ap (λ (y : Frame). owned_update y.phase) (some_frame x frame at) ∙ is)
moves_stands (x ∷ frames) (suc k) f (frame, at, is) = inr (moves_stands frames k f (frame, at, is))

pub stands_moved : (frames : List Frame) (f : ℕ) → MoversDiffer frames → HasMover frames f → IsMoved frames f
stands_moved [] f differ st = absurd st
stands_moved (x ∷ frames) f differ (inl is) = record { by = 0; moves = (x, refl, is); alone = only }
  where
    only : (k : ℕ) → Moves (x ∷ frames) k f → k ≡ 0
    only zero m = refl
    only (suc k) m = absurd (differ.0 f is (moves_stands frames k f m))
stands_moved (x ∷ frames) f differ (inr st) = further (stands_moved frames f differ.1 st)
  where
    further : IsMoved frames f → IsMoved (x ∷ frames) f
    further m = record { by = suc m.by; moves = m.moves; alone = λ k at. only m k at }
      where
        only : IsMoved frames f → (k : ℕ) → Moves (x ∷ frames) k f → k ≡ suc m.by
        only m' zero (frame, at, is) =
            absurd (differ.0 f (ap (λ (y : Frame). owned_update y.phase) (some_frame x frame at) ∙ is) st)
        only m' (suc k) at = ap suc (m.alone k at)

frame_at : (n : ℕ) (links : List Link) (order : List ℕ) (head done opened : ℕ) (frames : List Frame) (k : ℕ)
    (frame : Frame) → FramesKept n links order head done opened frames → slice_get frames k ≡ Some frame
    → PhaseKept n links order head done opened frame.phase
frame_at n links order head done opened [] k frame kept at = absurd (none_some at)
frame_at n links order head done opened (x ∷ frames) zero frame kept at =
    subst (λ (y : Frame). PhaseKept n links order head done opened y.phase) (some_frame x frame at) kept.0
frame_at n links order head done opened (x ∷ frames) (suc k) frame kept at =
    frame_at n links order head done opened frames k frame kept.1 at

-- ---- the ring

shorter : (a b : ℕ) (xs : List Reservation) → a ≤ b → take a xs ≡ take a (take b xs)
shorter zero b xs le = refl
shorter (suc a) zero xs le = absurd (omega arith)
shorter (suc a) (suc b) [] le = refl
shorter (suc a) (suc b) (x ∷ xs) le = ap (λ (l : List Reservation). x ∷ l) (shorter a b xs (omega arith))

module _ (n size start : ℕ) (c : Core) (r : IsRingKept n size start c) where
  behind_head : (f : ℕ) → c.head < f → f < c.head + n → IsBehindHead n c f
  behind_head f low high = by_link (r.links.each f (omega arith) high)
    where
      by_link : LinkKept n c.links c.order c.head c.frames f → IsBehindHead n c f
      by_link (is_normal e waits) =
          reported e
          (λ k m. let (lost, sum, below, open_yet, at) = owned_by n c r.links f (moves_stands c.frames k f m) in
          normal_ne_update (page_at n c.order f) f (page_at n c.order f) lost (sym e ∙ at))
      by_link (is_header e here) = absurd (omega arith)
      by_link (is_update lost sum e st) = moved lost sum e (stands_moved c.frames f r.links.movers st)

  at_head : IsAtHead n c
  at_head = by_link (r.links.each c.head (omega arith) (let two = r.links.some_pages in omega arith))
    where
      by_link : LinkKept n c.links c.order c.head c.frames c.head → IsAtHead n c
      by_link (is_normal e waits) = let (lost, is, st) = waits refl in
          owed lost is e (stands_moved c.frames (lost + n) r.links.movers st)
      by_link (is_header e here) = marked e
      by_link (is_update lost sum e st) = let (u, u_sum, below, open_yet, at) = owned_by n c r.links c.head st in
          let unread = r.links.head_le in
          absurd (omega arith)

  front_committed : IsPrefix (map as_record (take (first_of_fill c.history start c.done) (reserved_records c.history)))
      (committed_records c.history)
  front_committed =
      let first : ℕ = first_of_fill c.history start c.done in
      let base : ℕ = length (reserved_records (settled_prefix c.history)) in
      let xs : List Reservation = reserved_records c.history in
      let k = committed_prefix c.history in (
        map as_record (drop first (take base xs)),
        sym (ap (λ (l : List Reservation). map as_record l ++ map as_record (drop first (take base xs)))
            (shorter first base xs r.closed)
            ∙ sym (map-append as_record (take first (take base xs)) (drop first (take base xs)))
            ∙ ap (map as_record) (take-append-drop first (take base xs))
            ∙ k.agrees),
      )

  why_lost : (f : ℕ) → WhyPassed n c.reader.taken c.opened c.frames f → IsTaken c f ⊎ (f + n ≤ c.opened)
  why_lost f (inl t) = inl t
  why_lost f (inr (inl more)) = inr (omega arith)
  why_lost f (inr (inr (sum, p))) = inr (omega arith)

  why_lost_at_rest : (f : ℕ) → c.frames ≡ [] → WhyPassed n c.reader.taken c.opened c.frames f
      → IsTaken c f ⊎ (f + n < c.opened)
  why_lost_at_rest f none (inl t) = inl t
  why_lost_at_rest f none (inr (inl more)) = inr more
  why_lost_at_rest f none (inr (inr (sum, p))) = absurd (subst (λ (fs : List Frame). Passing fs c.opened) none p)

  ready : (phase : ReaderPhase) → ReaderKept n c.links c.order c.spare_link c.head c.done c.reader.hint phase
      → IsSwapReady n c phase
  ready loading_head k = tt
  ready (loading_done page fill) k = tt
  ready (storing_spare_link page fill) k = tt
  ready (swapping page fill) k = k.2

  pub is_ring : IsRing n start c
  is_ring = record {
    positions = r.links.positions;
    bodies = r.contents.bodies;
    apart = r.links.apart;
    head_le = r.links.head_le;
    done_lt = r.links.done_lt;
    opened_le = r.links.opened_le;
    from_start = r.contents.from_start;
    begun = let count = r.contents.begun in
        let e = length-cut_from 0 (opens_of c.history) (reserved_records c.history) in
        let sum : c.opened ≡ start + length (fills_of c.history) = omega arith in
        sum;
    wish_le = let wish = r.links.wish_le in let seen = r.links.seen_le in let behind = r.links.done_lt in omega arith;
    behind_head = behind_head;
    at_head = at_head;
    contents = r.contents.each;
    closed = front_committed;
    lost = λ f low high. why_lost f (r.history.lost f low high);
    lost_at_rest = λ f low high none. why_lost_at_rest f none (r.history.lost f low high);
    hint_le = r.links.hint_le;
    noted =
        λ k o frame at is. let (a, b, x, y) =
        (frame_at n c.links c.order c.head c.done c.opened c.frames k frame r.links.frames at).noted o is in
        (a, b);
    ready = ready c.reader.phase r.links.reader;
  }

-- The fills that the reader took, and the records lost between, are a partition of the committed records up to
-- the number that the reader expects; after that comes the rest.
pub taken_partition_at : (n size start : ℕ) (c : Core) → IsRingKept n size start c
    → IsPartition (committed_records c.history) (pieces_of c.reader.taken)
    (map as_record
    (drop c.reader.expected
    (take (length (reserved_records (settled_prefix c.history))) (reserved_records c.history))))
taken_partition_at n size start c r =
    let e : ℕ = c.reader.expected in
    let base : ℕ = length (reserved_records (settled_prefix c.history)) in
    let xs : List Reservation = reserved_records c.history in
    let rest : List Record = map as_record (drop e (take base xs)) in
    let k = committed_prefix c.history in
    let whole : take e (map as_record xs) ++ rest ≡ committed_records c.history =
    ap (λ (l : List Record). l ++ rest)
    (take_map as_record e xs
    ∙ ap (map as_record) (shorter e base xs (settled n start c r.links r.contents r.closed r.partition)))
    ∙ sym (map-append as_record (take e (take base xs)) (drop e (take base xs)))
    ∙ ap (map as_record) (take-append-drop e (take base xs))
    ∙ k.agrees in
    subst (λ (l : List Record). IsPartition l (pieces_of c.reader.taken) rest) whole
    (partition_rest (take e (map as_record xs)) (pieces_of c.reader.taken) rest r.partition.partition)

pub taken_partition : (n size start : ℕ) (c : Core) → IsRingKept n size start c
    → (rest : List Record) × IsPartition (committed_records c.history) (pieces_of c.reader.taken) rest
taken_partition n size start c r = (
  map as_record
      (drop c.reader.expected
      (take (length (reserved_records (settled_prefix c.history))) (reserved_records c.history))),
  taken_partition_at n size start c r,
)

-- ---- steps and runs

pub ring_step : (n size start : ℕ) (c : Core) (event : Event) (answer : Answer) (after : Core)
    → IsRingKept n size start c → Step n size c event answer after → IsRingKept n size start after
ring_step n size start c event answer after r step = record {
  links = step_kept n size c event answer after r.links r.stack (cases_of step);
  stack = stack_step n size c event answer after r.stack (cases_of step);
  progress = progress_step n size c event answer after r.links r.progress (cases_of step);
  history = (step_owed n size start c event answer after r.links r.stack r.history (cases_of step)).kept;
  contents =
      contents_step n size start c event answer after r.links r.stack r.history r.contents r.open_pages (cases_of step);
  open_pages = open_pages_step n size c event answer after r.links r.open_pages (cases_of step);
  other_pages =
      other_pages_step n size start c event answer after r.links r.stack r.history r.contents r.open_pages r.other_pages
      (cases_of step);
  packed = packs_step n size start c event answer after r.links r.stack r.history r.contents r.packed (cases_of step);
  closed = closed_step n size start c event answer after r.links r.stack r.history r.contents r.closed (cases_of step);
  partition =
      partition_step n size start c event answer after r.links r.history r.contents r.closed r.partition
      (cases_of step);
}

-- a run with one more step after it
pub run_snoc : (n size : ℕ) (c s after : Core) (front : List Exchange) (x : Exchange) → Run n size c front s
    → Step n size s x.event x.answer after → Run n size c (front ++ x ∷ []) after
run_snoc n size c s after [] x run step =
    (after, subst (λ (y : Core). Step n size y x.event x.answer after) (sym run) step, refl)
run_snoc n size c s after (y ∷ front) x (between, first, run) step =
    (between, first, run_snoc n size between s after front x run step)

pub ring_run : (n size start : ℕ) (c after : Core) (exchanges : List Exchange) → IsRingKept n size start c
    → Run n size c exchanges after → IsRingKept n size start after
ring_run n size start c after [] r run = subst (IsRingKept n size start) run r
ring_run n size start c after (x ∷ exchanges) r (between, step, run) =
    ring_run n size start between after exchanges (ring_step n size start c x.event x.answer between r step) run

-- ---- the start

nothing_done : (n start : ℕ) (c : Core) → 1 ≤ n → AreApart n c.order c.spare → IsStart n start c
    → PagesKept n start c.order c.held [] [] c.head c.opened
nothing_done n start c some a s = let head = s.head in let opened = s.opened in record {
  begun = omega arith;
  from_start = omega arith;
  bodies = s.bodies;
  rising = omega arith;
  each = λ f low high. s.held (page_at n c.order f) (page_below n c.order c.spare f some a)
      ∙ ap
      (λ (i : ℕ). let h : PageRecords = record { first = get_or (0 ∷ []) i 0; records = get_or ([] ∷ []) i [] } in
      h) (let e : 0 ≡ f - start = omega arith in e);
}

pub ring_start : (n size start : ℕ) (c : Core) → MayStart n start → IsStart n start c → IsRingKept n size start c
ring_start n size start c may s = let some = may.some_pages in
    let fits = may.numbers_left in
    let links = start_kept n start c s some fits in
    let done = s.done in
    record {
      links = links;
      stack = stack_start n start c s;
      progress = progress_start n start c s;
      history = start_history n start c s;
      contents =
          subst
          (λ (h : List HistoryEvent).
          PagesKept n start c.order c.held (opens_of h) (reserved_records h) c.head c.opened) (sym s.history)
          (nothing_done n start c (omega arith) links.apart s);
      open_pages = start_open_pages n start c s some;
      other_pages = other_pages_start n start c s;
      packed = packed_start n size start c s;
      closed =
          subst (λ (h : List HistoryEvent). first_of_fill h start c.done ≤ length (reserved_records (settled_prefix h)))
          (sym s.history)
          (subst (λ (i : ℕ). get_or (0 ∷ []) i 0 ≤ 0) (let e : 0 ≡ c.done - start = omega arith in e)
          (let z : 0 ≤ 0 = omega arith in z));
      partition =
          subst (λ (x : Reader). PartitionAt start c.history c.head x.expected x.taken) (sym s.reader)
          record {
            expected_le = omega arith;
            partition = refl;
            total = refl;
            firsts = λ k t at. absurd (none_some at);
            fills =
                record {
                  each = λ k t at. absurd (none_some at);
                  rising = λ j k a b less at_j at_k. absurd (none_some at_j);
                };
            below = λ k t at. absurd (none_some at);
          };
    }

-- what every step keeps holds of every state that steps reach
pub reached_kept : (n size start : ℕ) (c : Core) → IsReached n size start c → IsRingKept n size start c
reached_kept n size start c r =
    ring_run n size start r.from c r.exchanges (ring_start n size start r.from r.may_start r.is_new) r.run

pub reached_ring : (n size start : ℕ) (c : Core) → IsReached n size start c → IsRing n start c
reached_ring n size start c r = is_ring n size start c (reached_kept n size start c r)

-- one step further
pub reached_further : (n size start : ℕ) (c : Core) (event : Event) (answer : Answer) (after : Core)
    → IsReached n size start c → Step n size c event answer after → IsReached n size start after
reached_further n size start c event answer after r step =
    let x : Exchange = record { event = event; answer = answer } in
    record {
      from = r.from;
      exchanges = r.exchanges ++ x ∷ [];
      may_start = r.may_start;
      is_new = r.is_new;
      run = run_snoc n size r.from c after r.exchanges x r.run step;
    }
