-- A take gets its answer if nothing comes between: each of its steps lowers its rank.
use Rattle.std.proofs.Common.{◌≡◌, ℕ, suc, ◌+◌, ◌-◌, ◌*◌, ◌%◌, ◌<◌, ◌≤◌, min, get_or, refl, sym, ap, ◌∙◌, subst, mod-lt}
use Rattle.std.proofs.Common.{arith}
use Rattle.std.proofs.Math.Nat.{min-le_left, min-le_right, le-min}
use mathlib.Core.Logic.{dite}
use native.Mathlib.Decide.{dec_le}
use Rattle.trace_model.specs.Links.{normal_link}
use Rattle.trace_model.specs.Ring.{ReaderPhase, loading_head, loading_done, storing_spare_link, swapping, Core}
use Rattle.trace_model.specs.Steps.{Answer, reading, moving, empty}
use Rattle.trace_model.proofs.steps.EventSteps.{reader_step}
use Rattle.trace_model.proofs.steps.StepCases.{LoadHeadStep, loads_header, loads_update, loads_owed, loads_passed}
use Rattle.trace_model.proofs.steps.StepCases.{LoadDoneStep, finds_none, finds_closed, SwapHeadStep, swaps, swap_fails}
use Rattle.trace_model.proofs.steps.StepCases.{ReadStep}
use Rattle.ring_model.specs.KeptLinks.{ReaderKept, LinksKept}
use Rattle.ring_model.specs.Ranks.{distance, reader_phase_rank, reader_rank, TakesComeToAnAnswer}
use Rattle.ring_model.specs.Ranks.{TakesAreNearTheirAnswer}
use Rattle.ring_model.proofs.links.LinkFills.{header_reports, normal_reports, fill_at}
use Rattle.trace_model.proofs.Positions.{at_position, one_position}

module _ (n size : ℕ) (c : Core) (k : LinksKept n c) where
  old : (phase : ReaderPhase) → c.reader.phase ≡ phase → reader_rank n c ≡ reader_phase_rank n c phase
  old phase same = ap (reader_phase_rank n c) same

  -- a fill at the position of the reader's hint, and above that, is at least a round above it
  round_above : (g : ℕ) → g % n ≡ c.reader.hint % n → c.reader.hint < g → c.reader.hint + n ≤ g
  round_above g at above = dite (dec_le (c.reader.hint + n) g)
      (λ le. le)
      (λ no. let some_pages = k.some_pages in
      let same =
      one_position c.reader.hint n g c.reader.hint (omega arith) (omega arith) (omega arith) (omega arith) at in
      absurd (omega arith))

  load_head_lowers : (answer : Answer) (after : Core) → answer ≡ reading → c.reader.phase ≡ loading_head
      → LoadHeadStep n c answer after → reader_rank n after < reader_rank n c
  load_head_lowers answer after goes same (loads_header page fill at a is) =
      let (g, low, high, link, kept) = fill_at n c k c.reader.hint in
      let (it, here, page_is) = header_reports n c.links c.order c.head c.frames g page fill kept (link ∙ at) in
      let hint_le = k.hint_le in
      let near = min-le_left (c.head + 1 - fill) (n + 3) in
      let far : 1 ≤ min (c.head + 1 - c.reader.hint) (n + 2) = le-min (omega arith) (omega arith) in
      subst (λ (x : Core). reader_rank n x < reader_rank n c) (sym is)
      (subst (λ (m : ℕ). 4 * min (c.head + 1 - fill) (n + 3) + 2 < m) (sym (old loading_head same)) (omega arith))
  load_head_lowers answer after goes same (loads_update page lost at a is) =
      absurd (let wrong : reading ≡ moving (suc lost) = sym goes ∙ a in cc)
  load_head_lowers answer after goes same (loads_owed page at a is) =
      absurd (let wrong : reading ≡ moving c.reader.hint = sym goes ∙ a in cc)
  load_head_lowers answer after goes same (loads_passed page fill least at more sum a is) =
      let some_pages = k.some_pages in
      let (g, low, high, place) = at_position c.head n (c.reader.hint % n) (mod-lt c.reader.hint (omega arith)) in
      let reported =
      normal_reports n c.links c.order c.head c.frames g page fill (k.each g low high)
      (ap (λ (i : ℕ). get_or c.links i (normal_link 0 0)) place ∙ at) in
      let it = reported.0 in
      let above = round_above g place (omega arith) in
      let near = min-le_left (c.head + 1 - least) (n + 2) in
      let far : suc (c.head + 1 - least) ≤ min (c.head + 1 - c.reader.hint) (n + 2) =
      le-min (let hint_le = k.hint_le in omega arith) (omega arith) in
      subst (λ (x : Core). reader_rank n x < reader_rank n c) (sym is)
      (subst (λ (m : ℕ). 4 * min (c.head + 1 - least) (n + 2) + 3 < m) (sym (old loading_head same)) (omega arith))

  load_done_lowers : (page fill : ℕ) (answer : Answer) (after : Core) → answer ≡ reading
      → c.reader.phase ≡ loading_done page fill → LoadDoneStep c page fill answer after
      → reader_rank n after < reader_rank n c
  load_done_lowers page fill answer after goes same (finds_none le a is) =
      absurd (let wrong : reading ≡ empty c.done = sym goes ∙ a in cc)
  load_done_lowers page fill answer after goes same (finds_closed closed a is) =
      subst (λ (x : Core). reader_rank n x < reader_rank n c) (sym is)
      (subst (λ (m : ℕ). 4 * distance (n + 3) c + 1 < m) (sym (old (loading_done page fill) same)) (omega arith))

  swap_head_lowers : (page fill : ℕ) (answer : Answer) (after : Core) → answer ≡ reading
      → c.reader.phase ≡ swapping page fill → fill ≡ c.reader.hint → SwapHeadStep n c page fill answer after
      → reader_rank n after < reader_rank n c
  swap_head_lowers page fill answer after goes same hint_is (swaps at a is) = absurd (let wrong = sym goes ∙ a in cc)
  swap_head_lowers page fill answer after goes same hint_is (swap_fails at a is) =
      let hint_le = k.hint_le in
      let near = min-le_left (c.head + 1 - suc fill) (n + 2) in
      let near_most = min-le_right (c.head + 1 - suc fill) (n + 2) in
      let far : suc (min (c.head + 1 - suc fill) (n + 2)) ≤ min (c.head + 1 - c.reader.hint) (n + 3) =
      le-min (omega arith) (omega arith) in
      subst (λ (x : Core). reader_rank n x < reader_rank n c) (sym is)
      (subst (λ (m : ℕ). 4 * min (c.head + 1 - suc fill) (n + 2) + 3 < m) (sym (old (swapping page fill) same))
      (omega arith))

  read_lowers : (phase : ReaderPhase) (answer : Answer) (after : Core) → answer ≡ reading → c.reader.phase ≡ phase
      → ReaderKept n c.links c.order c.spare_link c.head c.done c.reader.hint phase → ReadStep n c phase answer after
      → reader_rank n after < reader_rank n c
  read_lowers loading_head answer after goes same facts step = load_head_lowers answer after goes same step
  read_lowers (loading_done page fill) answer after goes same facts step =
      load_done_lowers page fill answer after goes same step
  read_lowers (storing_spare_link page fill) answer after goes same facts step =
      subst (λ (x : Core). reader_rank n x < reader_rank n c) (sym step.after_is)
      (subst (λ (m : ℕ). 4 * distance (n + 3) c < m) (sym (old (storing_spare_link page fill) same)) (omega arith))
  read_lowers (swapping page fill) answer after goes same facts step =
      swap_head_lowers page fill answer after goes same facts.0.fill_is step

pub takes_lower : TakesComeToAnAnswer
takes_lower n size start c after r step =
    read_lowers n size c r.links c.reader.phase reading after refl refl r.links.reader (reader_step step)

phase_le : (n : ℕ) (c : Core) (phase : ReaderPhase) → reader_phase_rank n c phase ≤ 4 * n + 14
phase_le n c loading_head = let low = min-le_right (c.head + 1 - c.reader.hint) (n + 2) in omega arith
phase_le n c (loading_done page fill) = let low = min-le_right (c.head + 1 - c.reader.hint) (n + 3) in omega arith
phase_le n c (storing_spare_link page fill) = let low = min-le_right (c.head + 1 - c.reader.hint) (n + 3) in omega arith
phase_le n c (swapping page fill) = let low = min-le_right (c.head + 1 - c.reader.hint) (n + 3) in omega arith

pub takes_are_near : TakesAreNearTheirAnswer
takes_are_near n size start c r = phase_le n c c.reader.phase
