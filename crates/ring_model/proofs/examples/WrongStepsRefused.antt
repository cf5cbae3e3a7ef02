-- The wrong steps make no rings.
use Rattle.std.proofs.Common.{◌≡◌, ℕ, suc, ◌+◌, ◌<◌, ◌≤◌, true, false, List, [], length, map, Option, Some, refl, ap}
use Rattle.std.proofs.Common.{⊎_elim, arith}
use Rattle.std.specs.List.{slice_get}
use Rattle.trace_model.specs.declared.limits.TheConstants.{LINK_FILLS}
use Rattle.trace_model.specs.Record.{Record}
use Rattle.trace_model.specs.Links.{Link, normal_link, update_link, mark_code}
use Rattle.trace_model.specs.Ring.{TakenFill, Core, link_into, page_at, IsStart, IsRing, IsBehindHead, reported, moved}
use Rattle.trace_model.specs.Ring.{IsAtHead, marked, owed}
use Rattle.trace_model.specs.History.{wished}
use Rattle.trace_model.specs.Packing.{IsPacked}
use Rattle.trace_model.specs.Steps.{Exchange, with_history_event}
use Rattle.trace_model.specs.Frames.{for_record, waiting, owner, looking_next}
use Rattle.ring_model.specs.WrongSteps.{to_free_positions, with_head_lost, to_open_tail, with_tail_taken}
use Rattle.ring_model.specs.WrongSteps.{to_helped_move, with_update_cleared, to_passed_mark, with_second_head}
use Rattle.ring_model.specs.WrongSteps.{to_late_swap, with_late_swap, to_inner_end, with_page_closed, to_unasked_end}
use Rattle.ring_model.specs.WrongSteps.{with_page_begun, to_empty_page, with_empty_page_left, IsWrongStep}
use Rattle.ring_model.specs.WrongSteps.{IsUnpackedStep, ClosesWithoutAWish, WishClosesAnEmptyPage}
use Rattle.ring_model.specs.WrongSteps.{LosesWhileAPositionIsFree, TakesTheTail, HelperClearsTheUpdate, TwoHeads}
use Rattle.ring_model.specs.WrongSteps.{SwapIgnoresTheFill, InnerEndPublishes}
use Rattle.ring_model.proofs.links.FramePhases.{none_some}
use Rattle.ring_model.proofs.partition.RingsKept.{ring_start, ring_step, ring_run, is_ring}
use Rattle.ring_model.proofs.contents.PackedRuns.{runs_packed}
use Rattle.ring_model.proofs.steps.RunFunction.{run_of, event_in, answer_in, Gives, run_sound}
use Rattle.ring_model.proofs.examples.ExamplesRun.{two_pages, four_pages, two_start, four_start, last_from}

-- where the state is no ring, no step makes it
refused : (n size : ℕ) (start : Core) (exchanges : List Exchange) (wrong : Core → Core) → 2 ≤ n → 0 + 1 + n ≤ LINK_FILLS
    → IsStart n 0 start
    → Gives (run_of n size start (map event_in exchanges)) (map answer_in exchanges) (last_from n size start exchanges)
    → (IsRing n 0 (wrong (last_from n size start exchanges)) → ⊥)
    → IsWrongStep n size exchanges wrong
refused n size start exchanges wrong some fits is gives breaks =
    let before = last_from n size start exchanges in
    let run = run_sound n size start before exchanges gives in
    let kept =
    ring_run n size 0 start before exchanges
    (ring_start n size 0 start record { some_pages = some; numbers_left = fits } is) run in (
      start,
      before,
      is,
      run,
      breaks,
      λ event answer step.
          breaks (is_ring n size 0 (wrong before) (ring_step n size 0 before event answer (wrong before) kept step)),
    )

same_code : (a b : Link) → a ≡ b → mark_code a.mark ≡ mark_code b.mark
same_code a b e = ap (λ (l : Link). mark_code l.mark) e

none_taken : (k : ℕ) (t : TakenFill) → ◌≡◌ {A = Option TakenFill} (slice_get [] k) (Some t) → ⊥
none_taken k t at = none_some at

pub loses_while_a_position_is_free : LosesWhileAPositionIsFree
loses_while_a_position_is_free =
    refused 4 32 four_pages to_free_positions with_head_lost (omega arith) (omega arith) four_start (refl, refl) breaks
  where
    breaks : IsRing 4 0 (with_head_lost (last_from 4 32 four_pages to_free_positions)) → ⊥
    breaks r =
        ⊎_elim (λ taken. let (k, t, at, is) = taken in none_taken k t at) (λ full. let z : 4 ≤ 2 = full in omega arith)
        (r.lost 0 (omega arith) (let one : 0 < 1 = omega arith in one))

pub takes_the_tail : TakesTheTail
takes_the_tail =
    refused 2 32 two_pages to_open_tail with_tail_taken (omega arith) (omega arith) two_start (refl, refl)
    (λ r. let z : 1 ≤ 0 = r.head_le in omega arith)

abbrev cleared : Core
cleared = with_update_cleared (last_from 2 32 two_pages to_helped_move)

-- the frame below has still set that UPDATE
cleared_breaks : IsBehindHead 2 cleared 2 → ⊥
cleared_breaks (reported e none) =
    none 1 (record { kind = for_record 3 28; state = waiting; phase = looking_next owner 2 0 }, refl, refl)
cleared_breaks (moved lost sum e by) =
    let z : ◌≡◌ {A = ℕ} 0 2 =
    same_code (link_into 2 cleared.links 2) (update_link 0 lost) e in
    omega arith

pub helper_clears_the_update : HelperClearsTheUpdate
helper_clears_the_update =
    refused 2 32 two_pages to_helped_move with_update_cleared (omega arith) (omega arith) two_start (refl, refl)
    (λ r.
    cleared_breaks
    (r.behind_head 2 (let low : 1 < 2 = omega arith in low) (let high : 2 < 3 = omega arith in high)))

abbrev second_head : Core
second_head = with_second_head (last_from 4 32 four_pages to_passed_mark)

second_head_breaks : IsBehindHead 4 second_head 5 → ⊥
second_head_breaks (reported e none) =
    let z : ◌≡◌ {A = ℕ} 1 0 =
    same_code (link_into 4 second_head.links 5) (normal_link (page_at 4 second_head.order 5) 5) e in
    omega arith
second_head_breaks (moved lost sum e by) =
    let z : ◌≡◌ {A = ℕ} 1 2 =
    same_code (link_into 4 second_head.links 5) (update_link (page_at 4 second_head.order 5) lost) e in
    omega arith

pub two_heads : TwoHeads
two_heads =
    refused 4 32 four_pages to_passed_mark with_second_head (omega arith) (omega arith) four_start (refl, refl)
    (λ r.
    second_head_breaks
    (r.behind_head 5 (let low : 2 < 5 = omega arith in low) (let high : 5 < 6 = omega arith in high)))

abbrev swapped_late : Core
swapped_late = with_late_swap (last_from 2 32 two_pages to_late_swap)

-- the link to the head speaks of another fill
swapped_late_breaks : IsAtHead 2 swapped_late → ⊥
swapped_late_breaks (marked e) = let z : ◌≡◌ {A = ℕ} 1 3 = ap (λ (l : Link). l.fill) e in omega arith
swapped_late_breaks (owed lost is e by) =
    let z : ◌≡◌ {A = ℕ} 1 0 =
    same_code (link_into 2 swapped_late.links 3) (normal_link (page_at 2 swapped_late.order 3) 3) e in
    omega arith

pub swap_ignores_the_fill : SwapIgnoresTheFill
swap_ignores_the_fill =
    refused 2 32 two_pages to_late_swap with_late_swap (omega arith) (omega arith) two_start (refl, refl)
    (λ r. swapped_late_breaks r.at_head)

pub inner_end_publishes : InnerEndPublishes
inner_end_publishes =
    refused 2 32 two_pages to_inner_end with_page_closed (omega arith) (omega arith) two_start (refl, refl) breaks
  where
    breaks : IsRing 2 0 (with_page_closed (last_from 2 32 two_pages to_inner_end)) → ⊥
    breaks r = let (behind, e) = r.closed in
        let z : 0 ≡ suc (suc (length behind)) = ap (λ (l : List Record). length l) e in
        omega arith

-- ---- what isn't packed

-- where what was done isn't packed, no step makes it
unpacked : (n size : ℕ) (start : Core) (exchanges : List Exchange) (wrong : Core → Core) → 2 ≤ n
    → 0 + 1 + n ≤ LINK_FILLS → IsStart n 0 start
    → Gives (run_of n size start (map event_in exchanges)) (map answer_in exchanges) (last_from n size start exchanges)
    → (IsPacked (wrong (last_from n size start exchanges)).history size → ⊥)
    → IsUnpackedStep n size exchanges wrong
unpacked n size start exchanges wrong some fits is gives breaks =
    let before = last_from n size start exchanges in
    let run = run_sound n size start before exchanges gives in
    let kept =
    ring_run n size 0 start before exchanges
    (ring_start n size 0 start record { some_pages = some; numbers_left = fits } is) run in (
      start,
      before,
      is,
      run,
      breaks,
      λ event answer step.
          breaks
          (runs_packed n size 0 (wrong before) (ring_step n size 0 before event answer (wrong before) kept step)),
    )

pub closes_without_a_wish : ClosesWithoutAWish
closes_without_a_wish =
    unpacked 2 32 two_pages to_unasked_end with_page_begun (omega arith) (omega arith) two_start (refl, refl) breaks
  where
    breaks : IsPacked (with_page_begun (last_from 2 32 two_pages to_unasked_end)).history 32 → ⊥
    breaks packed =
        let wrong : false ≡ true =
        packed.asked (last_from 2 32 two_pages to_unasked_end).history [] refl refl in
        cc

pub wish_closes_an_empty_page : WishClosesAnEmptyPage
wish_closes_an_empty_page =
    unpacked 2 32 two_pages to_empty_page with_empty_page_left (omega arith) (omega arith) two_start (refl, refl) breaks
  where
    breaks : IsPacked (with_empty_page_left (last_from 2 32 two_pages to_empty_page)).history 32 → ⊥
    breaks packed =
        packed.begins (with_history_event (last_from 2 32 two_pages to_empty_page) wished).history [] refl refl
