-- Wrong steps: what each would make of a state that a run from a new ring reaches.
use Rattle.std.specs.Prelude.{ℕ, ◌+◌, List, [], ◌∷◌, ◌++◌}
use Rattle.trace_model.specs.History.{wished}
use Rattle.trace_model.specs.Packing.{IsPacked}
use Rattle.trace_model.specs.Links.{normal_link, header_link}
use Rattle.trace_model.specs.Ring.{Core, IsStart, IsRing}
use Rattle.trace_model.specs.Steps.{Event, Answer, going, reserved_as, pending, full, reading, with_history_event}
use Rattle.trace_model.specs.Steps.{with_link, with_new_tail, after_swap, Step, Exchange, Run}
use Rattle.ring_model.specs.Examples.{pushing, stepping, after_going, ending, taking, all, four, writing}
use Rattle.ring_model.specs.Examples.{writing_on_free, writing_over_head, closing_above, wishing_for, pushing_close}

-- These exchanges lead from a new ring of n positions to a state. What the wrong step makes of it is no ring; and
-- no event and no answer make it.
abbrev pub IsWrongStep : (n size : ℕ) → List Exchange → (Core → Core) → Type 0
IsWrongStep n size exchanges wrong =
    (start before : Core)
    × IsStart n 0 start
    × Run n size start exchanges before
    × (IsRing n 0 (wrong before) → ⊥)
    × ((event : Event) (answer : Answer) → Step n size before event answer (wrong before) → ⊥)

-- ---- a fill is lost while a position is free

-- two of four positions are free
abbrev pub to_free_positions : List Exchange
to_free_positions = writing 1 (all 1) 0 ++ writing_on_free 2 (all 2) 1

-- the head is lost to a writer
abbrev pub with_head_lost : Core → Core
with_head_lost c = record (with_link 4 (with_link 4 c 0 (normal_link 0 4)) 1 (header_link 1 1)) { head = c.head + 1 }

abbrev pub LosesWhileAPositionIsFree : Type 0
LosesWhileAPositionIsFree = IsWrongStep 4 32 to_free_positions with_head_lost

-- ---- the reader takes the tail

-- the one page that is begun isn't closed; the reader has seen its HEADER
abbrev pub to_open_tail : List Exchange
to_open_tail = writing 1 (all 1) 0 ++ taking (reading ∷ [])

-- it is taken
abbrev pub with_tail_taken : Core → Core
with_tail_taken c = after_swap 2 (record c { spare_link = header_link 1 1 }) 0 0

abbrev pub TakesTheTail : Type 0
TakesTheTail = IsWrongStep 2 32 to_open_tail with_tail_taken

-- ---- a helper clears the UPDATE

-- A frame has claimed the head and is interrupted. Another has helped, up to the mark.
abbrev pub to_helped_move : List Exchange
to_helped_move =
    writing 1 (all 1) 0 ++ writing_on_free 2 (all 2) 1
    ++ pushing 3 28 ++ stepping (going ∷ going ∷ going ∷ [])
    ++ pushing 4 28 ++ stepping (after_going 3 going)

-- it clears the UPDATE too
abbrev pub with_update_cleared : Core → Core
with_update_cleared c = with_link 2 c 2 (normal_link 0 2)

abbrev pub HelperClearsTheUpdate : Type 0
HelperClearsTheUpdate = IsWrongStep 2 32 to_helped_move with_update_cleared

-- ---- two heads

-- A frame is about to mark the next head and is interrupted. Another marks it, and a third moves the head on
-- from there.
abbrev pub to_passed_mark : List Exchange
to_passed_mark =
    writing 1 (all 1) 0 ++ writing_on_free 2 (all 2) 1 ++ writing_on_free 3 (all 3) 2 ++ writing_on_free 4 (all 4) 3
    ++ pushing 5 28 ++ stepping (after_going 3 going)
    ++ pushing 6 28 ++ stepping (after_going 5 (reserved_as 4)) ++ ending (all 6) pending
    ++ pushing 7 28 ++ stepping (after_going 7 (reserved_as 5)) ++ ending (all 7) pending

-- the first stores its HEADER, whatever the link says by now
abbrev pub with_second_head : Core → Core
with_second_head c = with_link 4 c 1 (header_link 1 1)

abbrev pub TwoHeads : Type 0
TwoHeads = IsWrongStep 4 32 to_passed_mark with_second_head

-- ---- a swap ignores the fill

-- The reader is about to swap fill 0 on page 0. By now that page is the head as fill 2.
abbrev pub to_late_swap : List Exchange
to_late_swap =
    writing 1 (all 1) 0 ++ writing_on_free 2 (all 2) 1
    ++ taking (reading ∷ [])
    ++ writing_over_head 3 (all 3) 2 ++ writing_over_head 4 (all 4) 3
    ++ taking (reading ∷ reading ∷ [])

-- it swaps all the same
abbrev pub with_late_swap : Core → Core
with_late_swap c = after_swap 2 c 0 0

abbrev pub SwapIgnoresTheFill : Type 0
SwapIgnoresTheFill = IsWrongStep 2 32 to_late_swap with_late_swap

-- ---- an inner end publishes

-- a nested frame has reserved and ended, and another has begun a page, while the outermost one is on the stack
abbrev pub to_inner_end : List Exchange
to_inner_end =
    pushing 10 4 ++ stepping (reserved_as 0 ∷ [])
    ++ pushing 20 4 ++ stepping (reserved_as 1 ∷ []) ++ ending (four 187) pending
    ++ closing_above

-- the page before is closed
abbrev pub with_page_closed : Core → Core
with_page_closed c = record c { done = c.done + 1 }

abbrev pub InnerEndPublishes : Type 0
InnerEndPublishes = IsWrongStep 2 32 to_inner_end with_page_closed

-- ---- fills that are begun for no wish

-- These exchanges lead from a new ring of n positions to a state. What the wrong step makes of it isn't packed in
-- pages; and no event and no answer make it.
abbrev pub IsUnpackedStep : (n size : ℕ) → List Exchange → (Core → Core) → Type 0
IsUnpackedStep n size exchanges wrong =
    (start before : Core)
    × IsStart n 0 start
    × Run n size start exchanges before
    × (IsPacked (wrong before).history size → ⊥)
    × ((event : Event) (answer : Answer) → Step n size before event answer (wrong before) → ⊥)

-- a frame was ended and looks for a wish, and the reader has none
abbrev pub to_unasked_end : List Exchange
to_unasked_end = pushing 1 4 ++ stepping (reserved_as 0 ∷ []) ++ ending (four 1) full

-- it begins the next page all the same
abbrev pub with_page_begun : Core → Core
with_page_begun c = with_new_tail c 1

abbrev pub ClosesWithoutAWish : Type 0
ClosesWithoutAWish = IsUnpackedStep 2 32 to_unasked_end with_page_begun

-- the reader wishes for a page without a record, and a close frame that has nothing to do looks for the wish
abbrev pub to_empty_page : List Exchange
to_empty_page = wishing_for 0 ++ pushing_close ++ stepping (going ∷ [])

-- it takes the wish, and begins the next page
abbrev pub with_empty_page_left : Core → Core
with_empty_page_left c = with_new_tail (with_history_event c wished) 1

abbrev pub WishClosesAnEmptyPage : Type 0
WishClosesAnEmptyPage = IsUnpackedStep 2 32 to_empty_page with_empty_page_left
