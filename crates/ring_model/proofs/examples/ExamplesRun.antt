-- The worked examples, computed from new rings of two and of four pages.
use Rattle.std.proofs.Common.{◌≡◌, ℕ, zero, suc, ◌+◌, ◌%◌, ◌<◌, List, [], ◌∷◌, map, Option, Some, None, get_or, refl}
use Rattle.std.proofs.Common.{arith, subst, ◌≤◌}
use Rattle.trace_model.specs.Record.{Record}
use Rattle.trace_model.specs.Links.{normal_link, header_link}
use Rattle.trace_model.specs.Ring.{PageRecords, Core, IsStart, link_into, loading_head}
use Rattle.trace_model.specs.History.{committed_records}
use Rattle.trace_model.specs.Steps.{Exchange, Run}
use Rattle.ring_model.specs.Examples.{at, all, four, IsExample, first_record, FirstRecord, nested_writer, NestedWriter}
use Rattle.ring_model.specs.Examples.{inner_reserves_first, InnerReservesFirst, halted_head_move, HaltedHeadMove}
use Rattle.ring_model.specs.Examples.{helpers_at_the_head, HelpersAtTheHead, late_swap, LateSwap, wish_answered}
use Rattle.ring_model.specs.Examples.{WishAnswered, wish_waits_for_the_outermost, WishWaitsForTheOutermost}
use Rattle.ring_model.proofs.steps.RunFunction.{Ran, run_of, event_in, answer_in, Gives, run_sound}
use Rattle.ring_model.proofs.partition.OneNewRing.{same_ring}

abbrev nothing : PageRecords
nothing = record { first = 0; records = [] }

abbrev pub two_pages : Core
two_pages = record {
  links = header_link 0 0 ∷ normal_link 1 1 ∷ [];
  order = 0 ∷ 1 ∷ [];
  spare = 2;
  spare_link = normal_link 0 0;
  head = 0;
  done = 0;
  opened = 1;
  wish = 0;
  frames = [];
  open_pages = 0 ∷ [];
  reader = record { phase = loading_head; hint = 0; seen = 0; expected = 0; taken = [] };
  held = nothing ∷ nothing ∷ nothing ∷ [];
  history = [];
}

abbrev pub four_pages : Core
four_pages = record {
  links = header_link 0 0 ∷ normal_link 1 1 ∷ normal_link 2 2 ∷ normal_link 3 3 ∷ [];
  order = 0 ∷ 1 ∷ 2 ∷ 3 ∷ [];
  spare = 4;
  spare_link = normal_link 0 0;
  head = 0;
  done = 0;
  opened = 1;
  wish = 0;
  frames = [];
  open_pages = 0 ∷ [];
  reader = record { phase = loading_head; hint = 0; seen = 0; expected = 0; taken = [] };
  held = nothing ∷ nothing ∷ nothing ∷ nothing ∷ nothing ∷ [];
  history = [];
}

pub two_start : IsStart 2 0 two_pages
two_start = assumption (links_at, order_at, held_at)
  where
    links_at : (f : ℕ) → 0 < f → f < 0 + 2 → link_into 2 two_pages.links f ≡ normal_link (f % 2) f
    links_at zero low high = absurd (omega arith)
    links_at (suc zero) low high = refl
    links_at (suc (suc f)) low high = absurd (omega arith)

    order_at : (position : ℕ) → position < 2 → get_or two_pages.order position 0 ≡ position
    order_at zero low = refl
    order_at (suc zero) low = refl
    order_at (suc (suc p)) low = absurd (omega arith)

    held_at : (page : ℕ) → page < 2 + 1 → get_or two_pages.held page nothing ≡ nothing
    held_at zero low = refl
    held_at (suc zero) low = refl
    held_at (suc (suc zero)) low = refl
    held_at (suc (suc (suc p))) low = absurd (omega arith)

pub four_start : IsStart 4 0 four_pages
four_start = assumption (links_at, order_at, held_at)
  where
    links_at : (f : ℕ) → 0 < f → f < 0 + 4 → link_into 4 four_pages.links f ≡ normal_link (f % 4) f
    links_at zero low high = absurd (omega arith)
    links_at (suc zero) low high = refl
    links_at (suc (suc zero)) low high = refl
    links_at (suc (suc (suc zero))) low high = refl
    links_at (suc (suc (suc (suc f)))) low high = absurd (omega arith)

    order_at : (position : ℕ) → position < 4 → get_or four_pages.order position 0 ≡ position
    order_at zero low = refl
    order_at (suc zero) low = refl
    order_at (suc (suc zero)) low = refl
    order_at (suc (suc (suc zero))) low = refl
    order_at (suc (suc (suc (suc p)))) low = absurd (omega arith)

    held_at : (page : ℕ) → page < 4 + 1 → get_or four_pages.held page nothing ≡ nothing
    held_at zero low = refl
    held_at (suc zero) low = refl
    held_at (suc (suc zero)) low = refl
    held_at (suc (suc (suc zero))) low = refl
    held_at (suc (suc (suc (suc zero)))) low = refl
    held_at (suc (suc (suc (suc (suc p))))) low = absurd (omega arith)

-- the last state of what was computed
abbrev pub last_of : Core → Option Ran → Core
last_of c None = c
last_of c (Some r) = r.last

abbrev pub last_from : ℕ → ℕ → Core → List Exchange → Core
last_from n size c exchanges = last_of c (run_of n size c (map event_in exchanges))

tried : (n size : ℕ) (new : Core) (exchanges : List Exchange) (committed : List Record) → 1 ≤ n → IsStart n 0 new
    → Gives (run_of n size new (map event_in exchanges)) (map answer_in exchanges) (last_from n size new exchanges)
    → committed_records (last_from n size new exchanges).history ≡ committed
    → IsExample n size exchanges committed
tried n size new exchanges committed some is gives records = λ start it.
    subst (λ (s : Core). (after : Core) × Run n size s exchanges after × (committed_records after.history ≡ committed))
    (same_ring n 0 some new start is it)
    (last_from n size new exchanges, run_sound n size new (last_from n size new exchanges) exchanges gives, records)

pub first_record_tried : FirstRecord
first_record_tried =
    tried 2 32 two_pages first_record (at 100 (1 ∷ 2 ∷ 3 ∷ 4 ∷ []) ∷ []) (omega arith) two_start (refl, refl) refl

pub nested_writer_tried : NestedWriter
nested_writer_tried =
    tried 2 32 two_pages nested_writer (at 10 (four 170) ∷ at 20 (four 187) ∷ []) (omega arith) two_start (refl, refl)
    refl

pub inner_reserves_first_tried : InnerReservesFirst
inner_reserves_first_tried =
    tried 2 32 two_pages inner_reserves_first (at 20 (four 187) ∷ at 20 (four 170) ∷ []) (omega arith) two_start
    (refl, refl) refl

pub halted_head_move_tried : HaltedHeadMove
halted_head_move_tried =
    tried 2 32 two_pages halted_head_move (at 1 (all 1) ∷ at 2 (all 2) ∷ at 3 (all 3) ∷ []) (omega arith) two_start
    (refl, refl) refl

pub helpers_at_the_head_tried : HelpersAtTheHead
helpers_at_the_head_tried =
    tried 4 32 four_pages helpers_at_the_head
    (at 1 (all 1) ∷ at 2 (all 2) ∷ at 3 (all 3) ∷ at 4 (all 4) ∷ at 6 (all 6) ∷ at 7 (all 7) ∷ at 7 (all 5) ∷ [])
    (omega arith) four_start (refl, refl) refl

pub late_swap_tried : LateSwap
late_swap_tried =
    tried 2 32 two_pages late_swap (at 1 (all 1) ∷ at 2 (all 2) ∷ at 3 (all 3) ∷ at 4 (all 4) ∷ []) (omega arith)
    two_start (refl, refl) refl

pub wish_answered_tried : WishAnswered
wish_answered_tried =
    tried 2 32 two_pages wish_answered (at 1 (1 ∷ 2 ∷ 3 ∷ 4 ∷ []) ∷ at 2 (5 ∷ 6 ∷ 7 ∷ 8 ∷ []) ∷ []) (omega arith)
    two_start (refl, refl) refl

pub wish_waits_for_the_outermost_tried : WishWaitsForTheOutermost
wish_waits_for_the_outermost_tried =
    tried 2 32 two_pages wish_waits_for_the_outermost (at 1 (1 ∷ 2 ∷ 3 ∷ 4 ∷ []) ∷ at 2 (5 ∷ 6 ∷ 7 ∷ 8 ∷ []) ∷ [])
    (omega arith) two_start (refl, refl) refl
