-- Worked examples of a ring: what is asked of a new one, event by event, and what it answers. docs/MODEL.md has a
-- table of them.
use Rattle.std.specs.Prelude.{◌≡◌, ℕ, List, [], ◌∷◌, ◌++◌, length, map, replicate, Some}
use Rattle.trace_model.specs.Record.{Record}
use Rattle.trace_model.specs.History.{Reservation, committed_records}
use Rattle.trace_model.specs.Ring.{Core, IsStart}
use Rattle.trace_model.specs.Steps.{pushes, pushes_close, steps, ends, reads, wishes, Answer, pushed, going}
use Rattle.trace_model.specs.Steps.{reserved_as, pending, full, gone, reading, empty, moving, page_taken, wished_for}
use Rattle.trace_model.specs.Steps.{Exchange, Run}

-- ---- what is asked and answered

-- a record frame is pushed, for a payload of len bytes
abbrev pub pushing : (moment len : ℕ) → List Exchange
pushing moment len = record { event = pushes moment len; answer = pushed } ∷ []

-- a close frame is pushed
abbrev pub pushing_close : List Exchange
pushing_close = record { event = pushes_close; answer = pushed } ∷ []

-- the frame on top makes as many steps as these answers
abbrev pub stepping : List Answer → List Exchange
stepping answers = map (λ answer. record { event = steps; answer = answer }) answers

-- the frame goes on this many times, and then it answers this
abbrev pub after_going : ℕ → Answer → List Answer
after_going count answer = replicate count going ++ answer ∷ []

-- the frame on top is ended with this payload
abbrev pub ending : List ℕ → Answer → List Exchange
ending payload answer = record { event = ends payload; answer = answer } ∷ []

-- the reader makes as many steps as these answers
abbrev pub taking : List Answer → List Exchange
taking answers = map (λ answer. record { event = reads; answer = answer }) answers

-- the reader wishes for the page of this fill
abbrev pub wishing_for : ℕ → List Exchange
wishing_for fill = record { event = wishes; answer = wished_for fill } ∷ []

-- ---- records

-- a payload of 28 bytes of one value: its record takes 32 bytes
abbrev pub all : ℕ → List ℕ
all value = replicate 28 value

-- four bytes of one value
abbrev pub four : ℕ → List ℕ
four value = value ∷ value ∷ value ∷ value ∷ []

abbrev pub at : ℕ → List ℕ → Record
at moment bytes = record { moment = moment; bytes = bytes }

-- records whose payloads fill their slots, as a page holds them
abbrev pub held_records : List Record → List Reservation
held_records records = map (λ r. record { moment = r.moment; len = length r.bytes; bytes = Some r.bytes }) records

-- a take's answer: the fill, the number of its first record, how many were missed before it, and its
-- records
abbrev pub taken_as : (fill first missed : ℕ) → List Record → Answer
taken_as fill first missed records = page_taken record {
  fill = fill;
  skipped = missed;
  held = record { first = first; records = held_records records };
}

-- ---- events that stand for one line of a script

-- a record that fits in the tail page, written from its push on by a frame that then finds no wish and is gone
abbrev pub writing : (moment : ℕ) → List ℕ → (number : ℕ) → List Exchange
writing moment payload number =
    pushing moment (length payload)
    ++ stepping (reserved_as number ∷ [])
    ++ ending payload full
    ++ stepping (gone ∷ [])

-- a record that fits in the tail page, if the reader wishes for that page: the frame finds that, looks, opens the next
-- page, and closes the one that was wished for
abbrev pub writing_for_wish : (moment : ℕ) → List ℕ → (number : ℕ) → List Exchange
writing_for_wish moment payload number =
    pushing moment (length payload)
    ++ stepping (reserved_as number ∷ [])
    ++ ending payload full
    ++ stepping (after_going 4 gone)

-- a record that is written on a new page, if a position is free: it notes the need, looks, opens the page
-- and reserves; and closes the page before
abbrev pub writing_on_free : (moment : ℕ) → List ℕ → (number : ℕ) → List Exchange
writing_on_free moment payload number =
    pushing moment (length payload)
    ++ stepping (after_going 3 (reserved_as number))
    ++ ending payload full
    ++ stepping (going ∷ gone ∷ [])

-- a record that is written on a new page in a full ring, whose head it moves: it notes the need, looks, claims the
-- head, looks at the next link, marks it, clears its UPDATE, opens the page and reserves
abbrev pub writing_over_head : (moment : ℕ) → List ℕ → (number : ℕ) → List Exchange
writing_over_head moment payload number =
    pushing moment (length payload)
    ++ stepping (after_going 7 (reserved_as number))
    ++ ending payload full
    ++ stepping (going ∷ gone ∷ [])

-- a close frame that begins a page and leaves, with a frame below it
abbrev pub closing_above : List Exchange
closing_above = pushing_close ++ stepping (going ∷ going ∷ gone ∷ [])

-- a close frame with none below it: it begins a page, closes the page before, and finds no wish
abbrev pub closing : List Exchange
closing = pushing_close ++ stepping (after_going 4 gone)

-- a take from its begin on that finds the head's HEADER at once
abbrev pub take_of : Answer → List Exchange
take_of answer = taking (reading ∷ reading ∷ reading ∷ answer ∷ [])

-- ---- runs

-- From the new ring of n positions these exchanges are a run, and then these records are committed.
abbrev pub IsExample : (n size : ℕ) → List Exchange → List Record → Type 0
IsExample n size exchanges committed = (start : Core)
    → IsStart n 0 start
    → (after : Core) × Run n size start exchanges after × (committed_records after.history ≡ committed)

-- ---- the examples

-- one record, a close, and a take
abbrev pub first_record : List Exchange
first_record =
    writing 100 (1 ∷ 2 ∷ 3 ∷ 4 ∷ []) 0
    ++ closing
    ++ take_of (taken_as 0 0 0 (at 100 (1 ∷ 2 ∷ 3 ∷ 4 ∷ []) ∷ []))

abbrev pub FirstRecord : Type 0
FirstRecord = IsExample 2 32 first_record (at 100 (1 ∷ 2 ∷ 3 ∷ 4 ∷ []) ∷ [])

-- A frame reserves; a second one interrupts it, reserves and ends, and a third closes the page: nothing is to
-- be taken. The outermost frame ends and closes the page, and a take gets both records.
abbrev pub nested_writer : List Exchange
nested_writer =
    pushing 10 4 ++ stepping (reserved_as 0 ∷ [])
    ++ pushing 20 4 ++ stepping (reserved_as 1 ∷ []) ++ ending (four 187) pending
    ++ closing_above
    ++ taking (reading ∷ empty 0 ∷ [])
    ++ ending (four 170) full ++ stepping (going ∷ gone ∷ [])
    ++ take_of (taken_as 0 0 0 (at 10 (four 170) ∷ at 20 (four 187) ∷ []))

abbrev pub NestedWriter : Type 0
NestedWriter = IsExample 2 32 nested_writer (at 10 (four 170) ∷ at 20 (four 187) ∷ [])

-- The second frame interrupts the first before that has reserved: so its record comes first, and the moment of
-- the other is raised to its.
abbrev pub inner_reserves_first : List Exchange
inner_reserves_first =
    pushing 10 4
    ++ pushing 20 4 ++ stepping (reserved_as 0 ∷ []) ++ ending (four 187) pending
    ++ stepping (reserved_as 1 ∷ []) ++ ending (four 170) full ++ stepping (gone ∷ [])
    ++ closing
    ++ take_of (taken_as 0 0 0 (at 20 (four 187) ∷ at 20 (four 170) ∷ []))

abbrev pub InnerReservesFirst : Type 0
InnerReservesFirst = IsExample 2 32 inner_reserves_first (at 20 (four 187) ∷ at 20 (four 170) ∷ [])

-- In a full ring a third frame notes its need, looks, and claims the head; there it halts, and two
-- takes meet its UPDATE and the HEADER that it owes. It looks at the next link and marks it: a take finds
-- that head not closed. It clears its UPDATE, opens the page, reserves, ends and closes: a take gets the
-- second record, and one was missed.
abbrev pub halted_head_move : List Exchange
halted_head_move =
    writing 1 (all 1) 0 ++ writing_on_free 2 (all 2) 1
    ++ pushing 3 28 ++ stepping (going ∷ going ∷ going ∷ [])
    ++ taking (moving 1 ∷ []) ++ taking (moving 1 ∷ [])
    ++ stepping (going ∷ going ∷ [])
    ++ taking (reading ∷ empty 1 ∷ [])
    ++ stepping (going ∷ going ∷ reserved_as 2 ∷ []) ++ ending (all 3) full ++ stepping (going ∷ gone ∷ [])
    ++ take_of (taken_as 1 1 1 (at 2 (all 2) ∷ []))

abbrev pub HaltedHeadMove : Type 0
HaltedHeadMove = IsExample 2 32 halted_head_move (at 1 (all 1) ∷ at 2 (all 2) ∷ at 3 (all 3) ∷ [])

-- In a full ring of four pages a frame claims the head and is interrupted. A second frame helps: it finds the
-- UPDATE, looks at the next link, marks it, and opens the page. A third moves the head on, and opens the next
-- one. Then the first finds the next link passed, clears its UPDATE, finds that fills were begun, and begins
-- again: it moves the head on too. It closes three pages. Four takes: the first goes from link to link to the
-- head, and three records were missed.
abbrev pub helpers_at_the_head : List Exchange
helpers_at_the_head =
    writing 1 (all 1) 0 ++ writing_on_free 2 (all 2) 1 ++ writing_on_free 3 (all 3) 2 ++ writing_on_free 4 (all 4) 3
    ++ pushing 5 28 ++ stepping (going ∷ going ∷ going ∷ [])
    ++ pushing 6 28 ++ stepping (after_going 5 (reserved_as 4)) ++ ending (all 6) pending
    ++ pushing 7 28 ++ stepping (after_going 7 (reserved_as 5)) ++ ending (all 7) pending
    ++ stepping (going ∷ going ∷ going ∷ [])
    ++ stepping (after_going 7 (reserved_as 6)) ++ ending (all 5) full
    ++ stepping (after_going 3 gone)
    ++ taking (reading ∷ reading ∷ reading ∷ []) ++ take_of (taken_as 3 3 3 (at 4 (all 4) ∷ []))
    ++ take_of (taken_as 4 4 0 (at 6 (all 6) ∷ []))
    ++ take_of (taken_as 5 5 0 (at 7 (all 7) ∷ []))
    ++ taking (reading ∷ empty 6 ∷ [])

abbrev pub HelpersAtTheHead : Type 0
HelpersAtTheHead =
    IsExample 4 32 helpers_at_the_head
    (at 1 (all 1) ∷ at 2 (all 2) ∷ at 3 (all 3) ∷ at 4 (all 4) ∷ at 6 (all 6) ∷ at 7 (all 7) ∷ at 7 (all 5) ∷ [])

-- The reader has seen the HEADER of fill 0 on page 0 and halts, while two records are written over the
-- head: now that page is the head again, of fill 2. The reader's swap fails; it goes on to the head, takes fill
-- 2, and two records were missed.
abbrev pub late_swap : List Exchange
late_swap =
    writing 1 (all 1) 0 ++ writing_on_free 2 (all 2) 1
    ++ taking (reading ∷ [])
    ++ writing_over_head 3 (all 3) 2 ++ writing_over_head 4 (all 4) 3
    ++ taking (reading ∷ reading ∷ reading ∷ []) ++ taking (reading ∷ [])
    ++ take_of (taken_as 2 2 2 (at 3 (all 3) ∷ []))

abbrev pub LateSwap : Type 0
LateSwap = IsExample 2 32 late_swap (at 1 (all 1) ∷ at 2 (all 2) ∷ at 3 (all 3) ∷ at 4 (all 4) ∷ [])

-- A record is written, a take finds nothing, and the reader wishes for the page. Until the next end a take still
-- finds nothing; then a second record is written, and a take gets both.
abbrev pub wish_answered : List Exchange
wish_answered =
    writing 1 (1 ∷ 2 ∷ 3 ∷ 4 ∷ []) 0
    ++ taking (reading ∷ empty 0 ∷ []) ++ wishing_for 0 ++ taking (reading ∷ empty 0 ∷ [])
    ++ writing_for_wish 2 (5 ∷ 6 ∷ 7 ∷ 8 ∷ []) 1
    ++ take_of (taken_as 0 0 0 (at 1 (1 ∷ 2 ∷ 3 ∷ 4 ∷ []) ∷ at 2 (5 ∷ 6 ∷ 7 ∷ 8 ∷ []) ∷ []))

abbrev pub WishAnswered : Type 0
WishAnswered = IsExample 2 32 wish_answered (at 1 (1 ∷ 2 ∷ 3 ∷ 4 ∷ []) ∷ at 2 (5 ∷ 6 ∷ 7 ∷ 8 ∷ []) ∷ [])

-- The reader wishes for the first page. A frame writes a record, is ended, and is interrupted before it looks for a
-- wish: the second frame's end doesn't answer it, and a take finds nothing. The outermost one does, and a take gets
-- both records.
abbrev pub wish_waits_for_the_outermost : List Exchange
wish_waits_for_the_outermost =
    wishing_for 0
    ++ pushing 1 4 ++ stepping (reserved_as 0 ∷ []) ++ ending (1 ∷ 2 ∷ 3 ∷ 4 ∷ []) full
    ++ pushing 2 4 ++ stepping (reserved_as 1 ∷ []) ++ ending (5 ∷ 6 ∷ 7 ∷ 8 ∷ []) pending
    ++ taking (reading ∷ empty 0 ∷ [])
    ++ stepping (after_going 4 gone)
    ++ take_of (taken_as 0 0 0 (at 1 (1 ∷ 2 ∷ 3 ∷ 4 ∷ []) ∷ at 2 (5 ∷ 6 ∷ 7 ∷ 8 ∷ []) ∷ []))

abbrev pub WishWaitsForTheOutermost : Type 0
WishWaitsForTheOutermost =
    IsExample 2 32 wish_waits_for_the_outermost (at 1 (1 ∷ 2 ∷ 3 ∷ 4 ∷ []) ∷ at 2 (5 ∷ 6 ∷ 7 ∷ 8 ∷ []) ∷ [])
