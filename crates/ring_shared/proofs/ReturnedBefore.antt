-- In one run, what the writer had made when it gave a receipt is before what the reader did once it had learned it.
use Rattle.std.proofs.Common.{◌≡◌, ◌≤◌, Bool, true, false, List, [], ◌∷◌, ◌++◌, length, refl, sym, ap, ◌∙◌}
use Rattle.std.proofs.Common.{arith, append_assoc}
use Rattle.trace_model.specs.Ring.{Core}
use Rattle.trace_model.specs.Steps.{Event, Exchange}
use Rattle.ring_steps.specs.Made.{WriterMade, ReaderMade, writer_made, reader_made, Trace, trace_of, is_by_writer}
use Rattle.ring_steps.specs.Made.{is_by_reader, kept_if, made_by, by_reader}
use Rattle.ring_steps.proofs.Made.{made_append}
use Rattle.ring_steps.proofs.InTime.{lesson_at}
use Rattle.ring_shared.specs.Receipts.{WhatReturnedStandsBefore}

-- ---- where a step of one end is

module _ {M : Type 0} (is : Event → Bool) (made : Exchange → Core → M) where
  record IsMadeAt (trace : Trace) (earlier : List M) (one : M) : Type 0 where
    front : Trace
    step : Exchange × Core
    rest : Trace
    trace_is : trace ≡ front ++ step ∷ rest
    step_is : made step.0 step.1 ≡ one
    earlier_are : made_by is made front ≡ earlier

  -- and with one more before them
  at_later : (x : Exchange) (c : Core) (trace : Trace) (earlier all : List M) (one : M)
      → ((front : Trace) → made_by is made front ≡ earlier → made_by is made ((x, c) ∷ front) ≡ all)
      → IsMadeAt trace earlier one → IsMadeAt ((x, c) ∷ trace) all one
  at_later x c trace earlier all one more at = record {
    front = (x, c) ∷ at.front;
    step = at.step;
    rest = at.rest;
    trace_is = ap (λ (t : Trace). (x, c) ∷ t) at.trace_is;
    step_is = at.step_is;
    earlier_are = more at.front at.earlier_are;
  }

  made_here : (x : Exchange) (c : Core) (trace : Trace) (earlier later : List M) (one : M)
      → ((before : List M) → made_by is made trace ≡ before ++ one ∷ later → IsMadeAt trace before one)
      → (b : Bool)
      → is x.event ≡ b
      → kept_if b (made x c) (made_by is made trace) ≡ earlier ++ one ∷ later
      → IsMadeAt ((x, c) ∷ trace) earlier one
  made_here x c trace [] later one again true own e =
      record { front = []; step = (x, c); rest = trace; trace_is = refl; step_is = cc; earlier_are = refl }
  made_here x c trace (y ∷ earlier) later one again true own e =
      let first : made x c ≡ y = cc in
      let others : made_by is made trace ≡ earlier ++ one ∷ later = cc in
      at_later x c trace earlier (y ∷ earlier) one
      (λ front are.
      ap (λ (b : Bool). kept_if b (made x c) (made_by is made front)) own ∙ (λ i. first i ∷ are i))
      (again earlier others)
  made_here x c trace earlier later one again false own e =
      at_later x c trace earlier earlier one
      (λ front are. ap (λ (b : Bool). kept_if b (made x c) (made_by is made front)) own ∙ are)
      (again earlier e)

  made_at : (trace : Trace) (earlier later : List M) (one : M) → made_by is made trace ≡ earlier ++ one ∷ later
      → IsMadeAt trace earlier one
  made_at [] [] later one e = absurd (cc)
  made_at [] (y ∷ earlier) later one e = absurd (cc)
  made_at ((x, c) ∷ trace) earlier later one e =
      made_here x c trace earlier later one (λ before at. made_at trace before later one at) (is x.event) refl e

-- a list that is parted in two ways, of which one is no later
parted : {M : Type 0} (xs ys zs ws : List M) → xs ++ ys ≡ zs ++ ws → length xs ≤ length zs
    → (more : List M) × (zs ≡ xs ++ more) × (ys ≡ more ++ ws)
parted [] ys zs ws e few = (zs, refl, e)
parted (x ∷ xs) ys [] ws e few = absurd (omega arith)
parted (x ∷ xs) ys (z ∷ zs) ws e few =
    let same : x ≡ z = cc in let others : xs ++ ys ≡ zs ++ ws = cc in
    let (more, zs_are, ys_are) = parted xs ys zs ws others (omega arith) in
    (more, (λ i. sym same i ∷ zs_are i), ys_are)

pub what_returned_stands_before : WhatReturnedStandsBefore
what_returned_stands_before shape writing reading run lesson wrote others one read later next (k, low, at) made
    readers many =
    let trace : Trace = trace_of shape.pages shape.size run.from run.exchanges run.last run.run in
    let is = lesson_at trace reading.lessons lesson k low at run.in_time in
    let few = is.few in
    let first =
    made_at is_by_writer writer_made is.front wrote (others ++ is.others) one
    (is.has_made
    ∙ (ap (λ (l : List WriterMade). l ++ is.others) made ∙ append_assoc wrote (one ∷ others) is.others)) in
    let (more, read_are, rest_are) =
    parted (by_reader is.front) (by_reader is.rest) read (next ∷ later)
    (sym (made_append is_by_reader reader_made is.front is.rest)
    ∙ (ap by_reader (sym is.trace_is) ∙ (run.made.by_reader_are ∙ readers))) (omega arith) in
    let second = made_at is_by_reader reader_made is.rest more later next rest_are in
    record {
      front = first.front;
      first = first.step;
      between = first.rest ++ second.front;
      second = second.step;
      rest = second.rest;
      trace_is =
          is.trace_is
          ∙ ((λ i. first.trace_is i ++ second.trace_is i)
          ∙ (append_assoc first.front (first.step ∷ first.rest) (second.front ++ second.step ∷ second.rest)
          ∙ ap (λ (t : Trace). first.front ++ first.step ∷ t)
          (sym (append_assoc first.rest second.front (second.step ∷ second.rest)))));
      first_is = first.step_is;
      second_is = second.step_is;
      wrote_are = first.earlier_are;
      read_are =
          ap by_reader
          (sym (append_assoc first.front (first.step ∷ first.rest) second.front)
          ∙ ap (λ (t : Trace). t ++ second.front) (sym first.trace_is))
          ∙ (made_append is_by_reader reader_made is.front second.front
          ∙ (ap (λ (l : List ReaderMade). by_reader is.front ++ l) second.earlier_are ∙ sym read_are));
    }
