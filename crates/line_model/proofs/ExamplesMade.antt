-- The examples of lines.
use Rattle.std.proofs.Common.{ℕ, max, ◌<◌, Bool, true, false, List, [], ◌∷◌, length, Some, refl, ap, inl, inr, arith}
use Rattle.std.specs.Prelude.{if◌then◌else◌, nat_le}
use Rattle.std.proofs.lemmas.Bool.{lt-leb, and_left}
use Rattle.trace_model.specs.Record.{Record}
use Rattle.trace_model.specs.Words.{padded}
use Rattle.text_model.specs.Script.{write}
use Rattle.line_model.proofs.WrittenLines.{whole_lines_commit}
use Rattle.line_model.proofs.WriterHistories.{none_formed}
use Rattle.trace_model.specs.History.{HistoryEvent, push, reserve, leave}
use Rattle.trace_model.specs.Window.{acts, first_window}
use Rattle.line_model.specs.Lines.{LineState, first_state, IsRefusedPush, IsPush, MayGo, stays_on, goes, TopPart}
use Rattle.line_model.specs.Lines.{begins, begins_none, writes}
use Rattle.line_model.specs.LineExamples.{OneWrite, RefusedBegin, BeginAndSteps, NestedFrames, DroppedWrite}
use Rattle.line_model.specs.LineExamples.{RecordsOfThree}

abbrev four : List ℕ
four = 1 ∷ 2 ∷ 3 ∷ 4 ∷ []

abbrev made : List HistoryEvent
made = push 7 4 ∷ reserve ∷ leave (Some four) ∷ []

-- after the push; after the leave; and at rest
abbrev pushed_state : LineState
pushed_state =
    record {
      history = push 7 4 ∷ [];
      window = first_window 0;
      frames = record { payload = four; stepped = false } ∷ [];
      finishing = false;
    }

abbrev left_state : LineState
left_state = record { history = made; window = first_window 0; frames = []; finishing = true }

abbrev rest_state : LineState
rest_state = record left_state { finishing = false }

fits_in : IsRefusedPush 32 (first_state 0) 7 4 → ⊥
fits_in (inl deep) = omega arith
fits_in (inr (inl (inl long))) = omega arith
fits_in (inr (inl (inr long))) = omega arith
fits_in (inr (inr late)) = omega arith

is_push : IsPush 2 (push 7 4) four (first_state 0) (acts (push 7 4) ∷ []) pushed_state
is_push = record { acts_one = refl; window = (tt, refl); after_is = refl }

top_part : (after : LineState)
    → MayGo left_state after
    → TopPart 2 32 pushed_state (acts reserve ∷ acts (leave (Some four)) ∷ []) after
top_part after goes_on = record {
  first = λ fresh r wants fits. (leave (Some four) ∷ [], refl);
  reached = left_state;
  run = (refl, (λ none. cc), tt, (refl, refl, tt, refl));
  goes = goes_on;
}

pub one_write : OneWrite
one_write = record {
  by_lines = acts (push 7 4) ∷ acts reserve ∷ acts (leave (Some four)) ∷ [];
  behind = rest_state;
  parts = (
    acts (push 7 4) ∷ acts reserve ∷ acts (leave (Some four)) ∷ [],
    [],
    rest_state,
    refl,
    writes (acts (push 7 4) ∷ []) (acts reserve ∷ acts (leave (Some four)) ∷ []) pushed_state fits_in refl is_push
        record { top = top_part rest_state (goes refl refl refl refl); is_gone = omega arith },
    (refl, refl),
  );
  count = 0;
  by_rest = [];
  last = rest_state;
  rest = (refl, refl);
  none_left = refl;
  history_is = refl;
}

pub refused_begin : (payload : List ℕ) → 32 < length payload → RefusedBegin payload
refused_begin payload long = record {
  by_lines = [];
  behind = first_state 0;
  parts = (
    [],
    [],
    first_state 0,
    refl,
    begins_none (inr (inl (inl long))) record { acts_none = refl; window = refl; after_is = refl },
    (refl, refl),
  );
  count = 0;
  by_rest = [];
  last = first_state 0;
  rest = (refl, refl);
  none_left = refl;
  history_is = refl;
}

-- After `s 2` the frame may be finishing, or popped. Here it is finishing, and is popped by a part as of `f`.
pub begin_and_steps : BeginAndSteps
begin_and_steps = record {
  by_lines = acts (push 7 4) ∷ acts reserve ∷ acts (leave (Some four)) ∷ [];
  behind = left_state;
  parts = (
    acts (push 7 4) ∷ [],
    acts reserve ∷ acts (leave (Some four)) ∷ [],
    pushed_state,
    refl,
    begins fits_in is_push,
    (
      acts reserve ∷ acts (leave (Some four)) ∷ [],
      [],
      left_state,
      refl,
      record { top = top_part left_state (stays_on refl); few = omega arith },
      (refl, refl),
    ),
  );
  count = 1;
  by_rest = [];
  last = rest_state;
  rest = (
    [],
    [],
    rest_state,
    refl,
    record {
      top = record { first = tt; reached = left_state; run = refl; goes = goes refl refl refl refl };
      is_gone = omega arith;
    },
    (refl, refl),
  );
  none_left = refl;
  history_is = refl;
}

-- ---- a nested frame

abbrev other_four : List ℕ
other_four = 5 ∷ 6 ∷ 7 ∷ 8 ∷ []

abbrev two_pushed : LineState
two_pushed =
    record {
      history = push 7 4 ∷ push 9 4 ∷ [];
      window = first_window 0;
      frames = record { payload = other_four; stepped = false } ∷ record { payload = four; stepped = false } ∷ [];
      finishing = false;
    }

abbrev one_left : LineState
one_left =
    record {
      history = push 7 4 ∷ push 9 4 ∷ reserve ∷ leave (Some other_four) ∷ [];
      window = first_window 0;
      frames = record { payload = four; stepped = false } ∷ [];
      finishing = false;
    }

abbrev both_left : LineState
both_left =
    record {
      history = push 7 4 ∷ push 9 4 ∷ reserve ∷ leave (Some other_four) ∷ reserve ∷ leave (Some four) ∷ [];
      window = first_window 0;
      frames = [];
      finishing = true;
    }

abbrev nested_rest : LineState
nested_rest = record both_left { finishing = false }

fits_nested : IsRefusedPush 32 pushed_state 9 4 → ⊥
fits_nested (inl deep) = omega arith
fits_nested (inr (inl (inl long))) = omega arith
fits_nested (inr (inl (inr long))) = omega arith
fits_nested (inr (inr late)) = omega arith

pub nested_frames : NestedFrames
nested_frames = record {
  by_lines = acts (push 7 4) ∷ acts (push 9 4)
      ∷ acts reserve ∷ acts (leave (Some other_four))
      ∷ acts reserve ∷ acts (leave (Some four)) ∷ [];
  behind = nested_rest;
  parts = (
    acts (push 7 4) ∷ [],
    acts (push 9 4) ∷ acts reserve ∷ acts (leave (Some other_four)) ∷ acts reserve ∷ acts (leave (Some four)) ∷ [],
    pushed_state,
    refl,
    begins fits_in is_push,
    (
      acts (push 9 4) ∷ [],
      acts reserve ∷ acts (leave (Some other_four)) ∷ acts reserve ∷ acts (leave (Some four)) ∷ [],
      two_pushed,
      refl,
      begins fits_nested record { acts_one = refl; window = (tt, refl); after_is = refl },
      (
        acts reserve ∷ acts (leave (Some other_four)) ∷ [],
        acts reserve ∷ acts (leave (Some four)) ∷ [],
        one_left,
        refl,
        record {
          top = record {
            first = λ fresh r wants fits. (leave (Some other_four) ∷ [], refl);
            reached = one_left;
            run = (refl, (λ none. cc), tt, (refl, refl, tt, refl));
            goes = stays_on refl;
          };
          is_gone = omega arith;
        },
        (
          acts reserve ∷ acts (leave (Some four)) ∷ [],
          [],
          nested_rest,
          refl,
          record {
            top = record {
              first = λ fresh r wants fits. (leave (Some four) ∷ [], refl);
              reached = both_left;
              run = (refl, (λ none. cc), tt, (refl, refl, tt, refl));
              goes = goes refl refl refl refl;
            };
            is_gone = omega arith;
          },
          (refl, refl),
        ),
      ),
    ),
  );
  count = 0;
  by_rest = [];
  last = nested_rest;
  rest = (refl, refl);
  none_left = refl;
  history_is = refl;
}

-- ---- a record that is dropped

pub no_dropped_write : DroppedWrite → ⊥
no_dropped_write made =
    let none =
    whole_lines_commit 2 32 0 (write 0 7 four ∷ []) [] (omega arith) (tt, tt) (omega arith)
    (none_formed 32).0 (none_formed 32).1 made in
    let z = ap (λ (l : List Record). length l) none in omega arith

pub records_of_three : (payload : List ℕ) → 32 < length payload → RecordsOfThree payload
records_of_three payload long =
    ap (λ (b : Bool).
    record { moment = 7; bytes = four } ∷ record { moment = 7; bytes = 5 ∷ 0 ∷ 0 ∷ 0 ∷ [] }
    ∷ (if b then record { moment = max 9 7; bytes = padded payload } ∷ [] else []))
    (and_left (nat_le (length payload) 32) _ (lt-leb (length payload) 32 long))
