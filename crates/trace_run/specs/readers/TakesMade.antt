-- What takes, one after the other, make of a reader's exchanges with its ring.
use Rattle.std.specs.Prelude.{◌≡◌, List, [], ◌∷◌, ◌++◌, map}
use Rattle.trace_model.specs.Ring.{TakenFill}
use Rattle.trace_model.specs.Steps.{reads, Answer, reading, empty, moving, page_taken, Exchange}
use Rattle.ring_steps.specs.Views.{Reading}

-- the exchanges that the reader of this part has made, in order
abbrev pub reads_in : Reading → List Exchange
reads_in r = map (λ made. made.exchange) r.made

-- steps of a take that are answered by reading on, and nothing else
abbrev pub AreReadingOn : List Exchange → Type 0
AreReadingOn [] = Unit {0}
AreReadingOn (x ∷ exchanges) = (x ≡ record { event = reads; answer = reading }) × AreReadingOn exchanges

-- the answer is one of a take, with this page, or without one
abbrev pub AnswersPages : Answer → List TakenFill → Type 0
AnswersPages (page_taken t) pages = pages ≡ t ∷ []
AnswersPages (empty done) pages = pages ≡ []
AnswersPages (moving fill) pages = pages ≡ []
AnswersPages answer pages = ⊥

-- The exchanges are those of takes, one take after the other, and these are the pages that they answered, in order. A
-- take reads on, any number of times, and then a step has its answer; or it has no answer.
pub data AreTakes : List Exchange → List TakenFill → Type 0 where
  no_take : AreTakes [] []
  answered : (made : List Exchange) (taken : List TakenFill) (looks : List Exchange) (answer : Answer)
      (pages : List TakenFill)
      → AreTakes made taken
      → AreReadingOn looks
      → AnswersPages answer pages
      → AreTakes (made ++ (looks ++ record { event = reads; answer = answer } ∷ [])) (taken ++ pages)
  put_off : (made : List Exchange) (taken : List TakenFill) (looks : List Exchange)
      → AreTakes made taken
      → AreReadingOn looks
      → AreTakes (made ++ looks) taken
