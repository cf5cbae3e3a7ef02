-- What a take adds to the steps of its reader, as a statement: a clause of a function of src/laws.rt.
use Rattle.std.specs.Prelude.{◌≡◌, ◌<◌, ◌⊎◌, ℕ, List, [], ◌∷◌, ◌++◌, length}
use Rattle.trace_model.specs.declared.numbers.FillNo.{FillNo}
use Rattle.trace_model.specs.Steps as model
use Rattle.ring_steps.specs.declared.rule.Shape.{Shape}
use Rattle.ring_steps.specs.Made.{ReaderMade}
use Rattle.ring_steps.specs.Views.{Reading}
use Rattle.ring_shared.specs.declared.take.Take.{Take}
use Rattle.ring_shared.specs.declared.take.Take.TheVariants.{Moving}
use Rattle.ring_shared.specs.Takes.{TakeMeans, most_steps, TakesSteps}

-- steps of a take that are answered by reading on, and nothing else
abbrev pub AreReadOn : List ReaderMade → Type 0
AreReadOn [] = Unit {0}
AreReadOn (one ∷ others) =
    (one.exchange ≡ record { event = model.reads; answer = model.reading }) × AreReadOn others

-- After fewer steps than a take may make there is a last one, whose answer is the take's.
pub record IsLastOf (shape : Shape) (result : Take) (looks last : List ReaderMade) : Type 0 where
  pub few : length looks < most_steps shape
  pub one : ReaderMade
  pub last_is : last ≡ one ∷ []
  pub reported : model.Answer
  pub exchange_is : one.exchange ≡ record { event = model.reads; answer = reported }
  pub reports : TakeMeans shape.size result reported

-- The take has made as many steps as it may, and answers `Moving`; there is no other step.
pub record HasNoLast (shape : Shape) (result : Take) (looks last : List ReaderMade) : Type 0 where
  pub all : length looks ≡ most_steps shape
  pub last_is : last ≡ []
  pub fill : FillNo
  pub back : List ℕ
  pub result_is : result ≡ Moving fill back

-- A take adds its steps to what its reader made, and nothing else: those that are answered by reading on, and then one
-- with the take's answer; or as many as it may make, all of them answered by reading on, if it answers `Moving`.
pub record IsTakeMade (shape : Shape) (before : Reading) (result : Take) (after : Reading) : Type 0 where
  pub looks : List ReaderMade
  pub last : List ReaderMade
  pub read_on : AreReadOn looks
  pub ends_so : HasNoLast shape result looks last ⊎ IsLastOf shape result looks last
  pub made_is : after.made ≡ before.made ++ (looks ++ last)

abbrev pub TakesAreMade : Type 0
TakesAreMade = (shape : Shape) (before : Reading) (result : Take) (after : Reading)
    → TakesSteps shape before result after
    → IsTakeMade shape before result after
