-- What steps of the reader do to a lane as a value.
use Rattle.std.specs.Prelude.{◌≡◌, ◌≢◌, ℕ, ◌+◌, ◌^◌, ◌<◌, ◌≤◌, Bool, true, false, List, [], ◌∷◌, ◌++◌, length, Some}
use Rattle.std.specs.Prelude.{All}
use Rattle.trace_model.specs.declared.limits.TheConstants.{MAX_CPUS}
use Rattle.trace_model.specs.Ring.{Core}
use Rattle.trace_model.specs.Steps as model
use Rattle.trace_model.specs.Steps.{reads, reading, Step, Exchange}
use Rattle.world_model.specs.Lanes.{Lane, lane_behind, ReaderRun, HasTakeAnswer, IsRead}
use Rattle.page_image.specs.Contents.{Contents, IsPage, records_of_page}
use Rattle.page_numbers.specs.Parcels.{fitted_parcel}
use Rattle.ring_frames.specs.declared.answer.Answer.{Answer}
use Rattle.ring_frames.specs.declared.answer.Answer.TheVariants.{Pushed, Going, Reserved, Ended, Gone, Refused, Looking}
use Rattle.ring_frames.specs.declared.answer.Answer.TheVariants.{Empty, Moving, Taken, Wished}
use Rattle.script_replay.specs.Value.{LaneValue}

-- the reader makes one step, and its take continues or not
pub record ReadsOnce (goes_on : Bool) (n size : ℕ) (before : Lane) (exchanges : List Exchange) (after : Lane)
    : Type 0 where
  pub answer : model.Answer
  pub exchanges_are : exchanges ≡ record { event = reads; answer = answer } ∷ []
  pub core : Core
  pub step : Step n size before.core reads answer core
  pub after_is : after ≡ lane_behind before core
  pub goes : goes_on ≡ true → answer ≡ reading
  pub answers : goes_on ≡ false → answer ≢ reading

-- the reader makes steps until `count` are made or its take is answered
abbrev pub ReadsOn : (count : ℕ) → (n size : ℕ) → Lane → List Exchange → Lane → Type 0
ReadsOn count n size before exchanges after = ReaderRun n size before exchanges after × IsRead count exchanges

-- Part of that: `steps` steps are made, and the take continues or is answered.
pub record ReadsSteps (steps : ℕ) (goes_on : Bool) (n size : ℕ) (before : Lane) (exchanges : List Exchange)
    (after : Lane)
    : Type 0 where
  pub run : ReaderRun n size before exchanges after
  pub made : length exchanges ≡ steps
  pub goes : goes_on ≡ true → All (λ x. x.answer ≡ reading) exchanges
  pub answers : goes_on ≡ false → HasTakeAnswer exchanges

-- what an answer of the reader brings may be kept
abbrev pub MayKeep : (cpu : ℕ) → Answer → Type 0
MayKeep cpu Pushed = ⊥
MayKeep cpu Going = ⊥
MayKeep cpu (Reserved number) = ⊥
MayKeep cpu (Ended ended) = ⊥
MayKeep cpu Gone = ⊥
MayKeep cpu (Refused fault) = ⊥
MayKeep cpu (Looking body) = Unit {0}
MayKeep cpu (Empty done body) = Unit {0}
MayKeep cpu (Moving fill body) = Unit {0}
MayKeep cpu (Taken page missed) =
    IsPage page × (cpu < MAX_CPUS) × (page.first + length (records_of_page page) < 2 ^ 64) × (missed ≤ page.first)
MayKeep cpu (Wished fill) = ⊥

-- the page is kept as a parcel of this CPU, in as many bytes as its data has, and a body of its size for the next take
abbrev pub KeepsPage : (cpu : ℕ) → Contents → (missed : ℕ) → LaneValue → LaneValue → Type 0
KeepsPage cpu page missed old new =
    (body : List ℕ)
    × (length body ≡ page.size)
    × (new ≡ record old { body = Some body; taken = old.taken ++ fitted_parcel cpu page missed ∷ [] })

-- it is kept
abbrev pub Keeps : (cpu : ℕ) → Answer → (goes_on : Bool) → LaneValue → LaneValue → Type 0
Keeps cpu Pushed goes_on old new = ⊥
Keeps cpu Going goes_on old new = ⊥
Keeps cpu (Reserved number) goes_on old new = ⊥
Keeps cpu (Ended ended) goes_on old new = ⊥
Keeps cpu Gone goes_on old new = ⊥
Keeps cpu (Refused fault) goes_on old new = ⊥
Keeps cpu (Looking body) goes_on old new = (goes_on ≡ true) × (new ≡ record old { body = Some body })
Keeps cpu (Empty done body) goes_on old new = (goes_on ≡ false) × (new ≡ record old { body = Some body })
Keeps cpu (Moving fill body) goes_on old new = (goes_on ≡ false) × (new ≡ record old { body = Some body })
Keeps cpu (Taken page missed) goes_on old new = (goes_on ≡ false) × KeepsPage cpu page missed old new
Keeps cpu (Wished fill) goes_on old new = ⊥
