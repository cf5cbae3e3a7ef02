-- What a mark makes of a fleet and of its stream, and what is made of them when a bound is raised. Of the stream it is
-- what `StreamCollector` promises, in one relation for each of its calls.
use Rattle.std.specs.Prelude.{◌≡◌, ◌↔◌, ℕ, ◌<◌, List, IsSome, Result, Some, None, Ok, IfErr, OnOk, OnErr}
use Rattle.parcel_streams.specs.declared.piece.Mark.{Mark}
use Rattle.parcel_streams.specs.declared.piece.Mark.TheVariants.{End as EndMark, Forgotten as ForgottenMark}
use Rattle.parcel_streams.specs.declared.piece.Mark.TheVariants.{Undelivered as UndeliveredMark}
use Rattle.stream_collector.specs.Stream.{Stream, end_of, IsUpToEnd}
use Rattle.stream_collector.specs.GivenUp.{GivesUp, AllGivenUp, IsUndeliveredFault}
use Rattle.stream_collector.specs.Marking.{IsNotOpen, HasEnd, IsEndFault}
use Rattle.stream_collector.specs.Forgetting.{RaisesBound, GivesUpBelow, AllAccounted, IsBoundFault, IsForgetFault}
use Rattle.stream_collector.specs.declared.added.Marked.{Marked}
use Rattle.stream_collector.specs.declared.added.Marked.TheVariants.{New, Known}
use Rattle.stream_collector.specs.declared.fault.MarkFault.{MarkFault}
use Rattle.fleet_collector.specs.Fleet.{known_of, KeepsOthers}
use Rattle.fleet_collector.specs.declared.change.Change.{Change}
use Rattle.fleet_collector.specs.declared.change.Change.TheVariants.{End, Forgotten, Forget, GiveUp, Undelivered}

-- What is said of a stream changes no other one, and the stream is there if that is new. Nothing changes if it was
-- known, nor on a fault.
pub record MarksStream (old new : List (ℕ × Stream)) (stream : ℕ) (result : Result Marked MarkFault) : Type 0 where
  pub unchanged : result ≡ Ok Known → new ≡ old
  pub there : result ≡ Ok New → IsSome (known_of new stream)
  pub others : KeepsOthers old new stream
  pub refused : OnErr result (new ≡ old)

-- ---- the stream

-- the CPU's end is set
pub record SetsEnd (old new : Stream) (cpu count : ℕ) (result : Result Marked MarkFault) : Type 0 where
  pub known : (result ≡ Ok Known) ↔ (end_of old cpu ≡ Some count)
  pub unchanged : result ≡ Ok Known → new ≡ old
  pub first : result ≡ Ok New → end_of old cpu ≡ None
  pub ended : result ≡ Ok New → HasEnd old new cpu count
  pub nothing_beyond : result ≡ Ok New → (number : ℕ) → IsNotOpen old cpu number → number < count
  pub fault : IfErr result (λ fault. IsEndFault old cpu count fault)
  pub refused : OnErr result (new ≡ old)

-- the CPU's bound is raised, and nothing is given up
pub record TakesBound (old new : Stream) (cpu bound : ℕ) (result : Result Marked MarkFault) : Type 0 where
  pub raises : RaisesBound old new cpu bound result
  pub given_up : result ≡ Ok New → new.given_up ≡ old.given_up
  pub fault : IfErr result (λ fault. IsBoundFault old cpu bound fault)

-- the CPU's bound is raised, and all below it was accounted for
pub record ForgetsBelow (old new : Stream) (cpu bound : ℕ) (result : Result Marked MarkFault) : Type 0 where
  pub raises : RaisesBound old new cpu bound result
  pub given_up : result ≡ Ok New → new.given_up ≡ old.given_up
  pub accounted : OnOk result (AllAccounted old cpu bound)
  pub fault : IfErr result (λ fault. IsForgetFault old cpu bound fault)

-- the CPU's bound is raised, and what was unknown below it is given up
pub record LosesBelow (old new : Stream) (cpu bound : ℕ) (result : Result Marked MarkFault) : Type 0 where
  pub raises : RaisesBound old new cpu bound result
  pub given_up : result ≡ Ok New → GivesUpBelow old new.given_up cpu bound
  pub fault : IfErr result (λ fault. IsBoundFault old cpu bound fault)

-- the numbers of a run are given up
pub record MarksUndelivered (old new : Stream) (cpu first end : ℕ) (result : Result Marked MarkFault) : Type 0 where
  pub known : result ≡ Ok Known → AllGivenUp old.given_up cpu first end
  pub new_exactly : result ≡ Ok New → AllGivenUp old.given_up cpu first end → ⊥
  pub unchanged : result ≡ Ok Known → new ≡ old
  pub given_up : result ≡ Ok New → GivesUp old.given_up new.given_up cpu first end
  pub parcels : new.parcels ≡ old.parcels
  pub marks : new.marks ≡ old.marks
  pub within : OnOk result (first < end → IsUpToEnd old cpu end)
  pub fault : IfErr result (λ fault. IsUndeliveredFault old cpu first end fault)
  pub refused : OnErr result (new ≡ old)

-- by the kind of the change
abbrev pub IsChangedBy : Change → (cpu : ℕ) → (old new : Stream) → Result Marked MarkFault → Type 0
IsChangedBy (End count) cpu old new result = SetsEnd old new cpu count.0 result
IsChangedBy (Forgotten bound) cpu old new result = TakesBound old new cpu bound.0 result
IsChangedBy (Forget bound) cpu old new result = ForgetsBelow old new cpu bound.0 result
IsChangedBy (GiveUp bound) cpu old new result = LosesBelow old new cpu bound.0 result
IsChangedBy (Undelivered first end) cpu old new result = MarksUndelivered old new cpu first.0 end.0 result

-- what a mark says, as a change
abbrev pub change_of : Mark → Change
change_of (EndMark count) = End record { 0 = count }
change_of (ForgottenMark bound) = Forgotten record { 0 = bound }
change_of (UndeliveredMark first end) = Undelivered record { 0 = first } record { 0 = end }
