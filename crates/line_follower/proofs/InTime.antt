-- No line is late if each comes in time.
use Rattle.std.proofs.Common.{◌≡◌, ⊎_elim, ℕ, ◌<◌, ◌≤◌, true, false, Bool, if◌then◌else◌, List, [], ◌∷◌, ◌++◌}
use Rattle.std.proofs.Common.{map, get_or, refl, sym, subst, ◌∙◌, arith, All}
use Rattle.std.specs.List.{Contains}
use Rattle.std.proofs.lemmas.Bool.{cases_lt}
use Rattle.std.proofs.lemmas.List.Elements.{All-nil, All-cons, All-head, All-append, All-weaker, All-contains}
use Rattle.std.proofs.lemmas.List.Elements.{Contains-append_left}
use Rattle.std.proofs.lemmas.List.Sorted.{All-permutation, IsPermutation-sym, Contains-permutation}
use Rattle.line_follower.specs.declared.lines.Place.{Place}
use Rattle.line_follower.specs.declared.lines.Line.{Line}
use Rattle.line_follower.specs.declared.lines.Said.{Said}
use Rattle.line_follower.specs.declared.lines.Said.TheVariants.{InOrder, Late}
use Rattle.line_follower.specs.Order.{is_before, line_of, NoneIsBefore}
use Rattle.line_follower.specs.Known.{Known, Event, page, quiet, ended, unknown, IsUpTo, IsFinal}
use Rattle.line_follower.specs.Following.{Following, nothing_read, lines_read, Takes, Gives}
use Rattle.line_follower.specs.Runs.{GivesAll, Follows, IsRun, IsReading, all_read, known_of, events_of, given_in}
use Rattle.line_follower.specs.Runs.{IsNotLate, ComesInTime, ComeInTime, IsInTime, AreInTime}
use Rattle.line_follower.proofs.Orders.{not_before_later, not_before_at_once}
use Rattle.line_follower.proofs.Runs.{gives_of, Stands, at_start, one_more_stands}

-- ---- what is given

not_late_by : {T : Type 0} (late : Bool) (line : Line T) → late ≡ false → IsNotLate
    (if late then Late line else InOrder line)
not_late_by true line h = let wrong : true ≡ false = h in cc
not_late_by false line h = tt

last_by : (late : Bool) (last place : Place) → late ≡ false → (if late then last else place) ≡ place
last_by true last place h = let wrong : true ≡ false = h in cc
last_by false last place h = refl

record AreGivenInTime {T : Type 0} (said : List (Said T)) (new : Following T) : Type 0 where
  each : All IsNotLate said
  waiting : NoneIsBefore new.waiting new.last

given_in_time : {T : Type 0} (old : Following T) (said : List (Said T)) (new : Following T)
    → NoneIsBefore old.waiting old.last
    → GivesAll Gives old said new
    → AreGivenInTime said new
given_in_time {T} old [] new none gives = record {
  each = All-nil IsNotLate;
  waiting = subst (λ (state : Following T). NoneIsBefore state.waiting state.last) gives none;
}
given_in_time {T} old (one ∷ others) new none gives =
    let between = gives.0 in
    let step : Gives old one between = gives.1 in
    let line = line_of one in
    let not_before : is_before line.place old.last ≡ false =
    All-head (λ (l : Line T). is_before l.place old.last ≡ false) line between.waiting
    (All-permutation (λ (l : Line T). is_before l.place old.last ≡ false) old.waiting (line ∷ between.waiting)
    step.waiting none) in
    let last : between.last ≡ line.place =
    step.last ∙ last_by (is_before line.place old.last) old.last line.place not_before in
    let rest = given_in_time between others new
    (subst (NoneIsBefore between.waiting) (sym last) step.first) gives.2 in
    record {
      each =
          All-cons IsNotLate one others
          (subst IsNotLate (sym step.said_is) (not_late_by (is_before line.place old.last) line not_before)) rest.each;
      waiting = rest.waiting;
    }

-- ---- what is read

-- a line that comes in time isn't before a place that is final, at which a line was read
not_before_final : {T : Type 0} (known : Known) (read : List (Line T)) (cpu : ℕ) (line earlier : Line T)
    → ComesInTime known read cpu line
    → Contains read earlier
    → IsUpTo earlier.place (get_or known.cpus cpu unknown).bound.0 cpu
    → is_before line.place earlier.place ≡ false
not_before_final known read cpu line earlier in_time has up =
    let own = in_time.of_cpu in
    let from = in_time.from_bound in
    ⊎_elim
    (λ (lt : earlier.place.moment.0 < (get_or known.cpus cpu unknown).bound.0).
    not_before_later earlier.place line.place (omega arith))
    (λ (tie : (earlier.place.moment.0 ≡ (get_or known.cpus cpu unknown).bound.0) × (earlier.place.cpu.0 ≤ cpu)).
    ⊎_elim
    (λ (later : earlier.place.moment.0 < line.place.moment.0). not_before_later earlier.place line.place later)
    (λ (at_once : line.place.moment.0 ≤ earlier.place.moment.0).
    ⊎_elim
    (λ (other : earlier.place.cpu.0 < cpu).
    not_before_at_once earlier.place line.place (omega arith) (omega arith))
    (λ (same : cpu ≤ earlier.place.cpu.0). in_time.from_read earlier has (omega arith))
    (cases_lt earlier.place.cpu.0 cpu))
    (cases_lt earlier.place.moment.0 line.place.moment.0))
    up

read_in_time : {T : Type 0} (count : ℕ) (events : List (Event T)) (given : List (Said T)) (state : Following T)
    (cpu : ℕ)
    (lines : List (Line T))
    → Stands count events given state
    → ComeInTime (known_of count events) (all_read events) cpu lines
    → NoneIsBefore lines state.last
read_in_time {T} count events given state cpu lines stands in_time =
    let known = known_of count events in
    ⊎_elim
    (λ (none : (p : Place) → is_before p state.last ≡ false).
    All-weaker (ComesInTime known (all_read events) cpu) (λ (line : Line T). is_before line.place state.last ≡ false)
    (λ line h. none line.place) lines in_time.each)
    (λ (one : (line : Line T) × Contains (map line_of given) line × (line.place ≡ state.last)).
    let has : Contains (all_read events) one.0 =
    Contains-permutation (map line_of given ++ state.waiting) (all_read events) one.0
    (IsPermutation-sym (all_read events) (map line_of given ++ state.waiting) stands.whole)
    (Contains-append_left (map line_of given) state.waiting one.0 one.1) in
    let final : IsFinal known.cpus one.0.place =
    subst (λ (k : Known). IsFinal k.cpus one.0.place) stands.known_is
    (All-contains (λ (line : Line T). IsFinal state.known.cpus line.place) (map line_of given) one.0 stands.final
    one.1) in
    subst (NoneIsBefore lines) one.2
    (All-weaker (ComesInTime known (all_read events) cpu) (λ (line : Line T). is_before line.place one.0.place ≡ false)
    (λ line h. not_before_final known (all_read events) cpu line one.0 h has
    (final cpu in_time.there unknown in_time.is_open)) lines in_time.each))
    stands.is_last.one

event_in_time : {T : Type 0} (count : ℕ) (events : List (Event T)) (given : List (Said T)) (state : Following T)
    (event : Event T)
    → Stands count events given state
    → IsInTime (known_of count events) (all_read events) event
    → NoneIsBefore (lines_read event) state.last
event_in_time count events given state (page cpu lines) stands in_time =
    read_in_time count events given state cpu lines stands in_time
event_in_time {T} count events given state (quiet cpu) stands in_time =
    All-nil (λ (line : Line T). is_before line.place state.last ≡ false)
event_in_time {T} count events given state (ended cpu) stands in_time =
    All-nil (λ (line : Line T). is_before line.place state.last ≡ false)

taken_in_time : {T : Type 0} (old : Following T) (event : Event T) (new : Following T)
    → NoneIsBefore old.waiting old.last
    → NoneIsBefore (lines_read event) old.last
    → Takes old event new
    → NoneIsBefore new.waiting new.last
taken_in_time {T} old event new waiting read takes =
    subst (NoneIsBefore new.waiting) (sym takes.last)
    (All-permutation (λ (line : Line T). is_before line.place old.last ≡ false) (lines_read event ++ old.waiting)
    new.waiting takes.waiting
    (All-append (λ (line : Line T). is_before line.place old.last ≡ false) (lines_read event) old.waiting read waiting))

-- ---- all steps

run_in_time : {T : Type 0} (count : ℕ) (before : List (Event T)) (given : List (Said T))
    (steps : List (Event T × List (Said T))) (old new : Following T)
    → Stands count before given old
    → NoneIsBefore old.waiting old.last
    → IsRun old steps new
    → AreInTime count before (events_of steps)
    → AreGivenInTime (given_in steps) new
run_in_time {T} count before given [] old new stands none run in_time = record {
  each = All-nil IsNotLate;
  waiting = subst (λ (state : Following T). NoneIsBefore state.waiting state.last) run none;
}
run_in_time {T} count before given (step ∷ steps) old new stands none run in_time =
    let between = run.0 in
    let follows : Follows old step.0 step.1 between = run.1 in
    let taken = follows.taken in
    let now : AreGivenInTime step.1 between =
    given_in_time taken step.1 between
    (taken_in_time old step.0 taken none (event_in_time count before given old step.0 stands in_time.0) follows.takes)
    (gives_of taken step.1 between follows.gives) in
    let rest : AreGivenInTime (given_in steps) new =
    run_in_time count (before ++ step.0 ∷ []) (given ++ step.1) steps between new
    (one_more_stands count before given old step.0 step.1 between stands follows) now.waiting run.2 in_time.1 in
    record { each = All-append IsNotLate step.1 (given_in steps) now.each rest.each; waiting = rest.waiting }

pub none_late_in_time : {T : Type 0} (count : ℕ) (steps : List (Event T × List (Said T))) (rest : List (Said T))
    → IsReading count steps rest
    → AreInTime count [] (events_of steps)
    → All IsNotLate (given_in steps ++ rest)
none_late_in_time {T} count steps rest reading in_time =
    let start : Following T = nothing_read count in
    let ran : AreGivenInTime (given_in steps) reading.end =
    run_in_time count [] [] steps start reading.end (at_start count)
    (All-nil (λ (line : Line T). is_before line.place start.last ≡ false)) reading.run in_time in
    let left : AreGivenInTime rest reading.left =
    given_in_time reading.end rest reading.left ran.waiting reading.gives in
    All-append IsNotLate (given_in steps) rest ran.each left.each
