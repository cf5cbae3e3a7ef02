-- Whatever happens in a reading, what is given is what is meant.
use Rattle.std.proofs.Common.{◌≡◌, ℕ, false, List, [], ◌∷◌, ◌++◌, map}
use Rattle.std.proofs.Common.{refl, sym, ap, subst, ◌∙◌, append_assoc, append-nil, length-append, arith, All}
use Rattle.std.proofs.Common.{IsPermutation}
use Rattle.std.proofs.lemmas.Grind.{flat_map-append}
use Rattle.std.proofs.lemmas.List.{map-append, get_or_append_left}
use Rattle.std.proofs.lemmas.List.Elements.{All-nil, All-cons, All-append, All-weaker}
use Rattle.std.proofs.lemmas.List.Sorted.{All-permutation, IsPermutation-refl, IsPermutation-cons}
use Rattle.std.proofs.lemmas.List.Sorted.{IsPermutation-trans}
use Rattle.std.proofs.lemmas.List.Sorted.{IsPermutation-append_left, IsPermutation-append_right}
use Rattle.std.proofs.lemmas.List.Sorted.{IsPermutation-append_comm}
use Rattle.line_follower.specs.declared.lines.Line.{Line}
use Rattle.line_follower.specs.declared.lines.Said.{Said}
use Rattle.line_follower.specs.Order.{is_before, line_of, AreInOrder}
use Rattle.line_follower.specs.Known.{Known, Event, known_after, IsFinal}
use Rattle.line_follower.specs.Following.{Following, nothing_read, lines_read, Gives, GivesFinal, NoneIsFinal}
use Rattle.line_follower.specs.Runs.{GivesAll, Follows, IsRun, IsReading, all_read, known_of, IsUpToDate}
use Rattle.line_follower.specs.Runs.{AreUpToDate, AreSaidRightly, events_of, given_in, IsFollowed, in_order_of}
use Rattle.line_follower.proofs.Growing.{stays_final, one_more_known}
use Rattle.line_follower.proofs.Saying.{IsLast, first_is_last, all_said, said_on, not_late_in_order}

-- ---- what is given after one event

pub gives_of : {T : Type 0} (old : Following T) (said : List (Said T)) (new : Following T) → GivesAll GivesFinal old
    said new
    → GivesAll Gives old said new
gives_of old [] new gives = gives
gives_of old (one ∷ others) new gives = (gives.0, gives.1.gives, gives_of gives.0 others new gives.2)

same_known : {T : Type 0} (old : Following T) (said : List (Said T)) (new : Following T) → GivesAll Gives old said new
    → new.known ≡ old.known
same_known {T} old [] new gives = ap (λ (state : Following T). state.known) (sym gives)
same_known old (one ∷ others) new gives = same_known gives.0 others new gives.2 ∙ gives.1.known

abbrev pub AreFinal : {T : Type 0} → Known → List (Line T) → Type 0
AreFinal known lines = All (λ line. IsFinal known.cpus line.place) lines

all_final : {T : Type 0} (old : Following T) (said : List (Said T)) (new : Following T) → GivesAll GivesFinal old said
    new
    → AreFinal old.known (map line_of said)
all_final {T} old [] new gives = All-nil (λ (line : Line T). IsFinal old.known.cpus line.place)
all_final {T} old (one ∷ others) new gives =
    All-cons (λ (line : Line T). IsFinal old.known.cpus line.place) (line_of one) (map line_of others) gives.1.is_final
    (subst (λ (known : Known). AreFinal known (map line_of others)) gives.1.gives.known
    (all_final gives.0 others new gives.2))

waits : {T : Type 0} (old : Following T) (said : List (Said T)) (new : Following T) → GivesAll Gives old said new
    → IsPermutation old.waiting (map line_of said ++ new.waiting)
waits {T} old [] new gives =
    subst (λ (state : Following T). IsPermutation old.waiting state.waiting) gives (IsPermutation-refl old.waiting)
waits old (one ∷ others) new gives =
    IsPermutation-trans old.waiting (line_of one ∷ gives.0.waiting)
    (line_of one ∷ (map line_of others ++ new.waiting)) gives.1.waiting
    (IsPermutation-cons (line_of one) gives.0.waiting (map line_of others ++ new.waiting)
    (waits gives.0 others new gives.2))

all_front : {X : Type 0} (P : X → Type 0) (xs ys : List X) → All P (xs ++ ys) → All P xs
all_front P xs ys h = λ k d lt.
    let more = length-append xs ys in
    subst P (get_or_append_left xs ys d k lt) (h k d (omega arith))

given_in_order : {T : Type 0} (old : Following T) (said : List (Said T)) (new : Following T)
    → GivesAll Gives old said new
    → AreInOrder (map line_of said)
given_in_order old [] new gives = tt
given_in_order {T} old (one ∷ others) new gives = (
  all_front (λ (line : Line T). is_before line.place (line_of one).place ≡ false) (map line_of others) new.waiting
      (All-permutation (λ (line : Line T). is_before line.place (line_of one).place ≡ false) gives.0.waiting
      (map line_of others ++ new.waiting) (waits gives.0 others new gives.2) gives.1.first),
  given_in_order gives.0 others new gives.2,
)

-- ---- how a state stands after events

pub record Stands {T : Type 0} (count : ℕ) (events : List (Event T)) (given : List (Said T)) (state : Following T) :
    Type 0 where
  pub known_is : state.known ≡ known_of count events
  pub whole : IsPermutation (all_read events) (map line_of given ++ state.waiting)
  pub final : AreFinal state.known (map line_of given)
  pub is_last : IsLast (map line_of given) state.last

pub at_start : {T : Type 0} (count : ℕ) → Stands {T = T} count [] [] (nothing_read count)
at_start {T} count = record {
  known_is = refl;
  whole = IsPermutation-refl [];
  final = All-nil (λ (line : Line T). IsFinal (known_of {T = T} count []).cpus line.place);
  is_last = first_is_last;
}

-- the lines of one more event
moved_on : {X : Type 0} (read more given said old taken new : List X) → IsPermutation read (given ++ old)
    → IsPermutation (more ++ old) taken
    → IsPermutation taken (said ++ new)
    → IsPermutation (read ++ more) ((given ++ said) ++ new)
moved_on {X} read more given said old taken new whole takes gives =
    let first : IsPermutation (read ++ more) ((given ++ old) ++ more) =
    IsPermutation-append_left more read (given ++ old) whole in
    let second : IsPermutation (old ++ more) (said ++ new) =
    IsPermutation-trans (old ++ more) (more ++ old) (said ++ new) (IsPermutation-append_comm old more)
    (IsPermutation-trans (more ++ old) taken (said ++ new) takes gives) in
    let third : IsPermutation (given ++ (old ++ more)) (given ++ (said ++ new)) =
    IsPermutation-append_right given (old ++ more) (said ++ new) second in
    let fourth : IsPermutation ((given ++ old) ++ more) (given ++ (said ++ new)) =
    subst (λ (xs : List X). IsPermutation xs (given ++ (said ++ new))) (sym (append_assoc given old more)) third in
    subst (IsPermutation (read ++ more)) (sym (append_assoc given said new))
    (IsPermutation-trans (read ++ more) ((given ++ old) ++ more) (given ++ (said ++ new)) first fourth)

one_more_read : {T : Type 0} (events : List (Event T)) (event : Event T)
    → all_read (events ++ event ∷ []) ≡ all_read events ++ lines_read event
one_more_read {T} events event =
    flat_map-append lines_read events (event ∷ [])
    ∙ ap (λ (lines : List (Line T)). all_read events ++ lines) (append-nil (lines_read event))

pub one_more_stands : {T : Type 0} (count : ℕ) (events : List (Event T)) (given : List (Said T)) (old : Following T)
    (event : Event T) (said : List (Said T)) (new : Following T)
    → Stands count events given old
    → Follows old event said new
    → Stands count (events ++ event ∷ []) (given ++ said) new
one_more_stands {T} count events given old event said new stands follows =
    let taken = follows.taken in
    let gives : GivesAll Gives taken said new = gives_of taken said new follows.gives in
    let known : new.known ≡ known_after old.known event = same_known taken said new gives ∙ follows.takes.known in
    let lines : map line_of (given ++ said) ≡ map line_of given ++ map line_of said = map-append line_of given said in
    record {
      known_is =
          known ∙ ap (λ (k : Known). known_after k event) stands.known_is
          ∙ sym (one_more_known (known_of {T = T} count []) events event);
      whole =
          subst (λ (read : List (Line T)). IsPermutation read (map line_of (given ++ said) ++ new.waiting))
          (sym (one_more_read events event))
          (subst (λ (all : List (Line T)). IsPermutation (all_read events ++ lines_read event) (all ++ new.waiting))
          (sym lines)
          (moved_on (all_read events) (lines_read event) (map line_of given) (map line_of said) old.waiting
          taken.waiting
          new.waiting stands.whole follows.takes.waiting (waits taken said new gives)));
      final =
          subst (AreFinal new.known) (sym lines)
          (All-append (λ (line : Line T). IsFinal new.known.cpus line.place) (map line_of given) (map line_of said)
          (subst (λ (k : Known). AreFinal k (map line_of given)) (sym known)
          (All-weaker (λ (line : Line T). IsFinal old.known.cpus line.place)
          (λ (line : Line T). IsFinal (known_after old.known event).cpus line.place)
          (λ line final. stays_final old.known event line.place final) (map line_of given) stands.final))
          (subst (λ (k : Known). AreFinal k (map line_of said)) (sym (same_known taken said new gives))
          (all_final taken said new follows.gives)));
      is_last =
          subst (λ (all : List (Line T)). IsLast all new.last) (sym lines)
          (all_said (map line_of given) taken said new
          (subst (IsLast (map line_of given)) (sym follows.takes.last) stands.is_last) gives).is_last;
    }

up_to_date : {T : Type 0} (count : ℕ) (events : List (Event T)) (given : List (Said T)) (state : Following T)
    → Stands count events given state
    → NoneIsFinal state
    → IsUpToDate count events given
up_to_date {T} count events given state stands none = record {
  waiting = state.waiting;
  whole = stands.whole;
  final = subst (λ (k : Known). AreFinal k (map line_of given)) stands.known_is stands.final;
  not_final =
      subst (λ (k : Known). All (λ (line : Line T). IsFinal k.cpus line.place → ⊥) state.waiting) stands.known_is none;
}

-- ---- all steps

record Ran {T : Type 0} (count : ℕ) (before : List (Event T)) (given : List (Said T))
    (steps : List (Event T × List (Said T)))
    (new : Following T) : Type 0 where
  up_to_date : AreUpToDate count before given steps
  said : AreSaidRightly (map line_of given) (given_in steps)
  stands : Stands count (before ++ events_of steps) (given ++ given_in steps) new

all_run : {T : Type 0} (count : ℕ) (before : List (Event T)) (given : List (Said T))
    (steps : List (Event T × List (Said T)))
    (old new : Following T)
    → Stands count before given old
    → IsRun old steps new
    → Ran count before given steps new
all_run {T} count before given [] old new stands run = record {
  up_to_date = tt;
  said = tt;
  stands =
      subst (λ (events : List (Event T)). Stands count events (given ++ []) new) (sym (append-nil before))
      (subst (λ (said : List (Said T)). Stands count before said new) (sym (append-nil given))
      (subst (Stands count before given) run stands));
}
all_run {T} count before given (step ∷ steps) old new stands run =
    let between = run.0 in
    let follows : Follows old step.0 step.1 between = run.1 in
    let taken = follows.taken in
    let gives : GivesAll Gives taken step.1 between = gives_of taken step.1 between follows.gives in
    let mid : Stands count (before ++ step.0 ∷ []) (given ++ step.1) between =
    one_more_stands count before given old step.0 step.1 between stands follows in
    let rest : Ran count (before ++ step.0 ∷ []) (given ++ step.1) steps new =
    all_run count (before ++ step.0 ∷ []) (given ++ step.1) steps between new mid run.2 in
    record {
      up_to_date = (
        up_to_date count (before ++ step.0 ∷ []) (given ++ step.1) between mid follows.none,
        given_in_order taken step.1 between gives,
        rest.up_to_date,
      );
      said =
          said_on (map line_of given) step.1 (given_in steps)
          (all_said (map line_of given) taken step.1 between
          (subst (IsLast (map line_of given)) (sym follows.takes.last) stands.is_last) gives).rightly
          (subst (λ (lines : List (Line T)). AreSaidRightly lines (given_in steps)) (map-append line_of given step.1)
          rest.said);
      stands =
          subst (λ (events : List (Event T)). Stands count events (given ++ (step.1 ++ given_in steps)) new)
          (append_assoc before (step.0 ∷ []) (events_of steps))
          (subst (λ (said : List (Said T)). Stands count ((before ++ step.0 ∷ []) ++ events_of steps) said new)
          (append_assoc given step.1 (given_in steps)) rest.stands);
    }

-- whatever happens
pub all_is_followed : {T : Type 0} (count : ℕ) (steps : List (Event T × List (Said T))) (rest : List (Said T))
    → IsReading count steps rest
    → IsFollowed count steps rest
all_is_followed {T} count steps rest reading =
    let ran : Ran count [] [] steps reading.end =
    all_run count [] [] steps (nothing_read count) reading.end (at_start count) reading.run in
    let stands : Stands count (events_of steps) (given_in steps) reading.end = ran.stands in
    let left : IsPermutation reading.end.waiting (map line_of rest) =
    subst (IsPermutation reading.end.waiting) (append-nil (map line_of rest))
    (subst (λ (waiting : List (Line T)). IsPermutation reading.end.waiting (map line_of rest ++ waiting)) reading.none
    (waits reading.end rest reading.left reading.gives)) in
    record {
      up_to_date = ran.up_to_date;
      whole =
          subst (IsPermutation (all_read (events_of steps))) (sym (map-append line_of (given_in steps) rest))
          (IsPermutation-trans (all_read (events_of steps)) (map line_of (given_in steps) ++ reading.end.waiting)
          (map line_of (given_in steps) ++ map line_of rest) stands.whole
          (IsPermutation-append_right (map line_of (given_in steps)) reading.end.waiting (map line_of rest) left));
      said =
          said_on [] (given_in steps) rest ran.said
          (all_said (map line_of (given_in steps)) reading.end rest reading.left stands.is_last reading.gives).rightly;
      rest_in_order = given_in_order reading.end rest reading.left reading.gives;
    }

pub in_order_unless_late : {T : Type 0} (count : ℕ) (steps : List (Event T × List (Said T))) (rest : List (Said T))
    → IsFollowed count steps rest
    → AreInOrder (in_order_of (given_in steps ++ rest))
in_order_unless_late count steps rest followed = not_late_in_order [] (given_in steps ++ rest) followed.said
