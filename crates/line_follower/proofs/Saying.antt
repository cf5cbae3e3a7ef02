-- A line is late exactly if it is before one that was given before it.
use Rattle.std.proofs.Common.{◌≡◌, ⊎_elim, ◌⊎◌, ℕ, ◌<◌, ◌≤◌, inl, inr, true, false, true≢false, Bool}
use Rattle.std.proofs.Common.{if◌then◌else◌, List, [], ◌∷◌, ◌++◌, map, refl, sym, ap, subst, ◌∙◌}
use Rattle.std.proofs.Common.{append_assoc, append-nil, arith, All}
use Rattle.std.proofs.Common.{Ordering, Equal, Greater}
use Rattle.std.specs.Ordering.{nat_cmp, is_lt, ordering_then}
use Rattle.std.specs.Cmp.{nat_cmp_is}
use Rattle.std.specs.List.{Contains}
use Rattle.std.proofs.lemmas.Bool.{cases_lt}
use Rattle.std.proofs.lemmas.List.Elements.{All-nil, All-cons, All-push, All-weaker, All-contains}
use Rattle.std.proofs.lemmas.List.Elements.{Contains-append_left, Contains-push}
use Rattle.line_follower.specs.declared.lines.Place.{Place}
use Rattle.line_follower.specs.declared.lines.Line.{Line}
use Rattle.line_follower.specs.declared.lines.Said.{Said}
use Rattle.line_follower.specs.declared.lines.Said.TheVariants.{InOrder, Late}
use Rattle.line_follower.specs.Order.{is_before, line_of, said_after, last_of, NoneIsBefore, AreInOrder}
use Rattle.line_follower.specs.Following.{Following, first_place, Gives}
use Rattle.line_follower.specs.Runs.{GivesAll, IsSaidRightly, AreSaidRightly, in_order_of}
use Rattle.line_follower.proofs.Orders.{places_are_ordered}

-- the place is the last in the order of those of these lines, or none is before it and there is no line
pub record IsLast {T : Type 0} (lines : List (Line T)) (last : Place) : Type 0 where
  pub up_to : All (λ line. is_before last line.place ≡ false) lines
  pub one : ((p : Place) → is_before p last ≡ false) ⊎ ((line : Line T) × Contains lines line × (line.place ≡ last))

-- ---- the first place

zero_first : (m : ℕ) (o : Ordering) → is_lt o ≡ false → is_lt (ordering_then (nat_cmp m 0) o) ≡ false
zero_first m o h = ⊎_elim
    (λ (lt : 0 < m). ap (λ r. is_lt (ordering_then r o)) (sym (nat_cmp_is m 0 Greater lt)))
    (λ (le : m ≤ 0). let e : m ≡ 0 = omega arith in
    ap (λ r. is_lt (ordering_then r o)) (sym (nat_cmp_is m 0 Equal e)) ∙ h)
    (cases_lt 0 m)

zero_last : (m : ℕ) → is_lt (nat_cmp m 0) ≡ false
zero_last m = ⊎_elim
    (λ (lt : 0 < m). ap is_lt (sym (nat_cmp_is m 0 Greater lt)))
    (λ (le : m ≤ 0). let e : m ≡ 0 = omega arith in ap is_lt (sym (nat_cmp_is m 0 Equal e)))
    (cases_lt 0 m)

pub none_before_first : (p : Place) → is_before p first_place ≡ false
none_before_first p =
    zero_first p.moment.0 (ordering_then (nat_cmp p.cpu.0 0) (nat_cmp p.number.0 0))
    (zero_first p.cpu.0 (nat_cmp p.number.0 0) (zero_last p.number.0))

pub first_is_last : {T : Type 0} → IsLast {T = T} [] first_place
first_is_last {T} = record {
  up_to = All-nil (λ (line : Line T). is_before first_place line.place ≡ false);
  one = inl none_before_first;
}

-- ---- one more line

by_test : (b : Bool) → (b ≡ true) ⊎ (b ≡ false)
by_test true = inl refl
by_test false = inr refl

not_before_itself : (p : Place) → is_before p p ≡ false
not_before_itself p = ⊎_elim (λ (h : is_before p p ≡ true). places_are_ordered.one_way p p h)
    (λ (h : is_before p p ≡ false). h) (by_test (is_before p p))

-- what isn't before the last isn't before any
not_before_any : {T : Type 0} (lines : List (Line T)) (last place : Place) → IsLast lines last
    → is_before place last ≡ false
    → All (λ line. is_before place line.place ≡ false) lines
not_before_any {T} lines last place is h =
    All-weaker (λ (line : Line T). is_before last line.place ≡ false)
    (λ (line : Line T). is_before place line.place ≡ false)
    (λ line k. places_are_ordered.chain place last line.place h k) lines is.up_to

late_one : {T : Type 0} (lines : List (Line T)) (last place : Place) → IsLast lines last → is_before place last ≡ true
    → (earlier : Line T) × Contains lines earlier × (is_before place earlier.place ≡ true)
late_one {T} lines last place is h = ⊎_elim
    (λ (none : (p : Place) → is_before p last ≡ false). absurd (true≢false (sym h ∙ none place)))
    (λ (one : (line : Line T) × Contains lines line × (line.place ≡ last)).
    (one.0, one.1, ap (is_before place) one.2 ∙ h))
    is.one

rightly_by : {T : Type 0} (before : List (Line T)) (line : Line T) (late : Bool)
    → (late ≡ true → (earlier : Line T) × Contains before earlier × (is_before line.place earlier.place ≡ true))
    → (late ≡ false → All (λ earlier. is_before line.place earlier.place ≡ false) before)
    → IsSaidRightly before (if late then Late line else InOrder line)
rightly_by before line true is_late in_order = is_late refl
rightly_by before line false is_late in_order = in_order refl

said_rightly : {T : Type 0} (before : List (Line T)) (last : Place) (line : Line T) → IsLast before last
    → IsSaidRightly before (said_after last line)
said_rightly before last line is =
    rightly_by before line (is_before line.place last) (late_one before last line.place is)
    (not_before_any before last line.place is)

last_by : {T : Type 0} (lines : List (Line T)) (last place : Place) (late : Bool)
    → (late ≡ true → IsLast lines last)
    → (late ≡ false → IsLast lines place)
    → IsLast lines (if late then last else place)
last_by lines last place true stays moves = stays refl
last_by lines last place false stays moves = moves refl

last_stays : {T : Type 0} (before : List (Line T)) (last : Place) (line : Line T) → IsLast before last
    → is_before line.place last ≡ true
    → IsLast (before ++ line ∷ []) last
last_stays {T} before last line is h = record {
  up_to =
      All-push (λ (l : Line T). is_before last l.place ≡ false) before line is.up_to
      (places_are_ordered.one_way line.place last h);
  one =
      let earlier = late_one before last line.place is h in
      ⊎_elim
      (λ (none : (p : Place) → is_before p last ≡ false). absurd (true≢false (sym h ∙ none line.place)))
      (λ (one : (l : Line T) × Contains before l × (l.place ≡ last)).
      inr (one.0, Contains-append_left before (line ∷ []) one.0 one.1, one.2))
      is.one;
}

last_moves : {T : Type 0} (before : List (Line T)) (last : Place) (line : Line T) → IsLast before last
    → is_before line.place last ≡ false
    → IsLast (before ++ line ∷ []) line.place
last_moves {T} before last line is h = record {
  up_to =
      All-push (λ (l : Line T). is_before line.place l.place ≡ false) before line
      (not_before_any before last line.place is h) (not_before_itself line.place);
  one = inr (line, Contains-push before line, refl);
}

one_more_last : {T : Type 0} (before : List (Line T)) (last : Place) (line : Line T) → IsLast before last
    → IsLast (before ++ line ∷ []) (last_of last line.place)
one_more_last before last line is =
    last_by (before ++ line ∷ []) last line.place (is_before line.place last) (last_stays before last line is)
    (last_moves before last line is)

-- ---- all that is given

pub record AreSaid {T : Type 0} (before : List (Line T)) (said : List (Said T)) (last : Place) : Type 0 where
  pub rightly : AreSaidRightly before said
  pub is_last : IsLast (before ++ map line_of said) last

pub all_said : {T : Type 0} (before : List (Line T)) (old : Following T) (said : List (Said T)) (new : Following T)
    → IsLast before old.last
    → GivesAll Gives old said new
    → AreSaid before said new.last
all_said {T} before old [] new is gives = record {
  rightly = tt;
  is_last =
      subst (λ (state : Following T). IsLast (before ++ []) state.last) gives
      (subst (λ (lines : List (Line T)). IsLast lines old.last) (sym (append-nil before)) is);
}
all_said {T} before old (one ∷ others) new is gives =
    let between = gives.0 in
    let step : Gives old one between = gives.1 in
    let more : IsLast (before ++ line_of one ∷ []) between.last =
    subst (IsLast (before ++ line_of one ∷ [])) (sym step.last) (one_more_last before old.last (line_of one) is) in
    let rest = all_said (before ++ line_of one ∷ []) between others new more gives.2 in
    record {
      rightly = (
        subst (IsSaidRightly before) (sym step.said_is) (said_rightly before old.last (line_of one) is),
        rest.rightly,
      );
      is_last =
          subst (λ (lines : List (Line T)). IsLast lines new.last)
          (append_assoc before (line_of one ∷ []) (map line_of others)) rest.is_last;
    }

pub said_on : {T : Type 0} (before : List (Line T)) (said others : List (Said T)) → AreSaidRightly before said
    → AreSaidRightly (before ++ map line_of said) others
    → AreSaidRightly before (said ++ others)
said_on {T} before [] others rightly more =
    subst (λ (lines : List (Line T)). AreSaidRightly lines others) (append-nil before) more
said_on {T} before (one ∷ said) others rightly more = (
  rightly.0,
  said_on (before ++ line_of one ∷ []) said others rightly.1
      (subst (λ (lines : List (Line T)). AreSaidRightly lines others)
      (sym (append_assoc before (line_of one ∷ []) (map line_of said))) more),
)

-- ---- those that aren't late are in order

none_before_given : {T : Type 0} (line : Line T) (before : List (Line T)) (said : List (Said T))
    → Contains before line
    → AreSaidRightly before said
    → NoneIsBefore (in_order_of said) line.place
none_before_given {T} line before [] has rightly =
    All-nil (λ (other : Line T). is_before other.place line.place ≡ false)
none_before_given {T} line before (InOrder one ∷ said) has rightly =
    All-cons (λ (other : Line T). is_before other.place line.place ≡ false) one (in_order_of said)
    (All-contains (λ (earlier : Line T). is_before one.place earlier.place ≡ false) before line rightly.0 has)
    (none_before_given line (before ++ one ∷ []) said (Contains-append_left before (one ∷ []) line has) rightly.1)
none_before_given {T} line before (Late one ∷ said) has rightly =
    none_before_given line (before ++ one ∷ []) said (Contains-append_left before (one ∷ []) line has) rightly.1

pub not_late_in_order : {T : Type 0} (before : List (Line T)) (said : List (Said T)) → AreSaidRightly before said
    → AreInOrder (in_order_of said)
not_late_in_order before [] rightly = tt
not_late_in_order before (InOrder one ∷ said) rightly = (
  none_before_given one (before ++ one ∷ []) said (Contains-push before one) rightly.1,
  not_late_in_order (before ++ one ∷ []) said rightly.1,
)
not_late_in_order before (Late one ∷ said) rightly = not_late_in_order (before ++ one ∷ []) said rightly.1
