-- The steps of a reading, over lines as they wait.
use Rattle.std.proofs.Common.{◌+◌, ◌≡◌, ℕ, true, false, Bool, if◌then◌else◌, List, [], ◌∷◌, ◌++◌, map, length}
use Rattle.std.proofs.Common.{get_or, refl, sym, ap, subst, ◌∙◌, append_assoc, arith, IsPermutation}
use Rattle.std.specs.BinaryHeap.{IsUpperBound}
use Rattle.std.proofs.lemmas.List.{map-append}
use Rattle.std.proofs.lemmas.List.Elements.{All-from_recursion, All-map, All-weaker}
use Rattle.std.proofs.lemmas.List.Sorted.{IsPermutation-map, IsPermutation-trans}
use Rattle.std.proofs.lemmas.List.Sorted.{IsPermutation-append_right, length_permutation}
use Rattle.line_follower.specs.declared.lines.Place.{Place}
use Rattle.line_follower.specs.declared.lines.Line.{Line}
use Rattle.line_follower.specs.declared.lines.Said.{Said}
use Rattle.line_follower.specs.declared.lines.Said.TheVariants.{InOrder, Late}
use Rattle.line_follower.specs.declared.follower.Waiting.{Waiting}
use Rattle.line_follower.specs.Order.{is_before, line_of, said_after, last_of, NoneIsBefore}
use Rattle.line_follower.specs.Known.{Known, page, known_after, IsFinal}
use Rattle.line_follower.specs.Following.{Following, Takes, Gives, GivesFinal, NoneIsFinal}
use Rattle.line_follower.specs.Runs.{GivesAll}
use Rattle.line_follower.specs.Inside.{waiting_order, line_of_waiting, waiting_of}
use Rattle.line_follower.proofs.Orders.{final_below}

-- ---- lines wait

-- the state in which these wait
abbrev pub state_of : {T : Type 0} → Known → List (Waiting T) → Place → Following T
state_of known items last = record { known = known; waiting = map line_of_waiting items; last = last }

same_lines : {T : Type 0} (lines : List (Line T)) → map line_of_waiting (map waiting_of lines) ≡ lines
same_lines [] = refl
same_lines (line ∷ lines) = ap (λ (others : List (Line _)). line ∷ others) (same_lines lines)

-- the last of the lines waits too
pub one_more_waits : {T : Type 0} (all : List (Waiting T)) (lines rest : List (Line T)) (line : Line T)
    (heap new : List (Waiting T))
    → lines ≡ rest ++ line ∷ []
    → IsPermutation (waiting_of line ∷ heap) new
    → IsPermutation all (map waiting_of lines ++ heap)
    → IsPermutation all (map waiting_of rest ++ new)
one_more_waits {T} all lines rest line heap new is pushed moved =
    let split : map waiting_of lines ++ heap ≡ map waiting_of rest ++ waiting_of line ∷ heap =
    ap (λ (ls : List (Line T)). map waiting_of ls ++ heap) is
    ∙ ap (λ (ws : List (Waiting T)). ws ++ heap) (map-append waiting_of rest (line ∷ []))
    ∙ append_assoc (map waiting_of rest) (waiting_of line ∷ []) heap in
    IsPermutation-trans all (map waiting_of rest ++ waiting_of line ∷ heap) (map waiting_of rest ++ new)
    (subst (IsPermutation all) split moved)
    (IsPermutation-append_right (map waiting_of rest) (waiting_of line ∷ heap) new pushed)

-- a page's lines wait
pub takes_page : {T : Type 0} (known after : Known) (items new : List (Waiting T)) (last : Place) (cpu : ℕ)
    (lines : List (Line T))
    → after ≡ known_after known (page cpu lines)
    → IsPermutation (map waiting_of lines ++ items) new
    → Takes (state_of known items last) (page cpu lines) (state_of after new last)
takes_page {T} known after items new last cpu lines known_is moved = record {
  known = known_is;
  waiting =
      subst (λ (all : List (Line T)). IsPermutation all (map line_of_waiting new))
      (map-append line_of_waiting (map waiting_of lines) items
      ∙ ap (λ (ls : List (Line T)). ls ++ map line_of_waiting items) (same_lines lines))
      (IsPermutation-map line_of_waiting (map waiting_of lines ++ items) new moved);
  last = refl;
}

-- ---- lines are given

either_line : {T : Type 0} (late : Bool) (line : Line T) → line_of (if late then Late line else InOrder line) ≡ line
either_line true line = refl
either_line false line = refl

same_line : {T : Type 0} (last : Place) (line : Line T) → line_of (said_after last line) ≡ line
same_line last line = either_line (is_before line.place last) line

-- the first line that waits is given
pub gives_first : {T : Type 0} (known : Known) (items left : List (Waiting T)) (last new_last : Place)
    (first : Waiting T) (said : Said T)
    → IsPermutation items (first ∷ left)
    → IsUpperBound waiting_order first left
    → said ≡ said_after last (line_of_waiting first)
    → new_last ≡ last_of last first.place.0
    → Gives (state_of known items last) said (state_of known left new_last)
gives_first {T} known items left last new_last first said moved upper said_is last_is =
    let same : line_of said ≡ line_of_waiting first = ap line_of said_is ∙ same_line last (line_of_waiting first) in
    record {
      said_is = said_is ∙ ap (said_after last) (sym same);
      known = refl;
      waiting =
          subst (λ (line : Line T). IsPermutation (map line_of_waiting items) (line ∷ map line_of_waiting left))
          (sym same)
          (IsPermutation-map line_of_waiting items (first ∷ left) moved);
      first =
          subst (λ (line : Line T). NoneIsBefore (map line_of_waiting left) line.place) (sym same)
          (All-map (λ (line : Line T). is_before line.place first.place.0 ≡ false) line_of_waiting left
          (All-from_recursion (λ (w : Waiting T). is_before w.place.0 first.place.0 ≡ false) left upper));
      last = last_is ∙ ap (λ (line : Line T). last_of last line.place) (sym same);
    }

pub gives_final : {T : Type 0} (known : Known) (items left : List (Waiting T)) (last new_last : Place)
    (first : Waiting T) (said : Said T)
    → IsPermutation items (first ∷ left)
    → IsUpperBound waiting_order first left
    → said ≡ said_after last (line_of_waiting first)
    → new_last ≡ last_of last first.place.0
    → IsFinal known.cpus first.place.0
    → GivesFinal (state_of known items last) said (state_of known left new_last)
gives_final {T} known items left last new_last first said moved upper said_is last_is final =
    let same : line_of said ≡ line_of_waiting first = ap line_of said_is ∙ same_line last (line_of_waiting first) in
    record {
      gives = gives_first known items left last new_last first said moved upper said_is last_is;
      is_final = subst (λ (line : Line T). IsFinal known.cpus line.place) (sym same) final;
    }

-- both are the first of the lines that wait
pub same_first : {T : Type 0} (items left : List (Waiting T)) (x w : Waiting T) → x ≡ get_or items 0 x
    → w ≡ get_or items 0 w
    → IsPermutation items (w ∷ left)
    → x ≡ w
same_first [] left x w ex ew moved = absurd (omega (arith, length_permutation [] (w ∷ left) moved))
same_first (y ∷ ys) left x w ex ew moved = ex ∙ sym ew

-- if the first line that waits isn't final, none is
pub none_final : {T : Type 0} (known : Known) (items : List (Waiting T)) (last : Place) (first : Waiting T)
    → IsUpperBound waiting_order first items
    → (IsFinal known.cpus first.place.0 → ⊥)
    → NoneIsFinal (state_of known items last)
none_final {T} known items last first upper not_final =
    All-map (λ (line : Line T). IsFinal known.cpus line.place → ⊥) line_of_waiting items
    (All-weaker (λ (w : Waiting T). is_before w.place.0 first.place.0 ≡ false)
    (λ (w : Waiting T). IsFinal known.cpus w.place.0 → ⊥)
    (λ w h final. not_final (final_below known.cpus first.place.0 w.place.0 h final)) items
    (All-from_recursion (λ (w : Waiting T). is_before w.place.0 first.place.0 ≡ false) items upper))

-- ---- several lines are given

-- one more line
pub gives_more : {T : Type 0} (gives : Following T → Said T → Following T → Type 0) (old : Following T)
    (said : List (Said T)) (between : Following T) (one : Said T) (new : Following T)
    → GivesAll gives old said between
    → gives between one new
    → GivesAll gives old (said ++ one ∷ []) new
gives_more {T} gives old [] between one new given last =
    (new, subst (λ (state : Following T). gives state one new) (sym given) last, refl)
gives_more gives old (first ∷ said) between one new given last =
    (given.0, given.1, gives_more gives given.0 said between one new given.2 last)

-- one line less waits
pub one_less : {T : Type 0} (old : Following T) (said : Said T) (new : Following T) → Gives old said new
    → length new.waiting + 1 ≡ length old.waiting
one_less old said new given =
    let same = length_permutation old.waiting (line_of said ∷ new.waiting) given.waiting in omega arith
