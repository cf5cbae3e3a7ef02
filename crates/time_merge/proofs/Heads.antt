-- Sources by the lines that they have at hand.
use Rattle.std.proofs.Common.{◌≡◌, ◌⊎◌, ⊎_elim, ℕ, zero, suc, ◌-◌, ◌^◌, ◌<◌, ◌≤◌, List, [], ◌∷◌}
use Rattle.std.proofs.Common.{drop, length, set}
use Rattle.std.proofs.Common.{Option, Some, None, Result, Ok, Err, refl, sym, ap, ◌∙◌, subst, arith}
use Rattle.std.specs.Prelude.{OnOk, OnErr}
use Rattle.std.specs.List.{slice_get}
use Rattle.std.specs.Option.{option_map}
use Rattle.std.proofs.lemmas.List.{length-map, map-set}
use Rattle.std.proofs.lemmas.Option.{none-some, slice_get-map, slice_get_within}
use Rattle.trace_model.specs.Listing.{Line as ModelLine}
use Rattle.trace_model.proofs.collections.Elements.{some_is}
use Rattle.time_merge.specs.declared.tournament.Rank.{Rank}
use Rattle.time_merge.specs.declared.tournament.Turn.{Turn}
use Rattle.time_merge.specs.Heads.{first_in, head_list, heads_of, AllBegin, GoesFirst, HaveEnded, HasTurned}
use Rattle.time_merge.specs.Merging.{merged_lists}
use Rattle.time_merge.specs.Ranks.{IsTurn}
use Rattle.time_merge.specs.Sources.{IsRankOf, IsTurnOf}
use Rattle.time_merge.proofs.Merging.{all_empty, none_left}
use Rattle.time_merge.proofs.Turns.{turn_step, goes_on, next_turn}

-- ---- answers

pub on_both_ok : {A E : Type 0} (r : Result A E) (P Q R : Type 0) → (P → Q → R) → OnOk r P → OnOk r Q → OnOk r R
on_both_ok (Ok a) P Q R f p q = f p q
on_both_ok (Err e) P Q R f p q = tt

pub on_both_err : {A E : Type 0} (r : Result A E) (P Q R : Type 0) → (P → Q → R) → OnErr r P → OnErr r Q → OnErr r R
on_both_err (Ok a) P Q R f p q = tt
on_both_err (Err e) P Q R f p q = f p q

pub on_either : {A E : Type 0} (r : Result A E) (P Q R : Type 0) → OnOk r P → OnErr r Q → (P → R) → (Q → R) → R
on_either (Ok a) P Q R p q f g = f p
on_either (Err e) P Q R p q f g = g q

-- ---- a source that has changed

pub turned : {S : Type 0} {head : S → Option ModelLine} {changes : S → ModelLine → S → Type 0} (sources old : List S)
    (index : ℕ) (source later : S) (line : ModelLine)
    → sources ≡ old → GoesFirst head sources index source line → changes source line later
    → HasTurned head changes old (set sources index later)
turned {S = S} {head = head} {changes = changes} sources old index source later line same goes changed =
    subst (λ (ss : List S). HasTurned head changes ss (set sources index later)) same record {
      index = index;
      source = source;
      line = line;
      goes = goes;
      later = later;
      changed = changed;
      new_is = refl;
    }

-- ---- first lines

first_head : (head : Option ModelLine) → first_in (head_list head) ≡ head
first_head None = refl
first_head (Some line) = refl

pub begins : (lines : List ModelLine) (line : ModelLine) → first_in lines ≡ Some line → lines ≡ line ∷ drop 1 lines
begins [] line is = absurd (none-some line is)
begins (x ∷ xs) line is = ap (λ (l : ModelLine). l ∷ xs) (some_is x line is)

no_head : (head : Option ModelLine) → ((line : ModelLine) → head ≡ Some line → ⊥) → head ≡ None
no_head None never = refl
no_head (Some line) never = absurd (never line refl)

-- the rank of a source is by its first line alone
rank_by_first : (k : ℕ) (lines others : List ModelLine) (rank : Rank) → first_in lines ≡ first_in others
    → IsRankOf k lines rank → IsRankOf k others rank
rank_by_first k [] [] rank same own = own
rank_by_first k [] (y ∷ ys) rank same own = absurd (none-some y same)
rank_by_first k (x ∷ xs) [] rank same own = absurd (none-some x (sym same))
rank_by_first k (x ∷ xs) (y ∷ ys) rank same own =
    subst (λ (l : ModelLine). (rank.moment ≡ l.moment) × (rank.source ≡ k) × (rank.moment ≤ 2 ^ 64 - 1))
    (some_is x y same) own

pub element_at : {X : Type 0} (xs : List X) (k : ℕ) → k < length xs → (x : X) × (slice_get xs k ≡ Some x)
element_at [] k within = absurd (omega arith)
element_at (x ∷ xs) zero within = (x, refl)
element_at (x ∷ xs) (suc k) within = element_at xs k (omega arith)

module _ {S : Type 0} (head : S → Option ModelLine) where
  pub head_at : (sources : List S) (k : ℕ) (s : S) → slice_get sources k ≡ Some s
      → slice_get (heads_of head sources) k ≡ Some (head_list (head s))
  head_at sources k s at =
      slice_get-map (λ (x : S). head_list (head x)) sources k
      ∙ ap (option_map (λ (x : S). head_list (head x))) at

  pub count_of_heads : (sources : List S) → length (heads_of head sources) ≡ length sources
  count_of_heads sources = length-map sources (λ (x : S). head_list (head x))

  pub heads_begin : (sources : List S) → AllBegin head sources (heads_of head sources)
  heads_begin sources = record {
    count = count_of_heads sources;
    each = λ k s lines at here.
        ap first_in (some_is lines (head_list (head s)) (sym here ∙ head_at sources k s at)) ∙ first_head (head s);
  }

  -- whose turn it is is so for all lists that begin with the lines at hand
  turn_of_lists : (sources : List S) (lists : List (List ModelLine)) (leaves : List Rank) (turn : Turn)
      → IsTurnOf (heads_of head sources) leaves turn → AllBegin head sources lists → IsTurnOf lists leaves turn
  turn_of_lists sources lists leaves turn is begin =
      let heads = count_of_heads sources in
      let count = begin.count in
      let ranked = is.ranks.count_is in
      record {
        ranks = record {
          count_is = omega arith;
          each = λ k lines rank here at.
              let within = slice_get_within lists k lines here in
              let found = element_at sources k (omega arith) in
              rank_by_first k (head_list (head found.0)) lines rank
              (first_head (head found.0) ∙ sym (begin.each k found.0 lines found.1 here))
              (is.ranks.each k (head_list (head found.0)) rank (head_at sources k found.0 found.1) at);
        };
        first = is.first;
        bound = is.bound;
        ended = λ past. is.ended (omega arith);
      }

  -- no source has a line if it is no source's turn
  pub have_ended : (sources : List S) (leaves : List Rank) (turn : Turn)
      → IsTurnOf (heads_of head sources) leaves turn
      → length sources ≤ turn.first.source → HaveEnded head sources
  have_ended sources leaves turn is past k s at =
      let heads = count_of_heads sources in
      no_head (head s) (λ line has.
      none_left (heads_of head sources) (set leaves turn.first.source turn.first) turn.first is.ranks is.first
      (omega arith) (is.ended (omega arith)) k line []
      (head_at sources k s at ∙ ap (λ (h : Option ModelLine). Some (head_list h)) has))

  -- the source whose turn it is has a line, which goes first
  pub goes_first : (sources : List S) (leaves : List Rank) (turn : Turn) (source : S)
      → IsTurnOf (heads_of head sources) leaves turn
      → length sources ≤ 2 ^ 64 - 1 → turn.first.source < length sources
      → slice_get sources turn.first.source ≡ Some source
      → (line : ModelLine) × GoesFirst head sources turn.first.source source line
  goes_first sources leaves turn source is few within at =
      let heads = count_of_heads sources in
      let step =
      turn_step (heads_of head sources) leaves turn is (omega arith) (omega arith) (head_list (head source))
      (head_at sources turn.first.source source at) in (
        step.0,
        record {
          at = at;
          head_is = sym (first_head (head source)) ∙ ap first_in step.2;
          merged = λ lists rest begin here.
              let count = begin.count in
              let found =
              turn_step lists leaves turn (turn_of_lists sources lists leaves turn is begin) (omega arith) (omega arith)
              (step.0 ∷ rest) here in
              let line = some_is step.0 found.0 (ap first_in found.2) in
              let others : rest ≡ found.1 = ap (drop 1) found.2 in
              found.3
              ∙ ap (λ (l : ModelLine). l ∷ merged_lists (set lists turn.first.source found.1)) (sym line)
              ∙ ap (λ (ls : List ModelLine). step.0 ∷ merged_lists (set lists turn.first.source ls)) (sym others);
        },
      )

  -- the source has gone on, and goes first again
  pub heads_go_on : (sources : List S) (leaves : List Rank) (turn : Turn) (later : S) (rank : Rank)
      → IsTurnOf (heads_of head sources) leaves turn
      → turn.first.source < length sources → IsRankOf turn.first.source (head_list (head later)) rank
      → rank.moment < turn.bound → rank.moment < 2 ^ 64 - 1
      → IsTurnOf (heads_of head (set sources turn.first.source later)) leaves
      record { first = rank; bound = turn.bound }
  heads_go_on sources leaves turn later rank is within own earlier some =
      let heads = count_of_heads sources in
      subst (λ (lists : List (List ModelLine)). IsTurnOf lists leaves record { first = rank; bound = turn.bound })
      (sym (map-set (λ (x : S). head_list (head x)) sources turn.first.source later))
      (goes_on (heads_of head sources) leaves turn (head_list (head later)) rank is (omega arith) own earlier some)

  -- the source has gone on, and the first of all goes next
  pub heads_turn : (sources : List S) (leaves after : List Rank) (turn next : Turn) (later : S) (rank : Rank)
      → IsTurnOf (heads_of head sources) leaves turn
      → length sources ≤ 2 ^ 64 - 1 → IsRankOf turn.first.source (head_list (head later)) rank
      → IsTurn (set leaves turn.first.source rank) turn.first.source after next
      → IsTurnOf (heads_of head (set sources turn.first.source later)) after next
  heads_turn sources leaves after turn next later rank is few own goes =
      let heads = count_of_heads sources in
      subst (λ (lists : List (List ModelLine)). IsTurnOf lists after next)
      (sym (map-set (λ (x : S). head_list (head x)) sources turn.first.source later))
      (next_turn (heads_of head sources) leaves after turn next (head_list (head later)) rank is (omega arith) own goes)

-- ---- lists as sources

own_begin : (lists : List (List ModelLine)) → AllBegin first_in lists lists
own_begin lists = record {
  count = refl;
  each = λ k s lines at here. ap first_in (some_is lines s (sym here ∙ at));
}

-- no line is left if none is at hand
pub merged_none : (lists : List (List ModelLine)) → HaveEnded first_in lists → merged_lists lists ≡ []
merged_none lists ended =
    all_empty lists (λ k other others at. none-some other (sym (ended k (other ∷ others) at)))

-- the first line of a list that goes first is the first of all
pub merged_goes : (lists : List (List ModelLine)) (k : ℕ) (lines : List ModelLine) (line : ModelLine)
    → GoesFirst first_in lists k lines line
    → merged_lists lists ≡ line ∷ merged_lists (set lists k (drop 1 lines))
merged_goes lists k lines line goes =
    goes.merged lists (drop 1 lines) (own_begin lists)
    (goes.at ∙ ap (λ (ls : List ModelLine). Some ls) (begins lines line goes.head_is))

-- the list that goes first has lost its first line
merged_turned : (lists new : List (List ModelLine)) (changes : List ModelLine → ModelLine → List ModelLine → Type 0)
    → ((lines : List ModelLine) (line : ModelLine) (rest : List ModelLine) → changes lines line rest
    → rest ≡ drop 1 lines)
    → HasTurned first_in changes lists new → merged_lists new ≡ drop 1 (merged_lists lists)
merged_turned lists new changes does t =
    ap merged_lists (t.new_is ∙ ap (set lists t.index) (does t.source t.line t.later t.changed))
    ∙ sym (ap (drop 1) (merged_goes lists t.index t.source t.line t.goes))

pub merged_advanced : {A E : Type 0} (r : Result A E) (lists new : List (List ModelLine)) (now : List ModelLine)
    → merged_lists lists ≡ now
    → OnOk r ((HaveEnded first_in lists × (new ≡ lists))
    ⊎ HasTurned first_in (λ s line t. (t ≡ drop 1 s) × (length t < length s)) lists new)
    → OnErr r (HasTurned first_in (λ s line t. ⊥ × (first_in t ≡ None)) lists new)
    → merged_lists new ≡ drop 1 now
merged_advanced r lists new now is goes stops = on_either r _ _ _ goes stops
    (λ either. ⊎_elim
    (λ (ended : HaveEnded first_in lists × (new ≡ lists)).
    let none : merged_lists lists ≡ [] = merged_none lists ended.0 in
    ap merged_lists ended.1 ∙ none ∙ sym (ap (drop 1) (sym is ∙ none)))
    (λ (t : HasTurned first_in (λ s line t. (t ≡ drop 1 s) × (length t < length s)) lists new).
    merged_turned lists new (λ s line t. (t ≡ drop 1 s) × (length t < length s)) (λ s line t both. both.0) t
    ∙ ap (drop 1) is)
    either)
    (λ stop. absurd stop.changed.0)
