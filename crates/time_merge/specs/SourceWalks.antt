-- What a walk over sources takes.
use Rattle.std.specs.Prelude.{◌≡◌, ℕ, List, [], ◌∷◌, ◌++◌, slice_set, Option, ⊤}
use Rattle.trace_model.specs.Listing.{Line as ModelLine}
use Rattle.time_merge.specs.Heads.{AllBegin, HaveEnded}
use Rattle.time_merge.specs.Merging.{merged_lists}
use Rattle.time_merge.specs.Walks.{TakesAll}

-- each source passes its list of lines, and leads to the new one
abbrev pub AllPass : {S : Type 0} → (S → ModelLine → S → Type 0) → List S → List (List ModelLine) → List S → Type 0
AllPass passes [] [] [] = ⊤
AllPass passes (old ∷ olds) (lines ∷ lists) (new ∷ news) =
    TakesAll passes old lines new × AllPass passes olds lists news
AllPass passes [] [] (new ∷ news) = ⊥
AllPass passes [] (lines ∷ lists) news = ⊥
AllPass passes (old ∷ olds) [] news = ⊥
AllPass passes (old ∷ olds) (lines ∷ lists) [] = ⊥

-- lists, each with another one behind it
abbrev pub each_joined : List (List ModelLine) → List (List ModelLine) → List (List ModelLine)
each_joined [] others = []
each_joined (lines ∷ lists) [] = []
each_joined (lines ∷ lists) (more ∷ others) = (lines ++ more) ∷ each_joined lists others

-- These lines go first of the lists and of those that come behind them, whatever they are: they begin with what the
-- sources have at hand.
abbrev pub GoBefore : {S : Type 0} → (S → Option ModelLine) → List S → (lists : List (List ModelLine))
    → (front : List ModelLine) → Type 0
GoBefore head sources lists front = (others : List (List ModelLine)) → AllBegin head sources others
    → merged_lists (each_joined lists others) ≡ front ++ merged_lists others

-- All lines of the sources were taken, merged, and none is left.
pub record WalksAll {S T : Type 0} (head : S → Option ModelLine) (passes : S → ModelLine → S → Type 0)
    (takes : T → ModelLine → T → Type 0) (olds : List S) (start : T) (news : List S) (finish : T) : Type 0 where
  pub lists : List (List ModelLine)
  pub pass : AllPass passes olds lists news
  pub ended : HaveEnded head news
  pub taken : TakesAll takes start (merged_lists lists) finish

-- Lines were taken that go first, whatever comes after them; then one of the sources couldn't go on.
pub record WalksPart {S T : Type 0} (head : S → Option ModelLine) (passes : S → ModelLine → S → Type 0)
    (stopped : S → Type 0) (takes : T → ModelLine → T → Type 0) (olds : List S) (start : T) (news : List S) (finish : T)
    : Type 0 where
  pub lists : List (List ModelLine)
  pub between : List S
  pub pass : AllPass passes olds lists between
  pub front : List ModelLine
  pub taken : TakesAll takes start front finish
  pub index : ℕ
  pub source : S
  pub is_stopped : stopped source
  pub news_are : news ≡ slice_set between index source
  pub first : (others : List (List ModelLine)) → AllBegin head between others
      → (behind : List ModelLine) × (merged_lists (each_joined lists others) ≡ front ++ behind)
