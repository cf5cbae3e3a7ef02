-- The lines that sources have at hand, and which of them goes first.
use Rattle.std.specs.Prelude.{◌≡◌, ℕ, List, [], ◌∷◌, length, map, slice_set, Option, Some, None}
use Rattle.std.specs.List.{slice_get}
use Rattle.trace_model.specs.Listing.{Line as ModelLine}
use Rattle.time_merge.specs.Merging.{merged_lists}

-- the first of lines, if there is one
abbrev pub first_in : List ModelLine → Option ModelLine
first_in [] = None
first_in (line ∷ lines) = Some line

-- a list of the line at hand, if there is one
abbrev pub head_list : Option ModelLine → List ModelLine
head_list None = []
head_list (Some line) = line ∷ []

-- the lines that sources have at hand
abbrev pub heads_of : {S : Type 0} → (head : S → Option ModelLine) → List S → List (List ModelLine)
heads_of head sources = map (λ s. head_list (head s)) sources

-- the lists of lines begin with those that the sources have at hand
pub record AllBegin {S : Type 0} (head : S → Option ModelLine) (sources : List S) (lists : List (List ModelLine))
    : Type 0 where
  pub count : length lists ≡ length sources
  pub each : (k : ℕ) (s : S) (lines : List ModelLine)
      → slice_get sources k ≡ Some s
      → slice_get lists k ≡ Some lines
      → first_in lines ≡ head s

-- The source of this number has a line at hand, which goes first, whatever lines come after those that are at hand.
pub record GoesFirst {S : Type 0} (head : S → Option ModelLine) (sources : List S) (index : ℕ) (source : S)
    (line : ModelLine) : Type 0 where
  pub at : slice_get sources index ≡ Some source
  pub head_is : head source ≡ Some line
  pub merged : (lists : List (List ModelLine)) (rest : List ModelLine)
      → AllBegin head sources lists
      → slice_get lists index ≡ Some (line ∷ rest)
      → merged_lists lists ≡ line ∷ merged_lists (slice_set lists index rest)

-- none of the sources has a line
abbrev pub HaveEnded : {S : Type 0} → (head : S → Option ModelLine) → List S → Type 0
HaveEnded {S} head sources = (k : ℕ) (s : S) → slice_get sources k ≡ Some s → head s ≡ None

-- one of the sources has the line that goes first
pub record IsAtTurn {S : Type 0} (head : S → Option ModelLine) (sources : List S) (source : S) : Type 0 where
  pub index : ℕ
  pub line : ModelLine
  pub goes : GoesFirst head sources index source line

-- The source of the line that goes first has changed.
pub record HasTurned {S : Type 0} (head : S → Option ModelLine) (changes : S → ModelLine → S → Type 0)
    (old new : List S) : Type 0 where
  pub index : ℕ
  pub source : S
  pub line : ModelLine
  pub goes : GoesFirst head old index source line
  pub later : S
  pub changed : changes source line later
  pub new_is : new ≡ slice_set old index later

-- The same, and its line was taken.
pub record HasTaken {S T : Type 0} (head : S → Option ModelLine) (changes : S → ModelLine → S → Type 0)
    (takes : T → ModelLine → T → Type 0) (old : List S) (start : T) (new : List S) (finish : T) : Type 0 where
  pub index : ℕ
  pub source : S
  pub line : ModelLine
  pub goes : GoesFirst head old index source line
  pub later : S
  pub changed : changes source line later
  pub new_is : new ≡ slice_set old index later
  pub taken : takes start line finish
