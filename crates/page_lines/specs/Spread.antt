-- The pages of some CPUs, among those of all there can be.
use Rattle.std.specs.Prelude.{ℕ, zero, suc, ◌≤◌, ◌<◌, ◌==◌, if◌then◌else◌, List, [], ◌∷◌, ⊤}
use Rattle.trace_model.specs.Listing.{Line as ModelLine}
use Rattle.capture.specs.Pages.{Page}
use Rattle.page_lines.specs.Sources.{lines_from, NeverFall}

-- the pages of a CPU
pub record OwnPages : Type 0 where
  pub cpu : ℕ
  pub pages : List Page

-- the CPUs rise, from this one on, and are below the end
abbrev pub RiseBelow : (low end : ℕ) → List OwnPages → Type 0
RiseBelow low end [] = ⊤
RiseBelow low end (own ∷ owns) = (low ≤ own.cpu) × (own.cpu < end) × RiseBelow (suc own.cpu) end owns

-- the pages of so many CPUs, from this one on: none of those that aren't among these
abbrev pub spread : (cpu count : ℕ) → List OwnPages → List (List Page)
spread cpu zero owns = []
spread cpu (suc count) [] = [] ∷ spread (suc cpu) count []
spread cpu (suc count) (own ∷ owns) =
    if own.cpu == cpu then own.pages ∷ spread (suc cpu) count owns else [] ∷ spread (suc cpu) count (own ∷ owns)

-- the lines of a CPU
abbrev pub own_lines : OwnPages → List ModelLine
own_lines own = lines_from own.cpu 0 own.pages

-- no line of any of them is earlier than the one before
abbrev pub NoneFalls : List OwnPages → Type 0
NoneFalls [] = ⊤
NoneFalls (own ∷ owns) = NeverFall 0 (own_lines own) × NoneFalls owns
