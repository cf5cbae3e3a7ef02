-- What ranges state of the numbers of one CPU.
use Rattle.std.specs.Prelude.{◌≡◌, ℕ, ◌<◌, ◌≤◌, ◌↔◌, Some, None, IsSome}
use Rattle.std.specs.Ordering.{nat_cmp}
use Rattle.std.specs.BTreeMap.{get}
use Rattle.collector.specs.declared.ranges.Content.{Content}
use Rattle.collector.specs.declared.ranges.Content.TheVariants.{Kept, Missing}
use Rattle.collector.specs.declared.ranges.Span.{Span}
use Rattle.collector.specs.declared.ranges.Ranges.{Ranges}

-- this range begins at this number
abbrev pub HasSpan : Ranges → ℕ → Span → Type 0
HasSpan ranges first span = get nat_cmp ranges.spans first ≡ Some span

-- some range has the number, and states this of it
pub record HasContent (ranges : Ranges) (number : ℕ) (content : Content) : Type 0 where
  pub first : ℕ
  pub span : Span
  pub at : HasSpan ranges first span
  pub from : first ≤ number
  pub below : number < span.end
  pub content_is : span.content ≡ content

-- something is stated of some number
abbrev pub IsStated : Ranges → Type 0
IsStated ranges = (number : ℕ) × (content : Content) × HasContent ranges number content

-- no range reaches into a later one
abbrev pub AreApart : Ranges → Type 0
AreApart ranges = (first later : ℕ) (span other : Span)
    → HasSpan ranges first span → HasSpan ranges later other → first < later
    → span.end ≤ later

-- a range begins at this number, with or without numbers of its own
abbrev pub IsMarked : Ranges → ℕ → Type 0
IsMarked ranges number = IsSome (get nat_cmp ranges.spans number)

-- no range that begins before this place reaches over it
abbrev pub IsEdge : Ranges → ℕ → Type 0
IsEdge ranges place = (first : ℕ) (span : Span) → HasSpan ranges first span → first < place → span.end ≤ place

-- no range begins from one place up to another one, or begins before the first and reaches over it
pub record IsFree (ranges : Ranges) (low end : ℕ) : Type 0 where
  pub cut : IsEdge ranges low
  pub none : (q : ℕ) → low ≤ q → q < end → get nat_cmp ranges.spans q ≡ None

-- both state the same of each number
abbrev pub ReportSame : Ranges → Ranges → Type 0
ReportSame old new = (number : ℕ) (content : Content) → (HasContent old number content ↔ HasContent new number content)

-- both have the same ranges
abbrev pub IsCopy : Ranges → Ranges → Type 0
IsCopy ranges copy = copy.spans.entries ≡ ranges.spans.entries

-- a place at which a range began, or over which none reached, is still such a place
pub record KeepsEdges (old new : Ranges) : Type 0 where
  pub marks : (place : ℕ) → IsMarked old place → IsMarked new place
  pub cuts : (place : ℕ) → IsEdge old place → IsEdge new place

-- a parcel may be laid whose missing numbers begin at `low` and whose records are numbered from `first` up to `end`
pub record MayLay (ranges : Ranges) (low first end : ℕ) : Type 0 where
  pub apart : AreApart ranges
  pub missing : low ≤ first
  pub forward : first ≤ end

-- After a parcel is laid whose missing numbers begin at `low` and whose records are numbered from `first` up to `end`:
-- these numbers are stated as its own, and all others as before.
pub record IsLaid (old new : ℕ → Content → Type 0) (low first end parcel : ℕ) : Type 0 where
  pub missing : (n : ℕ) → low ≤ n → n < first → new n Missing
  pub missing_alone : (n : ℕ) (content : Content) → low ≤ n → n < first → new n content → content ≡ Missing
  pub kept : (n : ℕ) → first ≤ n → n < end → new n (Kept parcel)
  pub kept_alone : (n : ℕ) (content : Content) → first ≤ n → n < end → new n content → content ≡ Kept parcel
  pub in_front : (n : ℕ) (content : Content) → n < low → (old n content ↔ new n content)
  pub behind : (n : ℕ) (content : Content) → end ≤ n → (old n content ↔ new n content)
