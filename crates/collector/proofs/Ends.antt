-- A walk from the last range to the front: no range after it has a number.
use Rattle.std.proofs.Common.{◌≡◌, ℕ, ◌+◌, ◌-◌, ◌<◌, ◌≤◌, Option, Some, None, refl, subst, arith}
use Rattle.collector.specs.declared.ranges.Content.{Content}
use Rattle.collector.specs.declared.ranges.Span.{Span}
use Rattle.collector.specs.declared.ranges.Ranges.{Ranges}
use Rattle.collector.specs.Ranges.{HasSpan, HasContent}

-- no range after this one has a number; or none has, if the walk is through
abbrev pub NoneBehind : Ranges → Option (ℕ × Span) → Type 0
NoneBehind ranges None = (first : ℕ) (span : Span) → HasSpan ranges first span → span.end ≤ first
NoneBehind ranges (Some p) = HasSpan ranges p.0 p.1
    × ((first : ℕ) (span : Span) → p.0 < first → HasSpan ranges first span → span.end ≤ first)

-- how many numbers are up to the first one of the range, that one included; 0 if the walk is through
abbrev pub numbers_left : Option (ℕ × Span) → ℕ
numbers_left None = 0
numbers_left (Some p) = p.0 + 1

-- a range with numbers states something of its last one
pub last_stated : (ranges : Ranges) (range : Option (ℕ × Span)) (first : ℕ) (span : Span) → NoneBehind ranges range
    → range ≡ Some (first, span) → first < span.end → (content : Content) × HasContent ranges (span.end - 1) content
last_stated ranges range first span behind is some =
    let here : NoneBehind ranges (Some (first, span)) = subst (NoneBehind ranges) is behind in (
      span.content,
      record {
        first = first;
        span = span;
        at = here.0;
        from = omega arith;
        below = omega arith;
        content_is = refl;
      },
    )
