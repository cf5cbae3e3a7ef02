-- A record as nearly all are.
use Rattle.std.specs.Prelude.{◌≡◌, ℕ, ◌+◌, ◌≤◌, ◌<◌, Bool, false}
use Rattle.record_words.specs.declared.format.TheConstants.{EXTEND_FROM, SHORT_LIMIT}

-- It comes as a short one does (docs/GLOSSARY.md), and any such record would have room after this many bytes of a body
-- of this size.
pub record IsPlainIn (size end delta : ℕ) (first : Bool) (len : ℕ) : Type 0 where
  pub behind : first ≡ false
  pub some : 1 ≤ len
  pub short : len ≤ SHORT_LIMIT
  pub near : delta < EXTEND_FROM
  pub far : end + (4 + SHORT_LIMIT) ≤ size
