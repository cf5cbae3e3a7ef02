-- A checksum that is read, as the bytes that state it.
use Rattle.std.proofs.Common.{◌≡◌, ◌↔◌, ℕ, ◌^◌, ◌<◌, ◌≤◌, List, [], length, take, sym, ap, ◌∙◌, eqb, IsTrue, append-nil}
use Rattle.std.proofs.lemmas.Bool.{eqb-true, eq-eqb}
use Rattle.trace_model.specs.FirstFault.{AreBytes}
use Rattle.trace_model.specs.Image.{le64, from_le64}
use Rattle.trace_model.proofs.images.ImageParts.{from_le64-take, from_le64-le64, le64-from_le64}

-- the number in eight bytes is this one exactly if they are those that state it
pub number-iff : (bytes : List ℕ) (number sum : ℕ) → AreBytes bytes → 8 ≤ length bytes → sum < 2 ^ 64
    → number ≡ from_le64 bytes → IsTrue (eqb number sum) ↔ (take 8 bytes ≡ le64 sum)
number-iff bytes number sum small long fits is = (
  λ same. sym (le64-from_le64 bytes long small) ∙ ap le64 (sym is ∙ eqb-true number sum same),
  λ stated. eq-eqb number sum (is ∙ sym (from_le64-take bytes) ∙ ap from_le64 (stated ∙ sym (append-nil (le64 sum)))
      ∙ from_le64-le64 sum [] fits),
)
