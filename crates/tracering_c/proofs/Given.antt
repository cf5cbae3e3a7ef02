-- What is put to the front of a buffer is given.
use Rattle.std.proofs.Common.{◌≡◌, ℕ, ◌+◌, List, take, ap, ◌∙◌, subst}
use Rattle.page_image.specs.Contents.{Contents}
use Rattle.page_numbers.specs.Written.{bytes_of_page}
use Rattle.library_values.specs.Fronts.{HasAtFront}
use Rattle.library_values.specs.Used.{used_size, used_page}
use Rattle.tracering_c.specs.declared.taken.Taken.{Taken}
use Rattle.tracering_c.specs.Calls.{AreNumbersOf, IsGiven}

pub given_is : (cpu : ℕ) (page : Contents) (missed : ℕ) (out left : List ℕ) (reported : Taken) (len : ℕ)
    → HasAtFront out (bytes_of_page cpu page missed) left → len ≡ 48 + used_size page missed
    → take len left ≡ bytes_of_page cpu (used_page page missed) missed
    → AreNumbersOf page missed len reported → IsGiven cpu page missed out left reported
given_is cpu page missed out left reported len bytes len_is used numbers = record {
  bytes = bytes;
  numbers = subst (λ (n : ℕ). AreNumbersOf page missed n reported) len_is numbers;
  used = ap (λ (n : ℕ). take n left) numbers.len_is ∙ used;
}
