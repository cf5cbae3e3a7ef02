-- The next page of a reader's end, whose reader is the same afterwards.
use Rattle.std.proofs.Common.{◌≡◌, ℕ, sym, subst, ◌∙◌}
use Rattle.page_image.specs.Contents.{Contents}
use Rattle.ring_shared.specs.Value.{ReaderValue}
use Rattle.ring_shared.specs.Takes.{IsPageTaken, AnswersTake}
use Rattle.ring_shared.specs.declared.take.Take.TheVariants.{Page}
use Rattle.tracering_c.specs.declared.ends.HeldReader.{HeldReader}
use Rattle.tracering_c.specs.Calls.{IsNext, was_unadded, is_taken}

-- it is still the next one
pub next_stays : (old : HeldReader) (page : Contents) (missed : ℕ) (between new : HeldReader)
    → new.reader ≡ between.reader → IsNext old page missed between → IsNext old page missed new
next_stays old page missed between new same (was_unadded is reader) = was_unadded is (same ∙ reader)
next_stays old page missed between new same (is_taken none taken answers) =
    is_taken none
    (subst (λ (r : ReaderValue). IsPageTaken old.reader.shape old.reader.part page missed r.part) (sym same) taken)
    (subst (λ (r : ReaderValue). AnswersTake old.reader (Page page missed) r) (sym same) answers)
