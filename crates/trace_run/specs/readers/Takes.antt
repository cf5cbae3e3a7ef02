-- What a take of a reader's end finds.
use Rattle.std.specs.Prelude.{◌≡◌, ℕ, List, [], ◌∷◌, ◌++◌, Some}
use Rattle.trace_model.specs.declared.numbers.FillNo.{FillNo}
use Rattle.world_model.specs.World.{parcel_of}
use Rattle.page_image.specs.Contents.{Contents}
use Rattle.page_numbers.specs.Parcels.{as_parcels, fitted_parcel}
use Rattle.ring_shared.specs.declared.take.Take.TheVariants.{Page as page_answer, Empty as empty_answer}
use Rattle.ring_shared.specs.declared.take.Take.TheVariants.{Moving as moving_answer}
use Rattle.ring_shared.specs.Takes.{IsPageTaken, IsEmptyFound, IsMovingFound, AnswersTake}
use Rattle.trace_run.specs.declared.readers.end.Found.{Found}
use Rattle.trace_run.specs.declared.readers.end.Found.TheVariants.{Page, Empty, Moving}
use Rattle.trace_run.specs.readers.Value.{ReaderEndValue}

-- The ring's reader made one take, which answered a page: its parcel is the last one, in as many bytes as the page's
-- data, and a body is there for the next take.
pub record IsPageFound (before after : ReaderEndValue) : Type 0 where
  pub page : Contents
  pub missed : ℕ
  pub answer : AnswersTake before.reader (page_answer page missed) after.reader
  pub is : IsPageTaken before.reader.shape before.reader.part page missed after.reader.part
  pub kept : (back : List ℕ) × (after.body ≡ Some back)
  pub fitted : after.taken ≡ before.taken ++ fitted_parcel before.cpu page missed ∷ []
  pub one_more : as_parcels after.taken ≡ as_parcels before.taken ++ parcel_of before.cpu is.taken ∷ []

-- It made one take, which found nothing: all closed fills are taken or lost, and the reader knows the oldest one that
-- isn't closed. The body that the take gave back is kept for the next one.
pub record IsNoneFound (before after : ReaderEndValue) : Type 0 where
  pub done : ℕ
  pub back : List ℕ
  pub answer : AnswersTake before.reader (empty_answer done back) after.reader
  pub is : IsEmptyFound before.reader.shape before.reader.part done after.reader.part
  pub kept : after.body ≡ Some back
  pub taken_are : after.taken ≡ before.taken

-- It made one take, which took nothing, and the next one continues where this one stopped, with the same body.
pub record IsPutOff (before after : ReaderEndValue) : Type 0 where
  pub fill : FillNo
  pub back : List ℕ
  pub answer : AnswersTake before.reader (moving_answer fill back) after.reader
  pub is : IsMovingFound before.reader.shape before.reader.part fill.0 after.reader.part
  pub kept : after.body ≡ Some back
  pub taken_are : after.taken ≡ before.taken

-- what a take found is what its one take of the ring's reader answered
abbrev pub IsFound : Found → ReaderEndValue → ReaderEndValue → Type 0
IsFound Page before after = IsPageFound before after
IsFound Empty before after = IsNoneFound before after
IsFound Moving before after = IsPutOff before after
