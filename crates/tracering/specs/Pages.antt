-- The words of the contracts of `pages`.

-- what a page is, and what it holds
pub use Rattle.trace_model.specs.Record.{Record}
pub use Rattle.trace_model.specs.declared.limits.TheConstants.{MAX_IMAGE, MAX_SIZE, MIN_SIZE, MOMENT_LIMIT}
pub use Rattle.page_image.specs.Contents.{Contents, IsPage, HaveSameData, is_blank, records_of_page}
pub use Rattle.page_borrow.specs.Entries.{AllStandInPage, entries_of, numbered_record}
-- what is put into a page, and what is lent of it
pub use Rattle.trace_model.specs.Order.{moment_of_last}
pub use Rattle.trace_model.specs.Reading.{EndsInRecord, IsPlaceIn}
pub use Rattle.trace_model.specs.Words.{padded, slot_len}
pub use Rattle.page_image.specs.Lending.{LendsPayload, PayloadWritten, StaysPage}
pub use Rattle.page_image.specs.Plain.{IsPlainIn}
pub use Rattle.page_image.specs.Putting.{CanPut, HasPut}
-- images
pub use Rattle.trace_model.specs.Image.{DecodesImage, image_of, missed_reported, stored_count}
pub use Rattle.page_image.specs.Images.{missed_of, page_in, IsImageFault, IsOutlined}
-- a page's words, one after the other
pub use Rattle.trace_model.specs.Words.{Decodes, records_of}
pub use Rattle.page_image.specs.Counting.{IsFirstWordFault}
pub use Rattle.page_image.specs.Walk.{HasPassed, HasRead, records_at_place, records_left}
