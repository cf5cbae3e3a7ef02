-- What the reader's swap shows.
use Rattle.std.specs.Prelude.{◌≡◌, ◌≢◌, ⊤, ℕ, ◌+◌, ◌-◌, ◌*◌, ◌%◌, ◌≤◌, true, List, [], ◌∷◌, ◌++◌, length, Some}
use Rattle.std.specs.Prelude.{slice_set}
use Rattle.trace_model.specs.declared.limits.TheConstants.{LINK_FILLS}
use Rattle.trace_model.specs.Record.{Record}
use Rattle.trace_model.specs.Links.{word_of, header_link}
use Rattle.trace_model.specs.Ring.{ReaderPhase, loading_head, loading_done, storing_spare_link, swapping, TakenFill}
use Rattle.trace_model.specs.Ring.{link_into}
use Rattle.trace_model.specs.Steps as model
use Rattle.ring_model.specs.KeptLinks.{Spot, spot}
use Rattle.page_image.specs.Contents.{Contents, records_of_page}
use Rattle.nested_writer.specs.Released.{IsWrittenPage}
use Rattle.ring_steps.specs.declared.rule.Shape.{Shape}
use Rattle.ring_steps.specs.Views.{Reading, reading_after, reading}
use Rattle.ring_steps.specs.Seats.{SeatState, IsReaderStep}
use Rattle.ring_steps.specs.Taking.{ReadReported}

-- The swap was done: this page as this fill was the head, and what was in its slot is the fill with all that it holds,
-- as the model's answer states. The records that the reader observed are more by exactly those that were lost before
-- the page, and the page's; and the head's page is its own. Each record takes 8 bytes of a page or more, so the
-- numbers fit a word.
pub record HeadTaken (shape : Shape) (before : Reading) (page fill : ℕ) (taken : Contents) (after : Reading)
    : Type 0 where
  pub reported : TakenFill
  pub fill_is : reported.fill ≡ fill
  pub written : IsWrittenPage shape.size fill reported.held taken
  pub step : IsReaderStep shape before (λ core. link_into shape.pages core.links fill ≡ header_link page fill)
      model.reads (model.page_taken reported) after
  pub behind : before.reader.expected ≤ taken.first
  pub skipped_is : reported.skipped ≡ taken.first - before.reader.expected
  pub lost : List Record
  pub lost_are : length lost ≡ reported.skipped
  pub observed_is : after.observed ≡ before.observed ++ lost ++ records_of_page taken
  pub numbers_fit : 8 * (taken.first + taken.count) ≤ shape.size * LINK_FILLS
  pub reader_is : after.reader
      ≡ record {
        phase = loading_head;
        hint = fill + 1;
        seen = before.reader.seen;
        expected = taken.first + taken.count;
        taken = before.reader.taken ++ reported ∷ [];
      }
  pub order_is : after.order ≡ slice_set before.order (fill % shape.pages) before.spare
  pub spare_is : after.spare ≡ page
  pub wish_is : after.wish ≡ before.wish

-- The swap was not done: this page as this fill wasn't the head any more, and the reader looks for it after that fill.
pub record HeadGone (shape : Shape) (before : Reading) (page fill : ℕ) (after : Reading) : Type 0 where
  pub step : IsReaderStep shape before (λ core. link_into shape.pages core.links fill ≢ header_link page fill)
      model.reads model.reading after
  pub after_is : after
      ≡ reading_after before.made record { event = model.reads; answer = model.reading } (record before {
        reader = record before.reader { phase = loading_head; hint = fill + 1 };
      })

-- the fill that the reader is about to take, and its page
abbrev pub head_to_take : ReaderPhase → Spot
head_to_take loading_head = spot 0 0
head_to_take (loading_done page fill) = spot 0 0
head_to_take (storing_spare_link page fill) = spot 0 0
head_to_take (swapping page fill) = spot fill page

-- What the compare and exchange shows of the seat, by the word that was found: if that was the head's, the head's
-- page is in the slot that the seat has.
pub record SwapReported (shape : Shape) (before : SeatState) (head : Spot) (found : ℕ) (after : SeatState)
    : Type 0 where
  pub read : ReadReported shape (λ _. ⊤) true before after
  pub took : found ≡ word_of (header_link head.page head.fill)
      → (taken : Contents)
      × (after.1 ≡ (head.page, Some taken) ∷ [])
      × HeadTaken shape (reading before.0) head.page head.fill taken (reading after.0)
  pub missed : found ≢ word_of (header_link head.page head.fill)
      → (after.1 ≡ before.1) × HeadGone shape (reading before.0) head.page head.fill (reading after.0)
