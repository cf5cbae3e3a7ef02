-- What the steps of the reader's take show.
use Rattle.std.specs.Prelude.{◌≡◌, ⊤, ℕ, ◌≤◌, Bool, true, false}
use Rattle.trace_model.specs.Links.{Link, word_of, FitsWord}
use Rattle.trace_model.specs.Ring.{ReaderPhase, loading_head, loading_done, storing_spare_link, swapping, Core}
use Rattle.trace_model.specs.Ring.{link_into}
use Rattle.trace_model.specs.Steps as model
use Rattle.ring_steps.specs.declared.rule.Shape.{Shape}
use Rattle.ring_steps.specs.Views.{Reading, reading_after, reads, reading}
use Rattle.ring_steps.specs.Seats.{SeatState, IsSeatOfReader, IsReaderWithin, IsReaderStep}

-- A step of the reader's take, with the model's answer to it.
abbrev pub IsReadStep : Shape → Reading → (Core → Type 0) → Reading → Type 0
IsReadStep shape before sees after = (answer : model.Answer) × IsReaderStep shape before sees model.reads answer after

-- what each step of a take shows of the seat's view, after which the reader keeps the spare's slot, or doesn't
pub record ReadReported (shape : Shape) (sees : Core → Type 0) (keeps : Bool) (before after : SeatState) : Type 0 where
  pub view : after.0 ≡ reads (reading after.0)
  pub within : IsReaderWithin shape (reading after.0)
  pub keeps_is : (reading after.0).keeps_spare ≡ keeps
  pub step : IsReadStep shape (reading before.0) sees (reading after.0)

-- and that it has no more slots than that
abbrev pub SeatReported : Shape → (Core → Type 0) → Bool → SeatState → SeatState → Type 0
SeatReported shape sees keeps before after = IsSeatOfReader after × ReadReported shape sees keeps before after

-- the word of the link into the position of this fill
pub record IsWordInto (shape : Shape) (fill word : ℕ) (core : Core) : Type 0 where
  pub word_is : word_of (link_into shape.pages core.links fill) ≡ word
  pub fits : FitsWord (link_into shape.pages core.links fill)

-- ---- what the reader knows after each step

-- the page of the head that a reader in this phase has found, and the fill as which it has
abbrev pub page_in : ReaderPhase → ℕ
page_in loading_head = 0
page_in (loading_done page fill) = page
page_in (storing_spare_link page fill) = page
page_in (swapping page fill) = page

abbrev pub fill_in : ReaderPhase → ℕ
fill_in loading_head = 0
fill_in (loading_done page fill) = fill
fill_in (storing_spare_link page fill) = fill
fill_in (swapping page fill) = fill

abbrev pub page_found : Reading → ℕ
page_found part = page_in part.reader.phase

abbrev pub fill_found : Reading → ℕ
fill_found part = fill_in part.reader.phase

-- it has found the head, and will load the number of closed fills; or knows that the head is closed, and will store the
-- spare's link
abbrev pub IsLoadingDone : Reading → Type 0
IsLoadingDone part = part.reader.phase ≡ loading_done (page_found part) (fill_found part)

abbrev pub IsStoringLink : Reading → Type 0
IsStoringLink part = part.reader.phase ≡ storing_spare_link (page_found part) (fill_found part)

-- The link into the position of the hint was loaded, with this answer of the model's: the reader goes on in this phase,
-- with this hint, which is no lower, and has no slot. Nothing else of its part changes.
pub record LinkLoaded (shape : Shape) (before : Reading) (link : Link) (answer : model.Answer) (phase : ReaderPhase)
    (hint : ℕ) (after : Reading)
    : Type 0 where
  pub step : IsReaderStep shape before (λ core. link_into shape.pages core.links before.reader.hint ≡ link) model.reads
      answer after
  pub hint_le : before.reader.hint ≤ hint
  pub after_is : after
      ≡ reading_after before.made record { event = model.reads; answer = answer } (record before {
        reader = record before.reader { phase = phase; hint = hint };
        keeps_spare = false;
      })

-- The number of closed fills was loaded, with this answer of the model's: the reader goes on in this phase, and has
-- seen that many, which are no fewer than before. Nothing else of its part changes.
pub record DoneLoaded (shape : Shape) (before : Reading) (done : ℕ) (answer : model.Answer) (phase : ReaderPhase)
    (after : Reading)
    : Type 0 where
  pub step : IsReaderStep shape before (λ core. core.done ≡ done) model.reads answer after
  pub seen_le : before.reader.seen ≤ done
  pub after_is : after
      ≡ reading_after before.made record { event = model.reads; answer = answer } (record before {
        reader = record before.reader { phase = phase; seen = done };
      })

-- The spare's link was stored: the reader is about to swap the spare for the head, and keeps the spare's slot. Nothing
-- else of its part changes.
pub record SpareLinked (shape : Shape) (before : Reading) (link : Link) (after : Reading) : Type 0 where
  pub step : IsReaderStep shape before (λ _. ⊤) model.reads model.reading after
  pub after_is : after
      ≡ reading_after before.made record { event = model.reads; answer = model.reading } (record before {
        spare_link = link;
        reader = record before.reader {
          phase = swapping (page_found before) (fill_found before);
        };
        keeps_spare = true;
      })
