-- What was lost of a CPU between two of its records.
use Rattle.std.specs.Prelude.{ℕ, ◌+◌, if◌then◌else◌, List, [], ◌∷◌, ◌++◌}
use Rattle.trace_model.specs.Image.{Missed}
use Rattle.page_image.specs.declared.image.ImageFault.{ImageFault}
use Rattle.capture.specs.Pages.{least_missed, unknown_at}
use Rattle.capture.specs.Captures.{numbers_of}
use Rattle.capture.specs.declared.pages.Damaged.{Damaged}
use Rattle.live_listing.specs.declared.gap.Gap.{Gap}
use Rattle.page_lines.specs.declared.page.Loss.{Loss}

-- the numbers from `from` to the one before `until` are missing; at which numbers records were lost whose number isn't
-- stated; and the pages that can't be read
pub record Lost : Type 0 where
  pub from : ℕ
  pub until : ℕ
  pub unknown : List ℕ
  pub damaged : List Damaged

abbrev pub gap_seen : Gap → Lost
gap_seen gap = record {
  from = gap.from.0;
  until = gap.until.0;
  unknown = numbers_of gap.unknown.items;
  damaged = gap.damaged.items;
}

-- nothing is lost before this number
abbrev pub no_gap : (next : ℕ) → Lost
no_gap next = record { from = next; until = next; unknown = []; damaged = [] }

-- with a loss of which this is known
abbrev pub with_least : Loss → Lost → Lost
with_least loss lost = record lost {
  until = lost.until + loss.least;
  unknown = lost.unknown ++ (if loss.is_unknown then lost.until ∷ [] else []);
}

-- with the loss that a page states
abbrev pub with_loss : Missed → Lost → Lost
with_loss missed lost = record lost {
  until = lost.until + least_missed missed;
  unknown = lost.unknown ++ unknown_at lost.until missed;
}

-- with a page that can't be read, before which this many pages are
abbrev pub with_page : (index : ℕ) → ImageFault → Lost → Lost
with_page index fault lost = record lost {
  damaged = lost.damaged ++ record { number = record { 0 = lost.until }; page = index; fault = fault } ∷ [];
}
