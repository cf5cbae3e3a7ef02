-- What a take of the head makes of a ring.
use Rattle.std.specs.Prelude.{ℕ, ◌+◌, ◌%◌, List, length, Option, Some, slice_set}
use Rattle.trace_model.specs.Ring.{link_into, links_with}
use Rattle.page_image.specs.Contents.{Contents}
use Rattle.nested_writer.specs.Stack.{blank_page}
use Rattle.ring_frames.specs.declared.reader.ReaderPhase.TheVariants.{LoadingHead}
use Rattle.ring_core.specs.Value.{CoreValue}

-- the pages at home, the reader's among them, empty, in a body of this size
abbrev pub with_spare_home : CoreValue → ℕ → List (Option Contents)
with_spare_home v size = slice_set v.homes v.spare (Some (blank_page size 0 0))

-- The head is this fill, on this page. The spare is put at its position and leads on, and the head's page is the new
-- spare of the reader, who expects this number next.
abbrev pub with_head_taken : CoreValue → (page fill expected : ℕ) → CoreValue
with_head_taken v page fill expected = record v {
  links = links_with (length v.links) v.links (fill + 1) v.spare_link;
  spare_link = link_into (length v.links) v.links (fill + 1);
  order = slice_set v.order (fill % length v.links) v.spare;
  spare = page;
  reader = record v.reader { phase = LoadingHead; hint = fill + 1; expected = expected };
}
