-- The part of a page that its parcel can't do without.
use Rattle.std.specs.Prelude.{ℕ, ◌+◌, length}
use Rattle.trace_model.specs.Image.{stored_count}
use Rattle.page_image.specs.Contents.{Contents}

-- How many bytes of a page's room are used: by its records, and by the count of missed records if that is stored.
abbrev pub used_size : Contents → ℕ → ℕ
used_size page missed = length page.bytes + length (stored_count page.bytes missed page.size)

-- the page, without the room that isn't used
abbrev pub used_page : Contents → ℕ → Contents
used_page page missed = record page { size = used_size page missed }
