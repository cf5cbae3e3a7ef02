-- Raw pages that are read with too large a size. The kernel's reader gives pages of one size, one after the other, each
-- with its own head (kernel/trace/ring_buffer.c, ring_buffer_read_page), and zeros behind its data. So if several are
-- read as one, the others' heads stand behind the data of the first.
use Rattle.std.specs.Prelude.{ℕ, zero, suc, ◌+◌, ◌-◌, ◌/◌, ◌^◌, ◌==◌, ◌&&◌, ◌||◌, nat_lt, nat_le, Bool, if◌then◌else◌}
use Rattle.std.specs.Prelude.{List, [], ◌∷◌, length, take, drop, Option, Some, None}
use Rattle.trace_model.specs.Image.{from_le64}
use Rattle.capture.specs.stamps.Restored.{stated_size}

-- Bits 32 to 63 of the commit word, which mean nothing: none of them is set, or all are.
abbrev pub has_plain_bits : List ℕ → Bool
has_plain_bits bytes =
    from_le64 (drop 8 bytes) / 2 ^ 32 == 0 || from_le64 (drop 8 bytes) / 2 ^ 32 == 2 ^ 32 - 1

-- bytes begin with the head of a page of this size, with data
abbrev pub begins_page : (size : ℕ) → List ℕ → Bool
begins_page size bytes =
    nat_lt 0 (stated_size bytes) && nat_le (16 + stated_size bytes) size && has_plain_bits bytes

-- a time is as late as another one, or later by less than 2^48
abbrev pub comes_after : (before time : ℕ) → Bool
comes_after before time = nat_le before time && nat_lt time (before + 2 ^ 48)

-- What is read as one page has another one, this many bytes after its beginning: its own data ends before, and there
-- the head of a page of this size stands, with data, and no earlier.
abbrev pub has_page_at : (size : ℕ) → List ℕ → Bool
has_page_at size page =
    nat_le (size + 16) (length page) && nat_le (16 + stated_size page) size && begins_page size (drop size page)
    && comes_after (from_le64 page) (from_le64 (drop size page))

-- of sizes the first at which there is another page
abbrev pub first_shown : (sizes page : List ℕ) → Option ℕ
first_shown [] page = None
first_shown (size ∷ sizes) page = if has_page_at size page then Some size else first_shown sizes page

-- the sizes of a kernel's pages, in bytes, but for the largest one, 65536
abbrev pub small_sizes : List ℕ
small_sizes = 4096 ∷ 8192 ∷ 16384 ∷ 32768 ∷ []

-- the size of the smaller pages that what is read as one page has, if it has several
unfoldable pub smaller_in : (page : List ℕ) → Option ℕ
smaller_in page = first_shown small_sizes page

-- the first of two things, if it is there
abbrev pub first_of_both : Option ℕ → Option ℕ → Option ℕ
first_of_both (Some size) other = Some size
first_of_both None other = other

-- of the first pages of bytes, each of `size` bytes, the first that has smaller ones
abbrev pub smaller_within : (count size : ℕ) → List ℕ → Option ℕ
smaller_within zero size bytes = None
smaller_within (suc count) size bytes =
    first_of_both (smaller_in (take size bytes)) (smaller_within count size (drop size bytes))

-- The size of the smaller pages that bytes have, if they are cut into pages of `size` bytes and one of these shows it.
-- There are no more pages than bytes.
abbrev pub smaller_pages : (size : ℕ) → List ℕ → Option ℕ
smaller_pages size bytes = smaller_within (length bytes) size bytes
