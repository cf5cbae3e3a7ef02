-- The steps of the reader: docs/formats/ring.md, "The reader", row by row.
-- After kernel/trace/ring_buffer.c (rb_get_reader_page, rb_head_page_replace).
use Rattle.std.specs.Prelude.{ℕ, suc, ◌+◌, ◌-◌, ◌%◌, if◌then◌else◌, ◌&&◌, ◌==◌, nat_lt, nat_le, [], ◌∷◌, ◌++◌, length}
use Rattle.std.specs.Prelude.{Some, slice_set}
use Rattle.trace_model.specs.Links.{Mark, normal, header, update, Link, normal_link, header_link, same_link}
use Rattle.trace_model.specs.Ring.{PageRecords, empty_page, TakenFill, Reader, ReaderPhase, loading_head, loading_done}
use Rattle.trace_model.specs.Ring.{storing_spare_link, swapping, Core, link_into, links_with, page_at}
use Rattle.trace_model.specs.Events.{reading, empty, moving, page_taken, wished_for, Outcome, only_if}
use Rattle.trace_model.specs.WriterSteps.{contents_of}

-- ---- looking: a load of the link into the position of the hint

-- the reader goes on in this phase, with this hint
abbrev pub reader_at : Core → ReaderPhase → ℕ → Core
reader_at c phase hint = record c { reader = record c.reader { phase = phase; hint = hint } }

-- the link is this one
abbrev pub reads_link : (n : ℕ) → Core → Mark → (page fill : ℕ) → Outcome
reads_link n c header page fill = Some (reading, reader_at c (loading_done page fill) fill)
reads_link n c update page fill = Some (moving (suc fill), reader_at c loading_head (suc fill))
reads_link n c normal page fill =
    if fill == c.reader.hint then Some (moving c.reader.hint, reader_at c loading_head c.reader.hint)
    else only_if (nat_lt c.reader.hint fill && nat_le n (suc fill))
    (Some (reading, reader_at c loading_head (suc fill - n)))

abbrev pub load_head : (n : ℕ) → Core → Outcome
load_head n c = let l : Link = link_into n c.links c.reader.hint in reads_link n c l.mark l.page l.fill

-- ---- is it closed? A load of the number of closed fills

-- the reader goes on in this phase, and has seen how many fills are closed
abbrev pub reader_saw : Core → ReaderPhase → Core
reader_saw c phase = record c { reader = record c.reader { phase = phase; seen = c.done } }

abbrev pub load_done : Core → (page fill : ℕ) → Outcome
load_done c page fill =
    if nat_le c.done fill then Some (empty c.done, reader_saw c loading_head)
    else Some (reading, reader_saw c (storing_spare_link page fill))

-- ---- storing: a store of the spare's link

-- it will lead to the fill after the one that is taken
abbrev pub next_header : ℕ → Core → ℕ → Link
next_header n c fill = header_link (page_at n c.order (suc fill)) (suc fill)

abbrev pub store_spare_link : (n : ℕ) → Core → (page fill : ℕ) → Outcome
store_spare_link n c page fill =
    Some (reading, record (reader_at c (swapping page fill) c.reader.hint) { spare_link = next_header n c fill })

-- ---- swapping: a compare and exchange of the link to the head from HEADER to NORMAL

-- what the reader takes with the page of a fill
abbrev pub taken_fill : Core → ℕ → ℕ → TakenFill
taken_fill c page fill =
    let held : PageRecords = contents_of c page in
    record { fill = fill; skipped = held.first - c.reader.expected; held = held }

-- the reader after a take of this fill
abbrev pub reader_after : Core → ℕ → ℕ → Reader
reader_after c page fill = record c.reader {
  phase = loading_head;
  hint = suc fill;
  expected = (contents_of c page).first + length (contents_of c page).records;
  taken = c.reader.taken ++ taken_fill c page fill ∷ [];
}

-- The state in which the head was taken: the spare is at its position, empty, and leads on; the page that
-- was the head is the spare.
abbrev pub after_swap : ℕ → Core → ℕ → ℕ → Core
after_swap n c page fill = record c {
  links = links_with n (links_with n c.links fill (normal_link c.spare (fill + n))) (suc fill) c.spare_link;
  order = slice_set c.order (fill % n) c.spare;
  spare = page;
  spare_link = link_into n c.links (suc fill);
  head = c.head + 1;
  reader = reader_after c page fill;
  held = slice_set (slice_set c.held c.spare empty_page) page empty_page;
}

abbrev pub swap_head : (n : ℕ) → Core → (page fill : ℕ) → Outcome
swap_head n c page fill =
    if same_link (link_into n c.links fill) (header_link page fill)
    then Some (page_taken (taken_fill c page fill), after_swap n c page fill)
    else Some (reading, reader_at c loading_head (suc fill))

-- ---- any phase: a store of the wish

-- the reader wishes for the fill after those that it knows to be closed
abbrev pub with_wish : Core → Core
with_wish c = record c { wish = c.reader.seen + 1 }

abbrev pub store_wish : Core → Outcome
store_wish c = Some (wished_for c.reader.seen, with_wish c)
