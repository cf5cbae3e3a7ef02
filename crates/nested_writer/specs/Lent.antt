-- What contracts see of an open page that lends a payload, and of the open pages but the tail.
use Rattle.std.specs.Prelude.{ℕ, ◌+◌, List, slice_range}
use Rattle.record_words.specs.declared.put.Place.{Place}
use Rattle.page_image.specs.Contents.{Contents}
use Rattle.page_image.specs.Lending.{with_payload}

-- an open page, and the place in it that is lent to be written
pub record Lent : Type 0 where
  pub page : Contents
  pub place : Place

-- the page
abbrev pub page_of : Lent → Contents
page_of p = p.page

-- the bytes that are lent
abbrev pub lent_bytes : Lent → List ℕ
lent_bytes p = slice_range p.page.bytes p.place.start (p.place.start + p.place.len)

-- the page with these bytes at the place that is lent, as far as its data reaches
abbrev pub with_bytes : Lent → List ℕ → Lent
with_bytes p part = record p { page = with_payload p.page p.place.start part }

-- the open pages but the tail, the oldest first, and for how many there is room
pub record OlderPages : Type 0 where
  pub pages : List Contents
  pub room : ℕ
