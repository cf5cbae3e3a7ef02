-- The links of a ring: each states which page is at a position, and in which fill.
-- After Documentation/trace/ring-buffer-design.rst, "Making the Ring Buffer Lockless": the two low bits
-- of a page's next pointer say HEADER or UPDATE. That the fill's number is in the link too is this
-- project's own, and so is the word (docs/formats/ring.md, "Link word").
use Rattle.std.specs.Prelude.{◌≡◌, ◌≢◌, ℕ, ◌+◌, ◌*◌, ◌%◌, ◌^◌, ◌<◌, Bool, ◌&&◌, ◌==◌}
use Rattle.trace_model.specs.declared.limits.TheConstants.{LINK_PAGES, LINK_FILLS}

-- normal: nothing is stated of the page. header: the page is the head. update: a writer moves the head
-- away from the page.
pub data Mark : Type 0 where
  normal header update : Mark

-- page: the number of the page that the link leads to. fill: of which fill the link speaks.
pub record Link : Type 0 where
  pub mark : Mark
  pub page : ℕ
  pub fill : ℕ

abbrev pub normal_link : ℕ → ℕ → Link
normal_link page fill = record { mark = normal; page = page; fill = fill }

abbrev pub header_link : ℕ → ℕ → Link
header_link page fill = record { mark = header; page = page; fill = fill }

abbrev pub update_link : ℕ → ℕ → Link
update_link page fill = record { mark = update; page = page; fill = fill }

-- the mark's two bits
abbrev pub mark_code : Mark → ℕ
mark_code normal = 0
mark_code header = 1
mark_code update = 2

-- the two are one link
abbrev pub same_link : Link → Link → Bool
same_link a b = mark_code a.mark == mark_code b.mark && a.page == b.page && a.fill == b.fill

-- The link as one word: the mark in bits 0 and 1, the page in bits 2 to 15, the fill in bits 16 to 63.
abbrev pub word_of : Link → ℕ
word_of l = mark_code l.mark + 4 * l.page + 65536 * l.fill

-- the page and the fill have as many bits as the word has for them
pub record FitsWord (l : Link) : Type 0 where
  pub page_fits : l.page < LINK_PAGES
  pub fill_fits : l.fill < LINK_FILLS

-- links that fit a word differ in their words
abbrev pub WordDecidesLink : Type 0
WordDecidesLink = (l other : Link) → FitsWord l → FitsWord other → word_of l ≡ word_of other → l ≡ other

-- the fourth value of the mark's two bits is no link's
abbrev pub ThreeIsNoMark : Type 0
ThreeIsNoMark = (l : Link) → word_of l % 4 ≢ 3

-- such a word has 64 bits
abbrev pub WordHasItsBits : Type 0
WordHasItsBits = (l : Link) → FitsWord l → word_of l < 2 ^ 64
