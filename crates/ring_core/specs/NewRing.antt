-- The parts of a new ring, position by position and page by page.
use Rattle.std.specs.Prelude.{◌≡◌, ◌≢◌, ℕ, ◌<◌, List, Option, Some}
use Rattle.link_marks.specs.FirstLinks.{EachAt, IsFirstLink}
use Rattle.link_marks.specs.declared.link.Link as code
use Rattle.link_marks.specs.ModelLinks.{link_of}
use Rattle.page_image.specs.Contents.{Contents}

abbrev pub AreFirstLinks : (n start : ℕ) → List code.Link → Type 0
AreFirstLinks n start links = EachAt (λ position link. IsFirstLink n start position (link_of link)) links

-- a page of this size is at home
abbrev pub IsFirstHome : ℕ → Option Contents → Type 0
IsFirstHome size home = (body : Contents) × (home ≡ Some body) × (body.size ≡ size)

-- a page is at home for each position but the tail's
abbrev pub AreFirstHomes : (n size tail : ℕ) → List (Option Contents) → Type 0
AreFirstHomes n size tail homes = EachAt (λ page home. page < n → page ≢ tail → IsFirstHome size home) homes
