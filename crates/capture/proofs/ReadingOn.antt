-- A source is read on, page by page.
use Rattle.std.proofs.Common.{◌≡◌, ◌∙◌, ℕ, ◌+◌, ◌*◌, ◌≤◌, ◌<◌, List, [], ◌∷◌, ◌++◌, length, Option, Some, None}
use Rattle.std.proofs.Common.{refl, sym, ap, subst, arith, length-append, append-nil, append_assoc}
use Rattle.std.specs.Prelude.{map}
use Rattle.std.proofs.lemmas.List.{length-map}
use Rattle.std.specs.Io.KnownBytes.{Consumes}
use Rattle.std.proofs.KnownBytes.{Consumes-nil, Consumes-trans}
use Rattle.trace_model.specs.Image.{unknown}
use Rattle.capture.specs.Pages.{Page, told, AreCut, Fit}
use Rattle.capture.specs.Captures.{IsCapture, AddsPage, AddsRest, PassesNumbers}
use Rattle.capture.specs.Smaller.{smaller_in, smaller_pages}
use Rattle.capture.specs.Reading.{IsRead, IsReadPast, IsReadSmaller, IsReadOn, IsReadOnPast, IsReadOnSmaller}
use Rattle.capture.specs.declared.pages.Capture.{Capture}
use Rattle.capture.specs.declared.read.Extent.{Extent}
use Rattle.capture.proofs.Cut.{AreWhole, whole-none, whole-page, whole-rest, whole-past}
use Rattle.capture.proofs.SmallerPages.{ArePlain, in-none, plain-none, plain-page, plain-rest, shown-behind}
use Rattle.capture.proofs.Told.{all-told-unknown}

-- What was read of a source, after `first`, is whole pages, and this is pending.
pub record ReadsWhole (size : ℕ) (first pending : List ℕ) (unread left : Option (List ℕ)) (old capture : Capture) : Type
    0 where
  pub bytes : List ℕ
  pub front : List ℕ
  pub taken : Consumes unread left bytes
  pub parts : first ++ bytes ≡ front ++ pending
  pub plain : ArePlain size front
  pub cpu_is : capture.cpu ≡ old.cpu
  pub short : length first < size → (bytes ≡ []) × (pending ≡ first)
  pub are : (before : List Page) → IsCapture old before → AreWhole size unknown before front capture

pub reads-none : (size : ℕ) (first : List ℕ) (unread : Option (List ℕ)) (capture : Capture)
    → ReadsWhole size first first unread unread capture capture
reads-none size first unread capture = record {
  bytes = [];
  front = [];
  taken = Consumes-nil unread;
  parts = append-nil first;
  plain = plain-none size;
  cpu_is = refl;
  short = λ _. (refl, refl);
  are = λ before is. whole-none size unknown before capture is;
}

pub reads-page : (size : ℕ) (first pending piece : List ℕ) (unread left after : Option (List ℕ))
    (old capture new : Capture)
    → ReadsWhole size first pending unread left old capture → 0 < size → length pending ≡ size
    → smaller_in pending ≡ None → Consumes left after piece
    → new.cpu ≡ capture.cpu → ((pages : List Page) → IsCapture capture pages → AddsPage unknown pending pages new)
    → ReadsWhole size first piece unread after old new
reads-page size first pending piece unread left after old capture new was some long none taken cpu adds = record {
  bytes = was.bytes ++ piece;
  front = was.front ++ pending;
  taken = Consumes-trans unread left after was.bytes piece was.taken taken;
  parts = sym (append_assoc first was.bytes piece) ∙ ap (λ (xs : List ℕ). xs ++ piece) was.parts;
  plain = plain-page size was.front pending was.plain some long none;
  cpu_is = cpu ∙ was.cpu_is;
  short = λ few. absurd (let lengths = ap length (was.short few).1 in omega (arith, lengths, few, long));
  are = λ before is.
      let w = was.are before is in
      whole-page size unknown before was.front pending capture new w some long
      (adds (before ++ map (told unknown) w.more) w.capture_is);
}

-- how many pages were read
pub reads-count : (size : ℕ) (first pending : List ℕ) (unread left : Option (List ℕ)) (old capture : Capture)
    (was : ReadsWhole size first pending unread left old capture) (before : List Page) (is : IsCapture old before)
    → capture.pages ≡ old.pages + length (was.are before is).more
reads-count size first pending unread left old capture was before is =
    let w = was.are before is in
    omega (
      arith,
      w.capture_is.count_is,
      is.count_is,
      length-append before (map (told unknown) w.more),
      length-map w.more (told unknown),
    )

pub reads-more : (size : ℕ) (first pending : List ℕ) (unread left : Option (List ℕ)) (old capture new : Capture)
    (was : ReadsWhole size first pending unread left old capture) (before : List Page) (is : IsCapture old before)
    → ((pages : List Page) → IsCapture capture pages → AddsPage unknown pending pages new)
    → new.pages ≡ capture.pages + 1
reads-more size first pending unread left old capture new was before is adds =
    let w = was.are before is in
    let pages : List Page = before ++ map (told unknown) w.more in
    let added = adds pages w.capture_is in
    omega (arith, w.capture_is.count_is, added.capture_is.count_is, length-append pages (told unknown added.page ∷ []))

size_of : (size whole rest n front pending : ℕ) → front ≡ size * n → whole ≡ n → rest ≡ pending
    → front + pending ≡ size * whole + rest
size_of size whole rest n front pending is same as_well = omega (arith, ap (λ (k : ℕ). size * k) same)

pub reads-on : (size : ℕ) (first pending : List ℕ) (unread left : Option (List ℕ)) (old capture new : Capture)
    (extent : Extent)
    (was : ReadsWhole size first pending unread left old capture) → 0 < size → length pending ≤ size
    → smaller_in pending ≡ None
    → ((pages : List Page) → IsCapture capture pages → AddsRest unknown pending pages new)
    → capture.pages ≡ old.pages + extent.whole → extent.rest ≡ length pending
    → (before : List Page) → IsCapture old before → IsReadOn size first unread left before new extent
reads-on size first pending unread left old capture new extent was some fits none adds whole rest before is =
    let w = was.are before is in
    let count = reads-count size first pending unread left old capture was before is in
    let r =
    whole-rest size unknown before was.front pending capture new w fits
    (adds (before ++ map (told unknown) w.more) w.capture_is) in
    record {
      bytes = was.bytes;
      pages = r.more;
      taken = was.taken;
      cut = subst (λ (xs : List ℕ). AreCut size xs r.more) (sym was.parts) r.cut;
      none_smaller = ap (smaller_pages size) was.parts ∙ plain-rest size was.front pending was.plain some fits none;
      capture_is = subst (λ (ps : List Page). IsCapture new (before ++ ps)) (all-told-unknown r.more) r.capture_is;
      extent_is = ap length was.parts ∙ length-append was.front pending
          ∙ size_of size extent.whole extent.rest (length w.more) (length was.front) (length pending) w.whole
          (let same : extent.whole ≡ length w.more = omega (arith, count, whole) in same) rest;
      no_more = λ few. (was.short few).0;
    }

pub reads-past : (size : ℕ) (first pending : List ℕ) (unread left : Option (List ℕ)) (old capture : Capture)
    (was : ReadsWhole size first pending unread left old capture) → 0 < length pending → length pending ≤ size
    → smaller_in pending ≡ None
    → ((pages : List Page) → IsCapture capture pages → PassesNumbers unknown pending pages)
    → (before : List Page) → IsCapture old before → IsReadOnPast size first unread left before
reads-past size first pending unread left old capture was some fits none passes before is =
    let w = was.are before is in
    let p =
    whole-past size unknown before was.front pending capture w some fits
    (passes (before ++ map (told unknown) w.more) w.capture_is) in
    record {
      bytes = was.bytes;
      pages = p.more;
      taken = was.taken;
      cut = subst (λ (xs : List ℕ). AreCut size xs p.more) (sym was.parts) p.cut;
      none_smaller = ap (smaller_pages size) was.parts
          ∙ plain-rest size was.front pending was.plain (omega (arith, some, fits)) fits none;
      past = λ fit. p.past (subst (λ (ps : List Page). Fit (before ++ ps)) (sym (all-told-unknown p.more)) fit);
      no_more = λ few. (was.short few).0;
    }

pub none-shown : (shown found : Option ℕ) → found ≡ shown → ((size : ℕ) → found ≡ Some size → ⊥) → shown ≡ None
none-shown None found is not = refl
none-shown (Some size) found is not = absurd (not size is)

-- the pending page has smaller ones
pub reads-smaller : (size : ℕ) (first pending : List ℕ) (unread left : Option (List ℕ)) (old capture : Capture)
    (smaller : ℕ) → ReadsWhole size first pending unread left old capture → 0 < size → length pending ≤ size
    → smaller_in pending ≡ Some smaller → IsReadOnSmaller size first unread left smaller
reads-smaller size first [] unread left old capture smaller was some fits shown =
    absurd (let none = in-none in cc)
reads-smaller size first (x ∷ pending) unread left old capture smaller was some fits shown = record {
  bytes = was.bytes;
  taken = was.taken;
  smaller_is = ap (smaller_pages size) was.parts
      ∙ shown-behind size was.front (x ∷ pending) was.plain some (omega arith) fits ∙ shown;
  no_more = λ few. (was.short few).0;
}

-- a source of which all is read on after its first piece is read
pub read-whole : (size : ℕ) (first : List ℕ) (unread left after : Option (List ℕ)) (capture : Capture) (extent : Extent)
    → Consumes unread left first → IsReadOn size first left after [] capture extent → IsRead size unread after capture
read-whole size first unread left after capture extent taken on = record {
  bytes = first ++ on.bytes;
  pages = on.pages;
  taken = Consumes-trans unread left after first on.bytes taken on.taken;
  cut = on.cut;
  none_smaller = on.none_smaller;
  capture_is = on.capture_is;
}

pub read-whole-past : (size : ℕ) (first : List ℕ) (unread left after : Option (List ℕ))
    → Consumes unread left first → IsReadOnPast size first left after [] → IsReadPast size unread after
read-whole-past size first unread left after taken on = record {
  bytes = first ++ on.bytes;
  pages = on.pages;
  taken = Consumes-trans unread left after first on.bytes taken on.taken;
  cut = on.cut;
  none_smaller = on.none_smaller;
  past = on.past;
}

pub read-whole-smaller : (size : ℕ) (first : List ℕ) (unread left after : Option (List ℕ)) (smaller : ℕ)
    → Consumes unread left first → IsReadOnSmaller size first left after smaller
    → IsReadSmaller size unread after smaller
read-whole-smaller size first unread left after smaller taken on = record {
  bytes = first ++ on.bytes;
  taken = Consumes-trans unread left after first on.bytes taken on.taken;
  smaller_is = on.smaller_is;
}
