-- What was read of a source.
use Rattle.std.specs.Prelude.{◌≡◌, ℕ, ◌+◌, ◌*◌, ◌<◌, List, [], ◌++◌, length, Option, Some, None}
use Rattle.std.specs.Io.KnownBytes.{Consumes}
use Rattle.capture.specs.Pages.{Page, AreCut, Fit}
use Rattle.capture.specs.Captures.{IsCapture}
use Rattle.capture.specs.Smaller.{smaller_pages}
use Rattle.capture.specs.declared.pages.Capture.{Capture}
use Rattle.capture.specs.declared.read.Extent.{Extent}

-- The source had `unread` before, and `left` after these bytes; they are a capture, none of whose pages shows smaller
-- ones, and this is what is read of it.
pub record IsRead (size : ℕ) (unread left : Option (List ℕ)) (capture : Capture) : Type 0 where
  pub bytes : List ℕ
  pub pages : List Page
  pub taken : Consumes unread left bytes
  pub cut : AreCut size bytes pages
  pub none_smaller : smaller_pages size bytes ≡ None
  pub capture_is : IsCapture capture pages

-- The bytes that were read are pages whose numbers don't fit.
pub record IsReadPast (size : ℕ) (unread left : Option (List ℕ)) : Type 0 where
  pub bytes : List ℕ
  pub pages : List Page
  pub taken : Consumes unread left bytes
  pub cut : AreCut size bytes pages
  pub none_smaller : smaller_pages size bytes ≡ None
  pub past : Fit pages → ⊥

-- The bytes that were read show that the pages are smaller, and have this size.
pub record IsReadSmaller (size : ℕ) (unread left : Option (List ℕ)) (smaller : ℕ) : Type 0 where
  pub bytes : List ℕ
  pub taken : Consumes unread left bytes
  pub smaller_is : smaller_pages size bytes ≡ Some smaller

-- A source, of which `first` had been read already, had `unread` before, and `left` after these bytes. All of them are
-- pages after the ones before, and this is what is read of all.
pub record IsReadOn (size : ℕ) (first : List ℕ) (unread left : Option (List ℕ)) (before : List Page) (capture : Capture)
    (extent : Extent) : Type 0 where
  pub bytes : List ℕ
  pub pages : List Page
  pub taken : Consumes unread left bytes
  pub cut : AreCut size (first ++ bytes) pages
  pub none_smaller : smaller_pages size (first ++ bytes) ≡ None
  pub capture_is : IsCapture capture (before ++ pages)
  pub extent_is : length (first ++ bytes) ≡ size * extent.whole + extent.rest
  pub no_more : length first < size → bytes ≡ []

-- such a source was read to its end, and with the pages the numbers don't fit
pub record IsReadOnPast (size : ℕ) (first : List ℕ) (unread left : Option (List ℕ)) (before : List Page) : Type 0 where
  pub bytes : List ℕ
  pub pages : List Page
  pub taken : Consumes unread left bytes
  pub cut : AreCut size (first ++ bytes) pages
  pub none_smaller : smaller_pages size (first ++ bytes) ≡ None
  pub past : Fit (before ++ pages) → ⊥
  pub no_more : length first < size → bytes ≡ []

-- such a source was read until a page showed that the pages are smaller, and have this size
pub record IsReadOnSmaller (size : ℕ) (first : List ℕ) (unread left : Option (List ℕ)) (smaller : ℕ) : Type 0 where
  pub bytes : List ℕ
  pub taken : Consumes unread left bytes
  pub smaller_is : smaller_pages size (first ++ bytes) ≡ Some smaller
  pub no_more : length first < size → bytes ≡ []
