-- The texts of collectors, one after the other.
use Rattle.std.proofs.Common.{◌≡◌, ℕ, ◌+◌, ◌-◌, ◌≤◌, List, [], ◌∷◌, ◌++◌, length, drop, flat_map, append_assoc, sym, ap}
use Rattle.std.proofs.Common.{◌∙◌, subst, arith, length-drop, length-append}
use Rattle.std.specs.List.{slice_range}
use Rattle.std.proofs.lemmas.List.{drop-append-le, take-append-le, take_all}
use Rattle.std.proofs.Math.Seq.{drop-append_seam}
use Rattle.std.specs.Prelude.{codes, slice_index_or}
use Rattle.std.specs.Fmt.{decimal}
use Rattle.trace_model.specs.Parcel.{Parcel}
use Rattle.trace_model.specs.Listing.{Line, IsListing}
use Rattle.trace_model.specs.Collection.{IsSame}
use Rattle.collector.specs.Runs.{AreMissingRuns}
use Rattle.text_model.specs.Text.{line_feed}
use Rattle.world_model.specs.Printing.{Shown, printed_collector, printed_line, printed_runs}
use Rattle.collector_text.specs.Prints.{IsPrintOf, StandsBetween, text_below}
use Rattle.collector_text.proofs.OneText.{same_are_reported}

-- the lines and the runs are what is below a collector's head line
pub reported_below : (parcels : List Parcel) (before middle out : List ℕ) (lines : List Line) → IsListing parcels lines
    → middle ≡ before ++ flat_map printed_line lines
    → (runs : List (List (ℕ × ℕ))) × ((cpu : ℕ) → AreMissingRuns parcels cpu (slice_index_or runs cpu []))
    × (out ≡ middle ++ printed_runs runs)
    → (shown : Shown) × IsPrintOf parcels shown × (out ≡ before ++ text_below shown)
reported_below parcels before middle out lines is text put = (
  record { lines = lines; runs = put.0 },
  record { lines = is; runs = put.1 },
  put.2
      ∙ ap (λ (t : List ℕ). t ++ printed_runs put.0) text
      ∙ append_assoc before (flat_map printed_line lines) (printed_runs put.0),
)

-- a collector that is the same is shown by what is put once more
pub reported_again : (others parcels : List Parcel) (before out : List ℕ) (start end : ℕ) → IsSame others parcels
    → StandsBetween others before start end → out ≡ before ++ slice_range before start end
    → (shown : Shown) × IsPrintOf parcels shown × (out ≡ before ++ text_below shown)
reported_again others parcels before out start end same stands text = (
  stands.shown,
  same_are_reported others parcels stands.shown same stands.reports,
  text ∙ ap (λ (t : List ℕ). before ++ t) stands.is,
)

-- ---- places in a text

-- the bytes between two places of a text are the same when more is appended to it
pub range_kept : (text more : List ℕ) (start end : ℕ) → start ≤ end → end ≤ length text
    → slice_range (text ++ more) start end ≡ slice_range text start end
range_kept text more start end forward inside =
    rw (drop-append-le start text more (omega arith))
    (take-append-le (end - start) (drop start text) more (omega (arith, length-drop start text)))

pub stands_kept : (parcels : List Parcel) (text more out : List ℕ) (start end : ℕ) → out ≡ text ++ more
    → StandsBetween parcels text start end → StandsBetween parcels out start end
stands_kept parcels text more out start end is stands =
    let longer = length-append text more in
    let inside = stands.inside in
    subst (λ (t : List ℕ). StandsBetween parcels t start end) (sym is) record {
      shown = stands.shown;
      reports = stands.reports;
      forward = stands.forward;
      inside = omega arith;
      is = range_kept text more start end stands.forward stands.inside ∙ stands.is;
    }

-- what was put last ends the text
pub stands_last : (parcels : List Parcel) (text out : List ℕ) (start end : ℕ) → start ≡ length text → end ≡ length out
    → (shown : Shown) × IsPrintOf parcels shown × (out ≡ text ++ text_below shown)
    → StandsBetween parcels out start end
stands_last parcels text out start end begin last (shown, reports, is) =
    let longer = length-append text (text_below shown) in
    let all : length out ≡ length text + length (text_below shown) = ap length is ∙ longer in
    let so_many : end - start ≡ length (text_below shown) = omega arith in
    record {
      shown = shown;
      reports = reports;
      forward = omega arith;
      inside = omega arith;
      is = rw (so_many, is, begin, drop-append_seam text (text_below shown)) (take_all _ _ (omega arith));
    }

-- ---- one part after the other

-- a head line and what is below it are a collector's text
pub reported_whole : (parcels : List Parcel) (number : ℕ) (before middle out : List ℕ)
    → middle ≡ before ++ (codes "collector " ++ decimal number ++ line_feed ∷ [])
    → (shown : Shown) × IsPrintOf parcels shown × (out ≡ middle ++ text_below shown)
    → (shown : Shown) × IsPrintOf parcels shown × (out ≡ before ++ printed_collector number shown)
reported_whole parcels number before middle out head (shown, reports, is) =
    (shown, reports, rw (is, head) (simp append_assoc))
