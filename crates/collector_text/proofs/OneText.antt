-- What a collector has and misses decides its text.
use Rattle.std.proofs.Common.{◌≡◌, ℕ, ◌+◌, List, [], ◌∷◌, ◌++◌, flat_map, refl, ap, ◌∙◌}
use Rattle.std.specs.Prelude.{Bool, if◌then◌else◌, slice_index_or}
use Rattle.std.specs.List.{AllZip, enumerate_from}
use Rattle.trace_model.specs.Parcel.{Parcel}
use Rattle.trace_model.specs.Collection.{Misses, IsSame}
use Rattle.trace_model.proofs.collections.Collections.{same_itself}
use Rattle.trace_model.proofs.collections.Listings.{one_listing}
use Rattle.text_model.specs.Log.{LogLine}
use Rattle.text_model.specs.Printing.{printed_log_line}
use Rattle.world_model.specs.Printing.{Shown, printed_missing, printed_collector, printed_world}
pub use Rattle.world_model.proofs.OneRuns.{one_runs, one_runs_text}
use Rattle.collector_text.specs.Prints.{IsPrintOf}

-- what shows a collector shows each that is the same
pub same_are_reported : (parcels others : List Parcel) (shown : Shown) → IsSame parcels others → IsPrintOf parcels shown
    → IsPrintOf others shown
same_are_reported parcels others shown same reported = record {
  lines = record {
    ordered = reported.lines.ordered;
    of_them = λ k line at. same.below.has _ _ _ (reported.lines.of_them k line at);
    whole = λ cpu number r has. reported.lines.whole cpu number r (same.above.has cpu number r has);
  };
  runs = λ cpu. record {
    forward = (reported.runs cpu).forward;
    apart = (reported.runs cpu).apart;
    of_them = λ n h. same.below.misses cpu n ((reported.runs cpu).of_them n h);
    whole = λ n h. (reported.runs cpu).whole n (same.above.misses cpu n h);
  };
}

-- a collector has one text
pub one_text : (parcels : List Parcel) (shown other : Shown) (number : ℕ) → IsPrintOf parcels shown
    → IsPrintOf parcels other
    → printed_collector number shown ≡ printed_collector number other
one_text parcels shown other number reported also =
    let lines = one_listing parcels parcels shown.lines other.lines (same_itself parcels) reported.lines also.lines in
    let runs : (k : ℕ) → slice_index_or shown.runs k [] ≡ slice_index_or other.runs k [] = λ k.
    one_runs (Misses parcels k) (slice_index_or shown.runs k []) (slice_index_or other.runs k [])
    (reported.runs k) (also.runs k) in
    let text = one_runs_text printed_missing 0 shown.runs other.runs runs in
    rw (lines, text) refl

-- the text of collectors from this number on
abbrev text_of_all : ℕ → List Shown → List ℕ
text_of_all number shown =
    flat_map (λ (pair : ℕ × Shown). printed_collector pair.0 pair.1) (enumerate_from number shown)

-- and so have several of them
one_text_of_all : (number : ℕ) (collectors : List (List Parcel)) (shown other : List Shown)
    → AllZip IsPrintOf collectors shown → AllZip IsPrintOf collectors other
    → text_of_all number shown ≡ text_of_all number other
one_text_of_all number [] [] [] reported also = refl
one_text_of_all number [] [] (o ∷ os) reported also = absurd also
one_text_of_all number [] (s ∷ ss) other reported also = absurd reported
one_text_of_all number (c ∷ cs) [] other reported also = absurd reported
one_text_of_all number (c ∷ cs) (s ∷ ss) [] reported also = absurd also
one_text_of_all number (c ∷ cs) (s ∷ ss) (o ∷ os) reported also =
    let first = one_text c s o number reported.0 also.0 in
    let rest = one_text_of_all (number + 1) cs ss os reported.1 also.1 in
    ap (λ (text : List ℕ). text ++ text_of_all (number + 1) ss) first
    ∙ ap (λ (text : List ℕ). printed_collector number o ++ text) rest

-- and so has what a replay prints
pub one_world_text : (collectors : List (List Parcel)) (shown other : List Shown) (asked : Bool) (log : List LogLine)
    → AllZip IsPrintOf collectors shown → AllZip IsPrintOf collectors other
    → printed_world asked log shown ≡ printed_world asked log other
one_world_text collectors shown other asked log reported also =
    ap (λ (text : List ℕ). (if asked then flat_map printed_log_line log else []) ++ text)
    (one_text_of_all 0 collectors shown other reported also)
