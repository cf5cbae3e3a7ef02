-- The lines of all CPUs, by the records of each.
use Rattle.std.proofs.Common.{◌≡◌, ℕ, suc, ◌+◌, ◌<◌, List, [], ◌∷◌, ◌++◌, append-nil, append_assoc, length, map, Some}
use Rattle.std.proofs.Common.{All, refl, sym, subst, arith}
use Rattle.std.specs.List.{slice_get}
use Rattle.std.specs.List.Sorted.{IsSortedBy}
use Rattle.std.proofs.lemmas.Option.{none-some}
use Rattle.itertools.specs.KMerge.{joined_lists}
use Rattle.trace_model.specs.Record.{Record}
use Rattle.trace_model.specs.Parcel.{Parcel}
use Rattle.trace_model.specs.Collection.{Has}
use Rattle.trace_model.specs.Listing.{Line as ModelLine, IsListing}
use Rattle.collector.specs.Listed.{AreRecordsOf}
use Rattle.time_merge.specs.EachCpu.{lines_of_each}
use Rattle.time_merge.specs.LineOrder.{comes_before, line_of}
use Rattle.time_merge.specs.Lines.{AreLinesOf, HasBelow}
use Rattle.time_merge.specs.Merging.{merged_lists}
use Rattle.time_merge.proofs.ByNumber.{lines_more}
use Rattle.time_merge.proofs.Merging.{merged_listing}

no_lines : (ps : List Parcel) → AreLinesOf (HasBelow ps 0) []
no_lines ps = record {
  ordered = tt;
  of_them = λ line s. absurd (none-some line s.1);
  whole = λ cpu number r h. let low = h.below in absurd (omega arith);
}

lines_below : (ps : List Parcel) (cpu : ℕ) (lines : List ModelLine) (records : List (List (ℕ × Record)))
    → ((k : ℕ) (list : List (ℕ × Record)) → slice_get records k ≡ Some list → AreRecordsOf ps (cpu + k) list)
    → AreLinesOf (HasBelow ps cpu) lines
    → AreLinesOf (HasBelow ps (cpu + length records)) (lines ++ joined_lists (lines_of_each cpu records))
lines_below ps cpu lines [] each before =
    subst (λ n. AreLinesOf (HasBelow ps n) (lines ++ [])) (let e : cpu ≡ cpu + 0 = omega arith in e)
    (subst (AreLinesOf (HasBelow ps cpu)) (sym (append-nil lines)) before)
lines_below ps cpu lines (list ∷ records) each before =
    let own =
    subst (λ n. AreRecordsOf ps n list) (let e : cpu + 0 ≡ cpu = omega arith in e) (each 0 list refl) in
    let more =
    subst (λ n. AreLinesOf (HasBelow ps n) (lines ++ map (line_of cpu) list))
    (let e : cpu + 1 ≡ suc cpu = omega arith in e) (lines_more ps cpu lines list own before) in
    let all =
    lines_below ps (suc cpu) (lines ++ map (line_of cpu) list) records
    (λ k l at.
    subst (λ n. AreRecordsOf ps n l) (let e : cpu + suc k ≡ suc cpu + k = omega arith in e) (each (suc k) l at))
    more in
    subst (λ n.
    AreLinesOf (HasBelow ps n) (lines ++ (map (line_of cpu) list ++ joined_lists (lines_of_each (suc cpu) records))))
    (let e : suc cpu + length records ≡ cpu + suc (length records) = omega arith in e)
    (subst (AreLinesOf (HasBelow ps (suc cpu + length records)))
    (append_assoc lines (map (line_of cpu) list) (joined_lists (lines_of_each (suc cpu) records))) all)

-- The lines of each CPU's records, merged, are the listing, if each CPU's are sorted.
pub each_listing : (ps : List Parcel) (records : List (List (ℕ × Record)))
    → ((cpu : ℕ) (list : List (ℕ × Record)) → slice_get records cpu ≡ Some list → AreRecordsOf ps cpu list)
    → ((cpu number : ℕ) (r : Record) → Has ps cpu number r → cpu < length records)
    → All (IsSortedBy comes_before) (lines_of_each 0 records)
    → IsListing ps (merged_lists (lines_of_each 0 records))
each_listing ps records each known sorted =
    let below =
    lines_below ps 0 [] records
    (λ k list at.
    subst (λ n. AreRecordsOf ps n list) (let e : k ≡ 0 + k = omega arith in e) (each k list at)) (no_lines ps) in
    merged_listing ps (lines_of_each 0 records) record {
      ordered = below.ordered;
      of_them = λ line s. (below.of_them line s).has;
      whole = λ cpu number r h. below.whole cpu number r record {
        has = h;
        below = let low = known cpu number r h in omega arith;
      };
    } sorted
