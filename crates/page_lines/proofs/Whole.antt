-- All lines of a source, passed one after the other.
use Rattle.std.proofs.Common.{◌≡◌, ℕ, ◌+◌, Option, Some, None, List, [], ◌∷◌, ◌++◌, length, map, refl, sym, ap, subst}
use Rattle.std.proofs.Common.{append-nil, arith, ap₂, ◌∙◌}
use Rattle.std.specs.Io.KnownBytes.{Consumes}
use Rattle.trace_model.specs.declared.numbers.CpuId.{CpuId}
use Rattle.page_image.specs.declared.image.Missed.{Missed}
use Rattle.capture.specs.Pages.{Page}
use Rattle.capture.specs.files.Losses.{counted_losses, unknown_losses}
use Rattle.std.specs.List.Sorted.{IsSortedBy}
use Rattle.trace_model.specs.Record.{Record}
use Rattle.trace_model.specs.Parcel.{Parcel}
use Rattle.trace_model.specs.Listing.{Line as ModelLine}
use Rattle.collector.specs.Listed.{AreRecordsOf}
use Rattle.time_merge.specs.Heads.{first_in}
use Rattle.time_merge.specs.LineOrder.{line_of, comes_before}
use Rattle.time_merge.specs.Stretches.{RiseTo}
use Rattle.time_merge.specs.Walks.{TakesAll}
use Rattle.time_merge.proofs.StretchWalks.{stretch_sorted}
use Rattle.page_lines.specs.Sources.{Reading, ArePlain, Passes, PassesLine, IsFresh, IsNotAfter}
use Rattle.page_lines.specs.Sources.{NeverFall, ReadsAll, lines_from}
use Rattle.page_lines.specs.Stating.{told_by}
use Rattle.page_lines.specs.Tallies.{IsTally}
use Rattle.page_lines.proofs.Passing.{passes_none, passes_both}

module _ {R : Type 0} (remaining : R → Option (List ℕ)) where
  pub passes_all : (old new : Reading R) (lines : List ModelLine) → TakesAll (PassesLine remaining) old lines new
      → Passes remaining old lines new
  passes_all old new [] same = subst (λ (s : Reading R). Passes remaining old [] s) same (passes_none remaining old)
  passes_all old new (line ∷ lines) (mid, first, others) =
      passes_both remaining old mid new (line ∷ []) lines first.passes (passes_all mid new lines others)

  pub never_fall : (old new : Reading R) (lines : List ModelLine) → TakesAll (PassesLine remaining) old lines new
      → (low : ℕ) → IsNotAfter low (first_in old.left) → NeverFall low lines
  never_fall old new [] same low up = tt
  never_fall old new (line ∷ lines) (mid, first, others) low up = (
    subst (λ (head : Option ModelLine). IsNotAfter low head) first.head_is up,
    never_fall mid new lines others line.moment first.not_earlier,
  )

pub from_none : (head : Option ModelLine) → IsNotAfter 0 head
from_none None = tt
from_none (Some line) = omega arith

rise_to : (cpu low : ℕ) (records : List (ℕ × Record)) → NeverFall low (map (line_of cpu) records)
    → (last : ℕ) × RiseTo low records last
rise_to cpu low [] up = (low, refl)
rise_to cpu low (r ∷ records) up =
    let more = rise_to cpu r.1.moment records up.1 in (more.0, (up.0, more.1))

-- a CPU's lines that don't fall are sorted
pub lines_sorted : (ps : List Parcel) (cpu : ℕ) (records : List (ℕ × Record)) → AreRecordsOf ps cpu records
    → NeverFall 0 (map (line_of cpu) records) → IsSortedBy comes_before (map (line_of cpu) records)
lines_sorted ps cpu [] are up = λ k d low few. absurd (omega (arith, few))
lines_sorted ps cpu (r ∷ records) are up =
    let rise = rise_to cpu 0 (r ∷ records) up in
    stretch_sorted ps cpu r.0 (length (r ∷ records)) rise.0 [] (r ∷ records) []
    (subst (λ (list : List (ℕ × Record)). AreRecordsOf ps cpu list) (sym (append-nil (r ∷ records))) are)
    record { begins = (r.1, refl); count_is = refl; rise = rise.1 }

no_first : (lines : List ModelLine) → first_in lines ≡ None → lines ≡ []
no_first [] none = refl
no_first (line ∷ lines) none = absurd cc

-- a source that was opened gave lines until none was left
pub reads_all : {R : Type 0} (remaining : R → Option (List ℕ)) (cpu : CpuId) (reader : R) (size : ℕ)
    (known : Missed) (fresh opened ended : Reading R) (lines : List ModelLine) → IsFresh cpu reader size known fresh
    → Passes remaining fresh [] opened → TakesAll (PassesLine remaining) opened lines ended
    → first_in ended.left ≡ None → ReadsAll remaining cpu reader size known lines ended
reads_all {R} remaining cpu reader size known fresh opened ended lines begins opens takes none =
    let p = passes_both remaining fresh opened ended [] lines opens (passes_all remaining opened ended lines takes) in
    let from : fresh.tally.next.0 ≡ 0 = begins.nothing.tally_is.next_is in
    let same : map (told_by fresh.tally.known) p.pages ≡ map (told_by known) p.pages =
    ap (λ (m : Missed). map (told_by m) p.pages) begins.nothing.known_is in
    record {
      bytes = p.bytes;
      consumed = subst (λ (r : R). Consumes (remaining r) (remaining ended.reader) p.bytes) begins.reader_is p.consumed;
      pages = p.pages;
      plain = subst (λ (n : ℕ). ArePlain n p.bytes p.pages) begins.size_is p.plain;
      tally_is = subst (IsTally ended.tally) same (p.tally_is [] begins.nothing.tally_is);
      cpu_is = p.ring.cpu_is ∙ begins.nothing.cpu_is;
      known_is = p.ring.known_is ∙ begins.nothing.known_is;
      unknown_is = p.stated_is.unknown_is
          ∙ ap (λ (n : ℕ). n + unknown_losses p.pages) begins.nothing.none_unknown
          ∙ (let none : 0 + unknown_losses p.pages ≡ unknown_losses p.pages = omega arith in none);
      counted_is = p.stated_is.counted_is
          ∙ ap (λ (n : ℕ). n + counted_losses p.pages) begins.nothing.none_counted
          ∙ (let none : 0 + counted_losses p.pages ≡ counted_losses p.pages = omega arith in none);
      count_is = omega (arith, p.count_is, begins.no_bytes);
      lines_are =
          sym (append-nil lines) ∙ ap (λ (ls : List ModelLine). lines ++ ls) (sym (no_first ended.left none))
          ∙ sym p.lines_are
          ∙ ap (λ (ls : List ModelLine). ls
          ++ lines_from fresh.tally.cpu.0 fresh.tally.next.0 (map (told_by fresh.tally.known) p.pages))
          begins.none_left
          ∙ ap₂ (λ (c n : ℕ). lines_from c n (map (told_by fresh.tally.known) p.pages))
          (ap (λ (c : CpuId). c.0) begins.nothing.cpu_is) from
          ∙ ap (lines_from cpu.0 0) same;
      never_fall = never_fall remaining opened ended lines takes 0 (from_none (first_in opened.left));
    }
