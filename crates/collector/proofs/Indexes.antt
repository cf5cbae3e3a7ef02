-- What an index states when the ranges of one CPU change, and when all are copied.
use Rattle.std.proofs.Common.{◌≡◌, ◌≢◌, ℕ, ◌<◌, ◌≤◌, ◌↔◌, ⊎_elim, Option, Some, None, MatchOption, Result, Ok, Err}
use Rattle.std.proofs.Common.{OnOk, OnErr, refl, sym, ap, ◌∙◌, subst, arith}
use Rattle.std.specs.Option.{IfNone, IsSomeAnd}
use Rattle.std.specs.Ordering.{nat_cmp}
use Rattle.std.specs.BTreeMap.{get, is_at}
use Rattle.std.specs.Map.{lookup}
use Rattle.std.proofs.lemmas.Bool.{cases_lt, cases_eq}
use Rattle.std.proofs.lemmas.Option.{none-some}
use Rattle.trace_model.proofs.collections.Elements.{some_is}
use Rattle.collector.specs.declared.ranges.Content.{Content}
use Rattle.collector.specs.declared.ranges.Content.TheVariants.{Kept, Missing}
use Rattle.collector.specs.declared.ranges.Ranges.{Ranges}
use Rattle.collector.specs.declared.index.Index.{Index}
use Rattle.collector.specs.Ranges.{HasContent, IsStated, ReportSame, AreApart, IsLaid, IsCopy}
use Rattle.collector.specs.Index.{HasRanges, ReportsOf, AreAllApart, AreAllStated, ReportSameOf, IsIndexCopy}
use Rattle.collector.proofs.Spans.{keys_report_same}

-- ---- one CPU's ranges

pub reports_of : (index : Index) (cpu n : ℕ) (content : Content) (ranges : Ranges)
    → HasRanges index cpu ranges → ReportsOf index cpu n content → HasContent ranges n content
reports_of index cpu n content ranges at t = let there = t.at in
    subst (λ (x : Ranges). HasContent x n content)
    (let e : t.ranges ≡ ranges = some_is t.ranges ranges (sym there ∙ at) in e) t.reports

-- of a CPU without ranges nothing is stated
pub reports_none : (index : Index) (cpu n : ℕ) (content : Content) → get nat_cmp index.cpus cpu ≡ None
    → ReportsOf index cpu n content → ⊥
reports_none index cpu n content none t = none-some t.ranges (sym none ∙ t.at)

pub unreported_of : (index : Index) (cpu number end : ℕ) (ranges : Ranges) (o : Option Content)
    → HasRanges index cpu ranges
    → IfNone o ((n : ℕ) (content : Content) → number ≤ n → n < end → HasContent ranges n content → ⊥)
    → IfNone o ((n : ℕ) (content : Content) → number ≤ n → n < end → ReportsOf index cpu n content → ⊥)
unreported_of index cpu number end ranges None at unreported =
    λ n content from below t. unreported n content from below (reports_of index cpu n content ranges at t)
unreported_of index cpu number end ranges (Some content) at unreported = unreported

pub unreported_here_of : (index : Index) (cpu number : ℕ) (ranges : Ranges) (o : Option Content)
    → HasRanges index cpu ranges
    → IfNone o ((content : Content) → HasContent ranges number content → ⊥)
    → IfNone o ((content : Content) → ReportsOf index cpu number content → ⊥)
unreported_here_of index cpu number ranges None at unreported =
    λ content t. unreported content (reports_of index cpu number content ranges at t)
unreported_here_of index cpu number ranges (Some content) at unreported = unreported

-- what was stated of a CPU, by its ranges or by empty ones
pub was_there : (index : Index) (cpu : ℕ) (ranges : Ranges) → HasRanges index cpu ranges
    → (n : ℕ) (content : Content) → (ReportsOf index cpu n content ↔ HasContent ranges n content)
was_there index cpu ranges at n content =
    (reports_of index cpu n content ranges at, λ t. record { ranges = ranges; at = at; reports = t })

pub was_nothing : (index : Index) (cpu : ℕ) (ranges : Ranges) → get nat_cmp index.cpus cpu ≡ None
    → ((n : ℕ) (content : Content) → HasContent ranges n content → ⊥)
    → (n : ℕ) (content : Content) → (ReportsOf index cpu n content ↔ HasContent ranges n content)
was_nothing index cpu ranges none unreported n content =
    (λ t. absurd (reports_none index cpu n content none t), λ t. absurd (unreported n content t))

-- ---- the ranges of one CPU changed

module _ (old new : Index) (cpu : ℕ) (before after : Ranges)
    (was : (n : ℕ) (content : Content) → (ReportsOf old cpu n content ↔ HasContent before n content))
    (here : HasRanges new cpu after)
    (other : (q : ℕ) → q ≢ cpu → get nat_cmp new.cpus q ≡ get nat_cmp old.cpus q) where
  is : (n : ℕ) (content : Content) → (ReportsOf new cpu n content ↔ HasContent after n content)
  is n content = (reports_of new cpu n content after here, λ t. record { ranges = after; at = here; reports = t })

  -- what holds of the ranges of each CPU
  each : (P : Ranges → Type 0) → ((q : ℕ) (ranges : Ranges) → HasRanges old q ranges → P ranges) → P after
      → (q : ℕ) (ranges : Ranges) → HasRanges new q ranges → P ranges
  each P all there q ranges at = ⊎_elim
      (λ (e : q ≡ cpu). let same : after ≡ ranges = some_is after ranges
      (sym here ∙ ap (get nat_cmp new.cpus) (sym e) ∙ at) in
      subst P same there)
      (λ (apart : q ≢ cpu). all q ranges (sym (other q apart) ∙ at))
      (cases_eq q cpu)

  pub all_stated : AreAllStated old → IsStated after → AreAllStated new
  all_stated = each IsStated

  pub here_laid : (low first end parcel : ℕ) → IsLaid (HasContent before) (HasContent after) low first end parcel
      → IsLaid (ReportsOf old cpu) (ReportsOf new cpu) low first end parcel
  here_laid low first end parcel laid = record {
    missing = λ n from below. (is n Missing).1 (laid.missing n from below);
    missing_alone = λ n content from below t. laid.missing_alone n content from below ((is n content).0 t);
    kept = λ n from below. (is n (Kept parcel)).1 (laid.kept n from below);
    kept_alone = λ n content from below t. laid.kept_alone n content from below ((is n content).0 t);
    in_front = λ n content lt. (
      (λ t. (is n content).1 ((laid.in_front n content lt).0 ((was n content).0 t))),
      (λ t. (was n content).1 ((laid.in_front n content lt).1 ((is n content).0 t))),
    );
    behind = λ n content ge. (
      (λ t. (is n content).1 ((laid.behind n content ge).0 ((was n content).0 t))),
      (λ t. (was n content).1 ((laid.behind n content ge).1 ((is n content).0 t))),
    );
  }

-- ---- something is stated

pub laid_stated : (before after : Ranges) (low first end parcel : ℕ) → low < end
    → IsLaid (HasContent before) (HasContent after) low first end parcel → IsStated after
laid_stated before after low first end parcel some laid = ⊎_elim
    (λ (lt : low < first). (low, Missing, laid.missing low (omega arith) lt))
    (λ (ge : first ≤ low). (low, Kept parcel, laid.kept low ge some))
    (cases_lt low first)

pub same_stated : (before after : Ranges) → ReportSame before after → IsStated before → IsStated after
same_stated before after same stated = (stated.0, stated.1, (same stated.0 stated.1).0 stated.2)

pub laid_or_refused : {X E : Type 0} (r : Result X E) (before after : Ranges) (low first end parcel : ℕ) → low < end
    → OnOk r (IsLaid (HasContent before) (HasContent after) low first end parcel)
    → OnErr r (ReportSame before after) → IsStated before → IsStated after
laid_or_refused (Ok x) before after low first end parcel some laid same stated =
    laid_stated before after low first end parcel some laid
laid_or_refused (Err e) before after low first end parcel some laid same stated = same_stated before after same stated

-- ---- ranges copied

copy_keys : (ranges copy : Ranges) → IsCopy ranges copy → (q : ℕ)
    → get nat_cmp copy.spans q ≡ get nat_cmp ranges.spans q
copy_keys ranges copy e q = ap (λ es. lookup (is_at (nat_cmp q)) es) e

copy_apart : (ranges copy : Ranges) → IsCopy ranges copy → AreApart ranges → AreApart copy
copy_apart ranges copy e apart first later span other at at_later lt =
    apart first later span other (sym (copy_keys ranges copy e first) ∙ at)
    (sym (copy_keys ranges copy e later) ∙ at_later) lt

source_of : (o c : Option Ranges) (copy : Ranges)
    → MatchOption o (c ≡ None) (λ ranges. IsSomeAnd c (λ other. IsCopy ranges other))
    → c ≡ Some copy → (ranges : Ranges) × (o ≡ Some ranges) × IsCopy ranges copy
source_of None c copy none at = absurd (none-some copy (sym none ∙ at))
source_of (Some ranges) None copy h at = absurd (none-some copy at)
source_of (Some ranges) (Some other) copy h at = (ranges, refl, subst (IsCopy ranges) (some_is other copy at) h)

copy_of : (o c : Option Ranges) (ranges : Ranges)
    → MatchOption o (c ≡ None) (λ ranges. IsSomeAnd c (λ other. IsCopy ranges other))
    → o ≡ Some ranges → (copy : Ranges) × (c ≡ Some copy) × IsCopy ranges copy
copy_of None c ranges h at = absurd (none-some ranges at)
copy_of (Some other) None ranges h at = absurd h
copy_of (Some other) (Some copy) ranges h at =
    (copy, refl, subst (λ (x : Ranges). IsCopy x copy) (some_is other ranges at) h)

module _ (index copy : Index) (copied : IsIndexCopy index copy) where
  source_at : (cpu : ℕ) (x : Ranges) → HasRanges copy cpu x
      → (ranges : Ranges) × HasRanges index cpu ranges × IsCopy ranges x
  source_at cpu x at = source_of (get nat_cmp index.cpus cpu) (get nat_cmp copy.cpus cpu) x (copied cpu) at

  copy_at : (cpu : ℕ) (x : Ranges) → HasRanges index cpu x
      → (ranges : Ranges) × HasRanges copy cpu ranges × IsCopy x ranges
  copy_at cpu x at = copy_of (get nat_cmp index.cpus cpu) (get nat_cmp copy.cpus cpu) x (copied cpu) at

  pub copies_apart : AreAllApart index → AreAllApart copy
  copies_apart all cpu x at = let h = source_at cpu x at in copy_apart h.0 x h.2 (all cpu h.0 h.1)

  pub copies_stated : AreAllStated index → AreAllStated copy
  copies_stated all cpu x at = let h = source_at cpu x at in
      same_stated h.0 x (keys_report_same h.0 x (copy_keys h.0 x h.2)) (all cpu h.0 h.1)

  pub copies_same : (cpu : ℕ) → ReportSameOf index copy cpu
  copies_same cpu n content = (
    (λ t. let h = copy_at cpu t.ranges t.at in
        record {
          ranges = h.0;
          at = h.1;
          reports = (keys_report_same t.ranges h.0 (copy_keys t.ranges h.0 h.2) n content).0 t.reports;
        }),
    (λ t. let h = source_at cpu t.ranges t.at in
        record {
          ranges = h.0;
          at = h.1;
          reports = (keys_report_same h.0 t.ranges (copy_keys h.0 t.ranges h.2) n content).1 t.reports;
        }),
  )
