use Rattle.std.proofs.Common.{◌≡◌, ◌∙◌, ap, sym, subst, ℕ, List, map}
use Rattle.std.proofs.lemmas.Iterator.Consumers.{YieldsList-from_first, YieldsList-end}
use Rattle.trace_model.specs.Record.{Record}
use Rattle.page_borrow.specs.Entries.{numbered_record}
use Rattle.page_numbers.specs.Parcels.{as_parcel, entries_of_parcel}
use Rattle.live_listing.specs.Gaps.{gap_seen}
use Rattle.trace_model.specs.declared.numbers.CpuId.{CpuId}
use Rattle.live_listing.specs.Pages.{AddsLine, AreLinesOf, records_behind, lost_behind}
use Rattle.page_lines.proofs.Values.{values, more_values, without_numbers}
use Rattle.live_listing.proofs.Behind.{line_more}
use Rattle.live_listing.proofs.pages.CpuPages.read_records.Goals as goal

pub loop-entry-preserved : goal.loop-entry-preserved
loop-entry-preserved c =
    let l = c.loop-entry in
    let added = c.in_ok-add_record.ensures in
    let lost = gap_seen c.args.self.now.gap in
    let cpu = c.args.self.now.cpu.0 in
    let r = (numbered_record c.in-Some.entry).1 in
    let more =
    line_more cpu lost (values l.yielded) r l.lines.items c.add_record.new.lines.items
    (gap_seen l.self.gap) (gap_seen c.add_record.new.self.gap) l.invariant.1 l.invariant.2
    (subst (λ (n : ℕ). AddsLine n (gap_seen l.self.gap) r l.lines.items c.add_record.new.lines.items
    (gap_seen c.add_record.new.self.gap)) (ap (λ (n : CpuId). n.0) l.invariant.0.cpu_is) added.added) in
    let same = sym (more_values l.yielded c.in-Some.entry) in (
      record {
        cpu_is = added.cpu.cpu_is ∙ l.invariant.0.cpu_is;
        pages_are = added.cpu.pages_are ∙ l.invariant.0.pages_are;
        intact_is = added.cpu.intact_is ∙ l.invariant.0.intact_is;
      },
      subst (λ (rs : List Record). AreLinesOf cpu c.add_record.new.lines.items (records_behind lost rs)) same more.0,
      subst (λ (rs : List Record). gap_seen c.add_record.new.self.gap ≡ lost_behind lost rs) same more.1,
    )

-- the records that were yielded are all of the parcel
all_yielded : (c : goal.In-None) → values c.loop-entry.yielded ≡ (as_parcel c.args.parcel.now).records
all_yielded c =
    let l = c.loop-entry in
    let parcel = as_parcel c.args.parcel.now in
    let all =
    YieldsList-end
    (YieldsList-from_first numbered_record (λ left. left) (entries_of_parcel parcel)
    (c.into_iter-entry-iterator.ensures.into_iter_gives ∙ c.records-entry-items.ensures.entries)) l.yielded _
    l.yielded_by _ _ c.in-None.is c.next.ensures.steps in
    ap (map (λ (pair : ℕ × Record). pair.1)) all.0 ∙ without_numbers parcel.first parcel.records

pub returns-clause-lines : goal.returns-clause-lines
returns-clause-lines c =
    subst
    (λ (rs : List Record).
    AreLinesOf c.args.self.now.cpu.0 c.loop-entry.lines.items (records_behind (gap_seen c.args.self.now.gap) rs))
    (all_yielded c) c.loop-entry.invariant.1

pub returns-clause-gap : goal.returns-clause-gap
returns-clause-gap c =
    subst
    (λ (rs : List Record). gap_seen c.loop-entry.self.gap ≡ lost_behind (gap_seen c.args.self.now.gap) rs)
    (all_yielded c) c.loop-entry.invariant.2
