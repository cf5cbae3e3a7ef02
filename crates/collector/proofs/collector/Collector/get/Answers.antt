use Rattle.std.proofs.Common.{rules}
use Rattle.page_numbers.specs.Parcels.{as_parcel}
use Rattle.collector.proofs.Looking.{shown_kept, shown_missing, in_within, in_is, read_number, read_has, read_none}
use Rattle.collector.proofs.collector.Collector.get.Goals as goal

pub parcel-requires : goal.parcel-requires
parcel-requires c =
    in_within c.args.self.now c.in-Some-Kept.index c.args.cpu.0 c.args.number.0
    (shown_kept c.args.self.now c.args.cpu.0 c.args.number.0 c.in-Some-Kept.index c.stretch.result.content
    (search rules) c.stretch.ensures.here)

pub records_from-requires : goal.records_from-requires
records_from-requires c =
    (in_is c.args.self.now c.in-Some-Kept.index c.args.cpu.0 c.args.number.0 (as_parcel c.parcel.result.now)
    c.parcel.ensures
    (shown_kept c.args.self.now c.args.cpu.0 c.args.number.0 c.in-Some-Kept.index c.stretch.result.content
    (search rules) c.stretch.ensures.here)).1

pub returns-in-Some-Kept-clause-number : goal.returns-in-Some-Kept-clause-number
returns-in-Some-Kept-clause-number c =
    read_number c.args.self.now c.in-Some-Kept.index c.args.cpu.0 c.args.number.0 (as_parcel c.parcel.result.now)
    c.parcel.ensures
    (shown_kept c.args.self.now c.args.cpu.0 c.args.number.0 c.in-Some-Kept.index c.stretch.result.content
    (search rules) c.stretch.ensures.here)
    c.records_from.result c.next.new.self c.next.result c.records_from.ensures c.next.ensures.steps

pub returns-in-Some-Kept-clause-has : goal.returns-in-Some-Kept-clause-has
returns-in-Some-Kept-clause-has c =
    read_has c.args.self.now c.in-Some-Kept.index c.args.cpu.0 c.args.number.0 (as_parcel c.parcel.result.now)
    c.parcel.ensures
    (shown_kept c.args.self.now c.args.cpu.0 c.args.number.0 c.in-Some-Kept.index c.stretch.result.content
    (search rules) c.stretch.ensures.here)
    c.records_from.result c.next.new.self c.next.result c.records_from.ensures c.next.ensures.steps

pub returns-in-Some-Kept-clause-none : goal.returns-in-Some-Kept-clause-none
returns-in-Some-Kept-clause-none c =
    read_none c.args.self.now c.in-Some-Kept.index c.args.cpu.0 c.args.number.0 (as_parcel c.parcel.result.now)
    c.parcel.ensures
    (shown_kept c.args.self.now c.args.cpu.0 c.args.number.0 c.in-Some-Kept.index c.stretch.result.content
    (search rules) c.stretch.ensures.here)
    c.records_from.result c.next.new.self c.next.result c.records_from.ensures c.next.ensures.steps

pub returns-in-Some-Missing-clause-none : goal.returns-in-Some-Missing-clause-none
returns-in-Some-Missing-clause-none c r h = c.stretch.ensures.agree.not_missing c.args.cpu.0 c.args.number.0 r h
    (shown_missing c.args.self.now c.args.cpu.0 c.args.number.0 c.stretch.result.content (search rules)
    c.stretch.ensures.here)
