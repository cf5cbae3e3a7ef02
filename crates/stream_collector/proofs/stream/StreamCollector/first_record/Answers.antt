use Rattle.std.proofs.Common.{subst, arith}
use Rattle.page_borrow.specs.Entries.{numbered_record}
use Rattle.collector.specs.Listed.{AreRecordsFrom}
use Rattle.stream_collector.specs.Stream.{Stream}
use Rattle.stream_collector.proofs.Frontiers.{first_has, first_is_least}
use Rattle.stream_collector.proofs.stream.StreamCollector.first_record.Goals as goal

pub returns-then-entry-end-clause-there : goal.returns-then-entry-end-clause-there
returns-then-entry-end-clause-there c =
    let list = subst (λ (s : Stream). AreRecordsFrom s.parcels c.args.cpu.0 c.args.from c.records_from-records.result)
    c.self.view_is c.records_from-records.ensures.from in
    (first_has c.args.self.now.parcels c.args.cpu.0 c.args.from c.records_from-records.result c.next.new.self
    (numbered_record c.in-Some.entry) list c.in-Some.ensures.steps).has

pub returns-then-entry-end-clause-from : goal.returns-then-entry-end-clause-from
returns-then-entry-end-clause-from c =
    let list = subst (λ (s : Stream). AreRecordsFrom s.parcels c.args.cpu.0 c.args.from c.records_from-records.result)
    c.self.view_is c.records_from-records.ensures.from in
    (first_has c.args.self.now.parcels c.args.cpu.0 c.args.from c.records_from-records.result c.next.new.self
    (numbered_record c.in-Some.entry) list c.in-Some.ensures.steps).up

pub returns-then-entry-end-clause-first : goal.returns-then-entry-end-clause-first
returns-then-entry-end-clause-first c n r up lt h =
    let list = subst (λ (s : Stream). AreRecordsFrom s.parcels c.args.cpu.0 c.args.from c.records_from-records.result)
    c.self.view_is c.records_from-records.ensures.from in
    let le = first_is_least c.args.self.now.parcels c.args.cpu.0 c.args.from c.records_from-records.result
    c.next.new.self (numbered_record c.in-Some.entry) list c.in-Some.ensures.steps n r up h in
    omega arith

pub returns-else-entry-end-clause-none : goal.returns-else-entry-end-clause-none
returns-else-entry-end-clause-none c n r up lt h =
    let list = subst (λ (s : Stream). AreRecordsFrom s.parcels c.args.cpu.0 c.args.from c.records_from-records.result)
    c.self.view_is c.records_from-records.ensures.from in
    let le = first_is_least c.args.self.now.parcels c.args.cpu.0 c.args.from c.records_from-records.result
    c.next.new.self (numbered_record c.in-Some.entry) list c.in-Some.ensures.steps n r up h in
    omega arith
