use Rattle.std.proofs.Common.{refl, ◌∙◌}
use Rattle.trace_model.specs.ParcelBytes.{IsParcel}
use Rattle.page_numbers.specs.Parcels.{parcel_of_page}
use Rattle.tracering_c.specs.Calls.{is_page, is_none}
use Rattle.tracering_c.proofs.Given.{given_is}
use Rattle.tracering_c.proofs.NextPages.{next_stays}
use Rattle.tracering_c.proofs.reading.take_into.Goals as goal

pub returns-in-Page-clause-takes : goal.returns-in-Page-clause-takes
returns-in-Page-clause-takes c =
    let page = c.in-Page.page in
    let missed = c.in-Page.missed in
    let next = c.in-Page.ensures.next in
    let put = c.put_parcel-len.ensures in
    let cpu = c.args.end.now.cpu.0 in
    let sound : IsParcel (parcel_of_page cpu page missed) =
    record {
      cpu_known = c.requires.reader.cpu;
      numbers_fit = next.1.numbers_fit;
      missed_fit = next.1.missed_fit;
    } in
    is_page page missed refl
    (next_stays c.args.end.now page missed c.next.new.self c.put_back.new.self c.put_back.ensures.reader next.0)
    (c.put_back.ensures.unadded ∙ c.in-Page.ensures.added)
    (given_is cpu page missed c.args.out.now c.put_parcel-len.new.out c.of.result c.put_parcel-len.result put.bytes
    put.len put.used c.of.ensures)
    (record { whole = put.reads next.1.page sound; used = put.used_reads next.1.page sound })

pub returns-in-Empty-clause-takes : goal.returns-in-Empty-clause-takes
returns-in-Empty-clause-takes c = is_none c.in-Empty.ensures.next.0 c.in-Empty.ensures.added refl refl

pub returns-in-Moving-clause-takes : goal.returns-in-Moving-clause-takes
returns-in-Moving-clause-takes c = is_none c.in-Moving.ensures.next.0 c.in-Moving.ensures.added refl refl
