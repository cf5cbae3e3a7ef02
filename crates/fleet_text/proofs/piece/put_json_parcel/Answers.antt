use Rattle.std.proofs.Common.{codes, length}
use Rattle.std.specs.Fmt.{decimal}
use Rattle.page_numbers.specs.Parcels.{as_parcel}
use Rattle.fleet_text.specs.Printing.{json_cpu}
use Rattle.text_values.proofs.Chains.{put_as}
use Rattle.fleet_text.proofs.Pieces.{four_numbers}
use Rattle.fleet_text.proofs.piece.put_json_parcel.Goals as goal

pub returns : goal.returns
returns g c = λ start text has.
    let put0 = rw c.cpu.ensures.cpu at (c.put_json_cpu.ensures start text has) in
    let put1 = rw c.fill.ensures at (c.put_numbered.ensures start _ put0) in
    let put2 = rw c.first.ensures.first at (c.put_numbered-2.ensures start _ put1) in
    let put3 = rw c.count.ensures at (c.put_numbered-3.ensures start _ put2) in
    let put = rw c.missed.ensures.missed at (c.put_numbered-4.ensures start _ put3) in
    let parcel = as_parcel c.args.parcel.now in
    put_as start _ _ _
    (four_numbers text (json_cpu c.args.stream.0 parcel.cpu) (codes ",\"fill\":") (decimal parcel.fill)
    (codes ",\"first\":")
    (decimal parcel.first) (codes ",\"count\":") (decimal (length parcel.records)) (codes ",\"missed\":")
    (decimal parcel.missed))
    put
