use Rattle.std.proofs.Common.{refl, sym, subst, arith, ◌∙◌}
use Rattle.page_numbers.specs.Parcels.{as_parcel}
use Rattle.parcel_streams.specs.Answers.{IsBodyFault}
use Rattle.parcel_streams.proofs.Bodies.{reported, unfitted_fault as other_fault, loose_fault}
use Rattle.parcel_streams.proofs.body.unfitted_fault.Goals.{in-Ok, in-Err+in-NoMemory, in-Err+in_default}
use Rattle.parcel_streams.proofs.body.unfitted_fault.Goals as goal

pub returns : goal.returns
returns c =
    let body = c.args.body.now in
    elim c.match-from_bytes.branch [
      | in-Ok w ↦
          let read = w.in-Ok.ensures in
          subst (IsBodyFault 0 body) (sym w.result-is) (
            refl,
            record {
              parcel = as_parcel w.in-Ok.field-0;
              reads = read.reads;
              otherwise = c.requires
                  (as_parcel w.in-Ok.field-0) read.reads;
            },
          )
      | in-Err+in-NoMemory w ↦
          let read = w.in-Err.ensures in
          let is = reported body _ w.in-Err.fault (λ i. omega (arith, c.type_inv.body i))
          refl read.fault read.read_back in
          subst (IsBodyFault 0 body) (sym w.result-is)
          (loose_fault body w.in-Err.fault is (sym w.in-NoMemory.is ∙ w.from.ensures) c.requires)
      | in-Err+in_default w ↦
          let read = w.in-Err.ensures in
          let is = reported body _ w.in-Err.fault (λ i. omega (arith, c.type_inv.body i))
          refl read.fault read.read_back in
          subst (IsBodyFault 0 body) (sym w.result-is)
          (other_fault body w.in-Err.fault w.from.result is w.from.ensures w.in_default.not-NoMemory)
    ]
