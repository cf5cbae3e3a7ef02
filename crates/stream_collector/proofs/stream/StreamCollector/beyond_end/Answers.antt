use Rattle.std.proofs.Common.{◌≡◌, ℕ, Some, sym, ap, ◌∙◌, arith}
use Rattle.page_numbers.specs.Parcels.{as_parcel}
use Rattle.stream_collector.specs.declared.marks.Marks.{Marks}
use Rattle.stream_collector.specs.Stream.{end_of}
use Rattle.stream_collector.proofs.OneParcel.{one_known, known_within}
use Rattle.stream_collector.proofs.stream.StreamCollector.beyond_end.Goals as goal

pub returns-in-Some-clause-beyond : goal.returns-in-Some-clause-beyond
returns-in-Some-clause-beyond c = record {
  end = c.in-Some.end;
  end_is = ap (λ (k : ℕ). end_of c.args.self.now k) (sym c.cpu.ensures.cpu) ∙ ap (λ (m : Marks). m.end)
      (sym c.marks.ensures)
      ∙ c.in-Some.is;
  beyond = omega arith;
  known = one_known (as_parcel c.args.parcel.now) c.max-in-Some.result (omega arith) (omega arith) (omega arith);
}

pub returns-in_default-clause-none : goal.returns-in_default-clause-none
returns-in_default-clause-none c cpu n beyond =
    let one = known_within (as_parcel c.args.parcel.now) cpu n beyond.known in
    let here : end_of c.args.self.now c.args.parcel.now.cpu ≡ Some beyond.end =
    ap (λ (k : ℕ). end_of c.args.self.now k) (sym one.cpu_is) ∙ beyond.end_is in
    let end_is : end_of c.args.self.now c.args.parcel.now.cpu ≡ Some c.in-Some.end =
    ap (λ (k : ℕ). end_of c.args.self.now k) (sym c.cpu.ensures.cpu) ∙ ap (λ (m : Marks). m.end) (sym c.marks.ensures)
    ∙ c.in-Some.is in
    let same : beyond.end ≡ c.in-Some.end = cc in
    omega arith
