use Rattle.std.specs.Prelude.{ℕ, Bool, false}
use Rattle.std.proofs.Common.{sym, subst}
use Rattle.page_numbers.specs.Parcels.{as_parcel}
use Rattle.trace_run.specs.declared.writers.gate.Who.TheVariants as who
use Rattle.trace_run.proofs.threaded.reading.pass_on.Goals as goal

pub returns-clause-shut : goal.returns-clause-shut
returns-clause-shut g c =
    subst (λ (f : ℕ). g.P.PassesOn.answers c.args.passing.now who.Reader c.args.cpu.0 f false) (sym c.fill.ensures)
    (subst (λ (b : Bool).
    g.P.PassesOn.answers c.args.passing.now who.Reader c.args.cpu.0 (as_parcel c.in-Some.parcel.now).fill b)
    c.if-passes.false c.in_ok-passes.ensures)
