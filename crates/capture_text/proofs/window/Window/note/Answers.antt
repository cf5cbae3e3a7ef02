use Rattle.std.proofs.Common.{rules, ◌≡◌, ◌≢◌, ◌<◌, ℕ, Bool, true, false, ◌==◌, ◌&&◌, List, length, get_or}
use Rattle.std.proofs.Common.{refl, ap, sym, ◌∙◌, arith}
use Rattle.std.specs.Prelude.{nat_lt, slice_set}
use Rattle.std.specs.List.{slice_get}
use Rattle.std.proofs.lemmas.Bool.{cond-true, cond-false}
use Rattle.std.proofs.lemmas.Bool.Decides.{nat_tests}
use Rattle.std.proofs.lemmas.Option.{slice_get-get_or}
use Rattle.trace_model.specs.Listing.{Line}
use Rattle.trace_model.specs.declared.limits.TheConstants.{MAX_CPUS}
use Rattle.time_merge.specs.Lines.{line_seen}
use Rattle.world_model.proofs.Lookups.{get_set_here, get_set_other}
use Rattle.capture_text.specs.declared.window.Bound.{Bound}
use Rattle.capture_text.specs.Selection.{Selected, selection_seen}
use Rattle.capture_text.specs.Window.{KnownBound, bound_seen, bound_or_none, noted, noted_of}
use Rattle.capture_text.proofs.window.Window.note.Goals as goal

is_other : (a b own : ℕ) → (a == b) ≡ false → a ≡ own → b ≢ own
is_other a b own is same = grind (arith, nat_tests)

is_same : (a b : ℕ) → (a == b) ≡ true → a ≡ b
is_same a b is = grind (arith, nat_tests)

is_both : (a b : ℕ) → (a == b) ≡ true → b < MAX_CPUS → (a == b && nat_lt b MAX_CPUS) ≡ true
is_both a b is inside = grind (arith, nat_tests)

is_neither : (a b : ℕ) → (a == b) ≡ false → (a == b && nat_lt b MAX_CPUS) ≡ false
is_neither a b is = grind (arith, nat_tests)

noted_at : (bounds : List Bound) (given none : Bound) (own cpu : ℕ) (selected : Selected) (line : Line)
    → own < length bounds → own < MAX_CPUS → line.cpu ≡ own
    → bound_seen given ≡ noted selected (bound_seen (get_or bounds own none)) line
    → bound_or_none (slice_get (slice_set bounds own given) cpu)
    ≡ noted_of selected cpu (bound_or_none (slice_get bounds cpu)) line
noted_at bounds given none own cpu selected line inside below cpu_is seen = by (line.cpu == cpu) refl
  where
    by : (b : Bool) → (line.cpu == cpu) ≡ b → bound_or_none (slice_get (slice_set bounds own given) cpu)
        ≡ noted_of selected cpu (bound_or_none (slice_get bounds cpu)) line
    by true is =
        let at : cpu ≡ own = sym (is_same line.cpu cpu is) ∙ cpu_is in
        ap (λ (k : ℕ). bound_or_none (slice_get (slice_set bounds own given) k)) at
        ∙ ap bound_or_none (get_set_here bounds own given inside) ∙ seen
        ∙ ap (λ (b : KnownBound). noted selected b line)
        (ap bound_or_none (sym (slice_get-get_or bounds own none inside)))
        ∙ ap (λ (k : ℕ). noted selected (bound_or_none (slice_get bounds k)) line) (sym at)
        ∙ sym (cond-true _ _ _ (is_both line.cpu cpu is (omega (arith, at, below))))
    by false is =
        ap bound_or_none (get_set_other bounds own cpu given (is_other line.cpu cpu own is cpu_is))
        ∙ sym (cond-false _ _ _ (is_neither line.cpu cpu is))

pub returns-then-cpu-lt256 : goal.returns-then-cpu-lt256
returns-then-cpu-lt256 c cpu =
    let len : length c.args.self.now.of_cpus ≡ 256 = search rules in
    noted_at c.args.self.now.of_cpus c.noted.result _ c.args.line.now.cpu.0 cpu (selection_seen c.args.selection.now)
    (line_seen c.args.line.now) (omega (arith, len, c.if-cpu-lt256.true)) c.if-cpu-lt256.true refl c.noted.ensures
