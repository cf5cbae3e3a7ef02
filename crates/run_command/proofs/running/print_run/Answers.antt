use Rattle.std.proofs.Common.{inl, refl}
use Rattle.run_command.proofs.running.print_run.Goals as goal

-- what the run left is printed
pub returns-in_ok-print_ran-in-Some : goal.returns-in_ok-print_ran-in-Some
returns-in_ok-print_ran-in-Some g c =
    let text = c.in_ok-print_ran-in-Some.ensures in
    inl (
      record {
        ran = c.in-Some.ran;
        of_script = rw c.in-Some.is at c.in_ok-found.ensures;
        shown = text.0;
        reported = text.1;
        printed = text.2;
      },
      refl,
    )
