use Rattle.std.proofs.Common.{◌≡◌, ℕ, List, Some, refl}
use Rattle.capture_text.specs.declared.form.Form.{Form}
use Rattle.capture_text.specs.declared.form.Form.TheVariants.{Text, Json}
use Rattle.capture_text.specs.Printing.{run_lines}
use Rattle.capture_text.specs.Window.{unbounded}
use Rattle.capture_text.specs.Listed.{listed_runs}
use Rattle.capture_text.proofs.laws.each_loss_is_listed.Goals as goal

each_run : (form : Form) (all : List (List (ℕ × ℕ)))
    → listed_runs form (λ cpu. Some unbounded) all ≡ run_lines form all
each_run Text all = refl
each_run Json all = refl

pub returns : goal.returns
returns c = record {
  runs = each_run;
  losses = λ form cpu numbers. refl;
  damages = λ form parts cpu all. refl;
}
