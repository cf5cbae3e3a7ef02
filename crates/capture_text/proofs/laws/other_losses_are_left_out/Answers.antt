use Rattle.std.proofs.Common.{ap, ◌∙◌, Option}
use Rattle.std.proofs.lemmas.Bool.{cond-true}
use Rattle.capture_text.specs.Listed.{is_run_listed, is_place_listed}
use Rattle.capture_text.specs.Window.{KnownBound}
use Rattle.capture_text.proofs.LeftOut.{run_kept, place_kept, there_is}
use Rattle.capture_text.proofs.laws.other_losses_are_left_out.Goals as goal

pub returns : goal.returns
returns c = record {
  runs = λ selected cpu lines run below marked.
      ap (λ (b : Option KnownBound). is_run_listed b run) (cond-true _ _ _ marked)
      ∙ run_kept selected cpu (there_is cpu below) lines run;
  places = λ selected cpu lines number below marked.
      ap (λ (b : Option KnownBound). is_place_listed b number) (cond-true _ _ _ marked)
      ∙ place_kept selected cpu (there_is cpu below) lines number;
}
