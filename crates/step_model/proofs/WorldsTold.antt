-- A step text is that of the script's world: what the text of its lines says, the lines do.
use Rattle.std.proofs.Common.{ℕ, List, [], ◌∷◌}
use Rattle.text_model.specs.Script.{Command, begin_frame, step_frame, finish_frame, write, close, step_reader}
use Rattle.text_model.specs.Script.{take_page, wish, deliver, Script}
use Rattle.world_model.specs.World.{World, DeliversFill, delivers, lacks, Obeys, ObeysAll}
use Rattle.step_model.specs.RunTexts.{TellsDelivery, tells_page, tells_none, TellsLine, TellsAll}
use Rattle.step_model.specs.StepLaws.{TextsAreOfWorlds}

told_fill : (line collector cpu fill : ℕ) (before after : World) (text : List ℕ)
    → TellsDelivery line collector cpu fill before after text → DeliversFill line collector cpu fill before after
told_fill line collector cpu fill before after text (tells_page d is) = delivers d
told_fill line collector cpu fill before after text (tells_none d is) = lacks d

pub told_line : (script : Script) (line : ℕ) (command : Command) (before after : World) (text : List ℕ)
    → TellsLine script line command before after text → Obeys script line command before after
told_line script line (begin_frame cpu moment payload) before after text t = t.runs
told_line script line (step_frame cpu count) before after text t = t.runs
told_line script line (finish_frame cpu) before after text t = t.runs
told_line script line (write cpu moment payload) before after text t = t.runs
told_line script line (close cpu) before after text t = t.runs
told_line script line (step_reader cpu count) before after text t = t.runs
told_line script line (take_page cpu) before after text t = t.runs
told_line script line (wish cpu) before after text t = t.runs
told_line script line (deliver collector cpu fill) before after text t =
    told_fill line collector cpu fill before after text t

told_lines : (script : Script) (lines : List (ℕ × Command)) (before after : World) (text : List ℕ)
    → TellsAll script lines before after text → ObeysAll script lines before after
told_lines script [] before after text all = all.0
told_lines script (line ∷ lines) before after text (between, first, rest, one, is, all) =
    (between, told_line script line.0 line.1 before between first one, told_lines script lines between after rest all)

pub texts_are_of_worlds : TextsAreOfWorlds
texts_are_of_worlds script after text t =
    record { new = t.new; is_new = t.is_new; obeyed = told_lines script script.commands t.new after t.rest t.tells }
