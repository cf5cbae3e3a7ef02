use Rattle.text_model.proofs.CommandTable.{command_spelled, spelled_command}
use Rattle.text_model.proofs.laws.scripts.command_is_spelled.Goals as goal

pub returns : goal.returns
returns c cpus collectors fields command =
    (λ h. command_spelled cpus collectors fields command h, λ h. spelled_command cpus collectors fields command h)
