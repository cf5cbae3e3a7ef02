use Rattle.text_model.proofs.StartZero.{same_script, same_fault}
use Rattle.text_model.proofs.laws.scripts.start_zero_is_meant.Goals as goal

pub returns-clause-script : goal.returns-clause-script
returns-clause-script c text other script h = same_script text other script h

pub returns-clause-fault : goal.returns-clause-fault
returns-clause-fault c text other number fault h = same_fault text other number fault h
