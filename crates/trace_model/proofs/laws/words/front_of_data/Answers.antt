use Rattle.trace_model.proofs.words.WordFaults.{front_cases, HasWord-HasEnding, HasWord-HasFault, HasEnding-HasFault}
use Rattle.trace_model.proofs.laws.words.front_of_data.Goals as goal

pub returns-clause-one : goal.returns-clause-one
returns-clause-one c = front_cases

pub returns-clause-word_is_no_ending : goal.returns-clause-word_is_no_ending
returns-clause-word_is_no_ending c = HasWord-HasEnding

pub returns-clause-word_is_no_fault : goal.returns-clause-word_is_no_fault
returns-clause-word_is_no_fault c = λ bytes word fault. HasWord-HasFault bytes fault.0 word fault.1

pub returns-clause-ending_is_no_fault : goal.returns-clause-ending_is_no_fault
returns-clause-ending_is_no_fault c = λ bytes ends fault. HasEnding-HasFault bytes fault.0 ends fault.1
