use Rattle.trace_model.proofs.words.FirstFaults.{read_or_faulty, Decodes-FirstFault, FirstFault-unique}
use Rattle.trace_model.proofs.laws.words.reading_or_first_fault.Goals as goal

pub returns : goal.returns
returns c = record { one = read_or_faulty; reading_is_no_fault = Decodes-FirstFault; one_fault = FirstFault-unique }
