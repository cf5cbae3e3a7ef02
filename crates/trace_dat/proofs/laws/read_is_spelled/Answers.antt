use Rattle.trace_dat.proofs.SpelledWhole.{file_is_spelled}
use Rattle.trace_dat.proofs.laws.read_is_spelled.Goals as goal

pub returns : goal.returns
returns c = λ file contents fits read. file_is_spelled file contents fits read
