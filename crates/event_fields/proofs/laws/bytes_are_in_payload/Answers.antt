use Rattle.event_fields.proofs.PieceLemmas.{bytes_found}
use Rattle.event_fields.proofs.laws.bytes_are_in_payload.Goals as goal

pub returns : goal.returns
returns c = λ layout payload bytes found. bytes_found layout payload bytes found
