use Rattle.fleet_text.specs.Printing.{id_text}
use Rattle.fleet_text.proofs.lines.put_id.Goals as goal

pub returns : goal.returns
unfolding id_text
returns g c = rw c.to_be_bytes.ensures at c.put_hex.ensures
