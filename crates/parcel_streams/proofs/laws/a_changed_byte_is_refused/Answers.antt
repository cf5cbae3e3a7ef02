use Rattle.parcel_streams.proofs.Changed.{pieces_differ, changed_refused}
use Rattle.parcel_streams.proofs.laws.a_changed_byte_is_refused.Goals as goal

pub returns-clause-pieces : goal.returns-clause-pieces
returns-clause-pieces c = pieces_differ

pub returns-clause-reading : goal.returns-clause-reading
returns-clause-reading c = λ bytes changed piece at b d within elsewhere other. changed_refused bytes changed piece
    other at b d within elsewhere
