use Rattle.parcel_streams.proofs.Readings.{one_piece}
use Rattle.parcel_streams.proofs.OneFault.{one_fault, piece_no_fault, piece_or_fault}
use Rattle.parcel_streams.proofs.laws.bytes_have_a_piece_or_a_fault.Goals as goal

pub returns-clause-one : goal.returns-clause-one
returns-clause-one c = piece_or_fault

pub returns-clause-piece_is_no_fault : goal.returns-clause-piece_is_no_fault
returns-clause-piece_is_no_fault c = piece_no_fault

pub returns-clause-one_piece : goal.returns-clause-one_piece
returns-clause-one_piece c = one_piece

pub returns-clause-one_fault : goal.returns-clause-one_fault
returns-clause-one_fault c = one_fault
