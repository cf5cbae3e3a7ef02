use Rattle.std.proofs.Common.{arith}
use Rattle.event_fields.proofs.NumberLists.{no_number, first_is, others_are_fewer, rest_is}
use Rattle.event_fields.proofs.list.Numbers.split_first.Goals as goal

pub returns-then-self-byte_count-clause-numbers : goal.returns-then-self-byte_count-clause-numbers
returns-then-self-byte_count-clause-numbers c =
    no_number c.args.self.is_signed c.args.self.size c.args.self.bytes.now (omega arith)

pub returns-then-self-byte_count-clause-shorter : goal.returns-then-self-byte_count-clause-shorter
returns-then-self-byte_count-clause-shorter c =
    no_number c.args.self.is_signed c.args.self.size c.args.self.bytes.now (omega arith)

pub returns-clause-numbers : goal.returns-clause-numbers
returns-clause-numbers c =
    first_is c.args.self.is_signed c.args.self.size c.args.self.bytes.now _ _ (omega arith) c.number_at-number.ensures
    (rest_is c.args.self.bytes.now c.byte_count-2.result _ c.byte_count-2.ensures)

pub returns-clause-shorter : goal.returns-clause-shorter
returns-clause-shorter c =
    others_are_fewer c.args.self.is_signed c.args.self.size c.args.self.bytes.now _ _ (omega arith)
    c.number_at-number.ensures (rest_is c.args.self.bytes.now c.byte_count-2.result _ c.byte_count-2.ensures)
