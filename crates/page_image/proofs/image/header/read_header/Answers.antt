use Rattle.std.proofs.Common.{inl, inr, arith, length-drop}
use Rattle.page_image.proofs.ImageReads.{bad_size_from, parts_from}
use Rattle.page_image.proofs.image.header.read_header.Goals as goal
use Rattle.page_image.proofs.image.header.read_header.Goals.{then-too_long-via-then-too_long}
use Rattle.page_image.proofs.image.header.read_header.Goals.{then-too_long-via-else-too_long+then-bytes-commit}

pub returns-then-too_long-clause-fault :
    goal.returns-then-too_long-clause-fault
returns-then-too_long-clause-fault c =
    bad_size_from c.args.bytes.now c.number_at-time.result c.number_at.result c.commit_in-commit.result
    (λ i. omega (arith, c.type_inv.bytes i)) (omega arith) c.number_at-time.ensures c.number_at.ensures
    c.commit_in-commit.ensures
    (elim c.then-too_long.branch [
      | then-too_long-via-then-too_long w ↦ inr (omega arith)
      | then-too_long-via-else-too_long+then-bytes-commit w ↦ inl
          (omega (arith, length-drop 16 c.args.bytes.now))
    ])

pub returns-clause-ok : goal.returns-clause-ok
returns-clause-ok c =
    parts_from c.args.bytes.now c.number_at-time.result c.number_at.result c.commit_in-commit.result
    (λ i. omega (arith, c.type_inv.bytes i)) (omega arith) c.number_at-time.ensures c.number_at.ensures
    c.commit_in-commit.ensures (omega arith)
