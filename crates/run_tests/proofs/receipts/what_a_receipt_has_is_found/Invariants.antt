use Rattle.run_tests.proofs.receipts.what_a_receipt_has_is_found.Given as goal

abbrev pub ghosts-write_and_take : goal.ghosts-write_and_take
ghosts-write_and_take a call = record { table = call.writer.table }
