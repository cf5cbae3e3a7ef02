use Rattle.std.proofs.Common.{Err, arith}
use Rattle.record_words.specs.declared.next.WordFault.TheVariants.{Cut}
use Rattle.record_words.proofs.WordReads.{IsOk-iff, Cut-iff, BadLength-iff, faulty_few}
use Rattle.record_words.proofs.next.next_word.Goals as goal

pub returns-then-data-at-lt4-clause-ok : goal.returns-then-data-at-lt4-clause-ok
returns-then-data-at-lt4-clause-ok c =
    IsOk-iff c.args.data.now c.args.at (Err (Cut c.args.at)) tt
    (faulty_few c.args.data.now c.args.at c.requires (omega arith))

pub returns-then-data-at-lt4-clause-fault : goal.returns-then-data-at-lt4-clause-fault
returns-then-data-at-lt4-clause-fault c = faulty_few c.args.data.now c.args.at c.requires (omega arith)

pub returns-clause-ok : goal.returns-clause-ok
returns-clause-ok c = IsOk-iff c.args.data.now c.args.at c.word_at.result c.word_at.ensures.read c.word_at.ensures.fault

pub returns-clause-is_cut : goal.returns-clause-is_cut
returns-clause-is_cut c =
    Cut-iff c.args.data.now c.args.at c.word_at.result c.word_at.ensures.read c.word_at.ensures.fault

pub returns-clause-has_bad_length : goal.returns-clause-has_bad_length
returns-clause-has_bad_length c =
    BadLength-iff c.args.data.now c.args.at c.word_at.result c.word_at.ensures.read c.word_at.ensures.fault
