use Rattle.page_image.proofs.ImageReads.{too_short-iff, bad_size-iff, bad_count-iff, bad_word-iff}
use Rattle.page_image.proofs.image.read_image.Goals as goal

pub returns-clause-is_too_short : goal.returns-clause-is_too_short
returns-clause-is_too_short c = too_short-iff c.args.bytes.now c.read.result c.read.ensures.reads c.read.ensures.fault

pub returns-clause-has_bad_size : goal.returns-clause-has_bad_size
returns-clause-has_bad_size c = bad_size-iff c.args.bytes.now c.read.result c.read.ensures.reads c.read.ensures.fault

pub returns-clause-has_bad_count : goal.returns-clause-has_bad_count
returns-clause-has_bad_count c = bad_count-iff c.args.bytes.now c.read.result c.read.ensures.reads c.read.ensures.fault

pub returns-clause-has_bad_word : goal.returns-clause-has_bad_word
returns-clause-has_bad_word c =
    λ cause at. bad_word-iff c.args.bytes.now c.read.result cause at c.read.ensures.reads c.read.ensures.fault
