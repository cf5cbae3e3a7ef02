use Rattle.trace_model.proofs.laws.links.words_decide_links.Goals as goal
use Rattle.trace_model.proofs.words.LinkWords.{word_reports, no_mark, word_bits}

pub returns : goal.returns
returns c = record { one = word_reports; bits = word_bits; marks = no_mark }
