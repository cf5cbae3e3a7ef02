use Rattle.ring_model.proofs.links.LinksFit.{links_fit_words}
use Rattle.ring_model.proofs.laws.links.links_fit_words.Goals as goal

pub returns : goal.returns
returns c = record { fit = links_fit_words }
