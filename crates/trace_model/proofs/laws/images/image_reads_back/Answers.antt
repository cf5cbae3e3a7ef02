use Rattle.trace_model.proofs.images.Images.{length-image_of, DecodesImage-image_of}
use Rattle.trace_model.proofs.laws.images.image_reads_back.Goals as goal

pub returns : goal.returns
returns c = record { length_is = length-image_of; read_back = DecodesImage-image_of }
