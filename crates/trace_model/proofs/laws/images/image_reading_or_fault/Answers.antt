use Rattle.trace_model.proofs.images.Images.{image_read_or_faulty, DecodesImage-FirstImageFault, DecodesImage-unique}
use Rattle.trace_model.proofs.images.Images.{FirstImageFault-unique}
use Rattle.trace_model.proofs.laws.images.image_reading_or_fault.Goals as goal

pub returns : goal.returns
returns c =
    record {
      one = image_read_or_faulty;
      reading_is_no_fault = DecodesImage-FirstImageFault;
      one_reading = DecodesImage-unique;
      one_fault = FirstImageFault-unique;
    }
