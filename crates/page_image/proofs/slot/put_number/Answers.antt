use Rattle.trace_model.specs.Image.{le64}
use Rattle.page_image.proofs.Slots.{number_put}
use Rattle.page_image.proofs.slot.put_number.Goals as goal

pub returns : goal.returns
unfolding le64
returns c = number_put c.args.slot.now c.write_u64.new.buf c.args.at c.args.number c.write_u64.ensures
