use Rattle.std.proofs.Common.{sym, ap, ◌∙◌, subst}
use Rattle.std.specs.Prelude.{map}
use Rattle.world_model.specs.World.{parcel_of}
use Rattle.page_numbers.specs.Parcels.{as_parcels}
use Rattle.ring_steps.specs.Views.{Reading}
use Rattle.trace_run.specs.readers.TakesMade.{reads_in, AreTakes, no_take}
use Rattle.trace_run.proofs.readers.end.ReaderEnd.new.Goals as goal

pub invariant_of-result : goal.invariant_of-result
invariant_of-result c = record {
  known = c.requires.known;
  is = c.requires.reader;
  taken_are = ap as_parcels c.new-taken.ensures.items
      ∙ sym (ap (λ (r : Reading). map (parcel_of c.args.cpu.0) r.reader.taken) c.requires.new);
  takes = subst (λ (r : Reading). AreTakes (reads_in r) r.reader.taken) (sym c.requires.new) no_take;
  size_is = c.requires.size;
  small = c.requires.small;
  large = c.requires.large;
  words = c.requires.words;
  body_fits = tt;
}
