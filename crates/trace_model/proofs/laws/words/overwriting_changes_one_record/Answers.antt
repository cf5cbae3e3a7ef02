use Rattle.trace_model.proofs.laws.words.overwriting_changes_one_record.Goals as goal
use Rattle.trace_model.proofs.words.Places.{Decodes-overwritten, EndsInRecord-overwritten, IsPlaceOf-overwritten}

pub returns : goal.returns
returns c = record {
  replaced = Decodes-overwritten;
  places = IsPlaceOf-overwritten;
  still_open = EndsInRecord-overwritten;
}
