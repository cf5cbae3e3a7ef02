use Rattle.trace_model.proofs.collections.FirstNumbers.{numbered_from, first_is_count, count_is_first, own_records}
use Rattle.trace_model.proofs.laws.partitions.pieces_have_first_numbers.Goals as goal

pub returns : goal.returns
returns c = record {
  some =
      λ records pieces rest index piece partition at. let (first, is) =
      numbered_from records pieces rest index piece partition at in
      (first, first_is_count records pieces rest index piece first at is);
  counted = λ records pieces rest index first piece partition at. (
    count_is_first records pieces rest index piece first partition at,
    first_is_count records pieces rest index piece first at,
  );
  own_records = λ records pieces rest index first i piece r. own_records records pieces rest index piece first i r;
}
