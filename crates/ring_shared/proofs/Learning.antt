-- The reader's fields after it has learned a receipt.
use Rattle.std.proofs.Common.{◌≡◌, List, sym, subst}
use Rattle.atomic_table.specs.Seated.{TableId}
use Rattle.ring_steps.specs.declared.rule.Shape.{Shape}
use Rattle.ring_steps.specs.Made.{WriterMade}
use Rattle.ring_steps.specs.Views.{Reading, with_lesson}
use Rattle.ring_shared.specs.Value.{ReaderValue}
use Rattle.ring_shared.specs.Takes.{IsReader}

still_reader : (v : ReaderValue) (table : TableId) (made : List WriterMade) → IsReader v
    → IsReader (record v { table = table; part = with_lesson v.part made })
still_reader v table made is = record {
  part = record {
    core = is.part.core;
    reached = is.part.reached;
    is = record {
      order_is = is.part.is.order_is;
      spare_is = is.part.is.spare_is;
      spare_link_is = is.part.is.spare_link_is;
      reader_is = is.part.is.reader_is;
      wish_is = is.part.is.wish_is;
      observed_is = is.part.is.observed_is;
    };
    made_is = is.part.made_is;
  };
  order_is = is.order_is;
  spare_is = is.spare_is;
  phase_is = is.phase_is;
  hint_is = is.hint_is;
  seen_is = is.seen_is;
  expected_is = is.expected_is;
  keeps = is.keeps;
  saw = is.saw;
  empty = λ done e. let found = is.empty done e in record {
    hint_is = found.hint_is;
    seen_is = found.seen_is;
    phase_is = found.phase_is;
    no_spare = found.no_spare;
  };
}

pub learns : (w v : ReaderValue) (shape : Shape) (table : TableId) (part : Reading) (made : List WriterMade) → w ≡ v
    → IsReader v → shape ≡ w.shape → part ≡ with_lesson w.part made
    → IsReader (record w { shape = shape; table = table; part = part })
learns w v shape table part made same is shape_is part_is =
    subst (λ (x : Shape × Reading). IsReader (record w { shape = x.0; table = table; part = x.1 }))
    (λ i. (sym shape_is i, sym part_is i)) (still_reader w table made (subst IsReader (sym same) is))
