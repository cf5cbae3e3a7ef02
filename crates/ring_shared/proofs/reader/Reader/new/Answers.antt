use Rattle.std.proofs.Common.{refl, ap, ◌∙◌}
use Rattle.ring_steps.specs.Views.{Reading}
use Rattle.ring_shared.proofs.FirstReader.{counted_pages, first_part}
use Rattle.ring_shared.proofs.reader.Reader.new.Goals as goal

pub returns : goal.returns
returns c = let first = c.requires.again in record {
  shape_is = refl;
  table_is = refl;
  part_is = first;
  empty_at = refl;
  is = record {
    part = first_part c.args.seat.shape _ c.requires.shape first;
    order_is =
        ap (λ (r : Reading). r.order) first
        ∙ counted_pages c.args.seat.shape.pages _ c.in_ok-order.ensures.pages c.in_ok-order.ensures.order;
    spare_is = ap (λ (r : Reading). r.spare) first;
    phase_is = ap (λ (r : Reading). r.reader.phase) first;
    hint_is = ap (λ (r : Reading). r.reader.hint) first;
    seen_is = ap (λ (r : Reading). r.reader.seen) first;
    expected_is = ap (λ (r : Reading). r.reader.expected) first;
    keeps = tt;
    saw = tt;
    empty = λ done e. absurd (cc);
  };
}
