use Rattle.std.proofs.Common.{rules, ◌≡◌, ℕ, refl, sym, ap, ◌∙◌, subst}
use Rattle.ring_steps.specs.Views.{SeatView, reading, writing, reads}
use Rattle.std.specs.Prelude.{List, [], Option}
use Rattle.page_image.specs.Contents.{Contents}
use Rattle.ring_steps.specs.declared.rule.Shape.{Shape}
use Rattle.ring_steps.specs.Seats.{SeatState, IsSeatOfReader, IsReaderWithin}
use Rattle.ring_steps.specs.NewRings.{first_writing, first_reading}
use Rattle.ring_steps.specs.Paging.{IsWriterReached}
use Rattle.ring_steps.proofs.Starts.{first_within, first_reached}
use Rattle.ring_steps.proofs.FirstSteps.{cut, is_whole}
use Rattle.ring_steps.proofs.Notes.{rests}
use Rattle.ring_steps.proofs.making.seats_at.Goals as goal

pub split_seat-reader-requires : goal.split_seat-reader-requires
split_seat-reader-requires c = (
  search rules,
  search rules,
  cut _ _ _ _ _ (is_whole _ _ _ c.take_tail.ensures.seat.0),
)

pub invariant_of-result-2 : goal.invariant_of-result-2
invariant_of-result-2 c =
    let shape : Shape =
    record { pages = c.args.pages; size = c.args.size; start = c.args.start } in
    let none : List (ℕ × Option Contents) = [] in
    let me_is : c.split_seat-reader.result.me ≡ (reads (first_reading shape), none) =
    c.split_seat-reader.ensures.4
    ∙ ap (λ (v : SeatView). let m : SeatState = (reads (reading v), none) in m) c.take_tail.ensures.seat.0 in
    let numbers = c.requires.start in record {
      key_is = search rules;
      table = search rules;
      seated = search rules;
      is_reading = subst IsSeatOfReader (sym me_is) record { view = refl; hand = refl };
      within =
          subst (λ (m : SeatState). IsReaderWithin shape (reading m.0)) (sym me_is) (first_within shape (search rules));
    }

pub invariant_of-result-clause-reached : goal.invariant_of-result-clause-reached
invariant_of-result-clause-reached c =
    let shape : Shape =
    record { pages = c.args.pages; size = c.args.size; start = c.args.start } in
    let none : List (ℕ × Option Contents) = [] in
    let seat_is : writing c.split_seat-reader.new.seat.me.0 ≡ first_writing shape =
    ap (λ (m : SeatState). writing m.0) c.split_seat-reader.ensures.2 ∙ ap writing c.take_tail.ensures.seat.0 in
    ∣ subst (IsWriterReached shape) (sym seat_is) (first_reached shape (search rules)) ∣₁

pub invariant_of-result-clause-pending : goal.invariant_of-result-clause-pending
invariant_of-result-clause-pending c =
    let shape : Shape =
    record { pages = c.args.pages; size = c.args.size; start = c.args.start } in
    rests shape _ _ c.ghost_part_known-ghost_part.ensures
