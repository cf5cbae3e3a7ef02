-- The writer's part, if steps reach a state of which it is that.
use Rattle.std.proofs.Common.{◌≡◌, ℕ, ◌<◌, ◌≤◌, List, length, refl, sym, ap, ◌∙◌, arith}
use Rattle.std.specs.Prelude.{slice_index_or}
use Rattle.std.proofs.Math.Logic.{∥∥₁_elim}
use Rattle.std.proofs.Props.{props}
use Rattle.trace_model.specs.declared.limits.TheConstants.{LINK_FILLS}
use Rattle.trace_model.specs.Ring.{Core}
use Rattle.trace_model.specs.Steps.{steps, Answer}
use Rattle.ring_model.proofs.partition.RingsKept.{reached_kept}
use Rattle.ring_steps.specs.declared.rule.Shape.{Shape}
use Rattle.ring_steps.specs.Views.{Writing}
use Rattle.ring_steps.specs.Seats.{Leads, IsWriterStep}
use Rattle.ring_steps.specs.Paging.{IsWriterReached}
use Rattle.ring_steps.proofs.Made.{reached_on, part_then}
use Rattle.ring_steps.proofs.Private.{private_open_pages, private_reached}

-- the writer's part after a step is one that steps reach
pub step_reached : (shape : Shape) (before : Writing) (sees : Core → Type 0) (answer : Answer) (after : Writing)
    → IsWriterStep shape before sees answer after → IsWriterReached shape after
step_reached shape before sees answer after s = record {
  core = s.next;
  reached = reached_on shape.pages shape.size shape.start s.core steps answer s.next s.reached s.step;
  is =
      part_then shape.pages shape.size shape.start s.core steps answer s.next s.reached s.step before after refl
      s.before_is s.after_is;
}

-- what is known of the writer's part before its private steps, and after them
abbrev pub IsWithin : Writing → Writing → Type 0
IsWithin before now =
    (0 < length before.open_pages)
    × (slice_index_or now.open_pages 0 0 ≡ slice_index_or before.open_pages 0 0)
    × (now.done < LINK_FILLS)
    × (now.opened ≤ LINK_FILLS)

reached_within : (shape : Shape) (before now : Writing) → IsWriterReached shape before → Leads shape before now
    → IsWithin before now
reached_within shape before now known leads =
    let (exchanges, aside, run, now_is) = leads known.core known.reached known.is in
    let k =
    reached_kept shape.pages shape.size shape.start aside
    (private_reached shape.pages shape.size shape.start known.core aside exchanges known.reached run) in
    let same = private_open_pages shape.pages shape.size known.core aside exchanges run in
    let pages_are : aside.open_pages ≡ before.open_pages = same ∙ ap (λ (w : Writing). w.open_pages) known.is in
    let wide : length aside.open_pages ≡ length before.open_pages = ap (length {A = ℕ}) pages_are in
    let done_is : aside.done ≡ now.done = ap (λ (w : Writing). w.done) now_is in
    let opened_is : aside.opened ≡ now.opened = ap (λ (w : Writing). w.opened) now_is in
    let count = k.open_pages.count in let behind = k.links.done_lt in let fits = k.links.fits in (
      omega arith,
      ap (λ (ps : List ℕ). slice_index_or ps 0 0) (sym (ap (λ (w : Writing). w.open_pages) now_is) ∙ pages_are),
      omega arith,
      omega arith,
    )

pub now_within : (shape : Shape) (before now : Writing) → ∥ IsWriterReached shape before ∥₁ → Leads shape before now
    → IsWithin before now
now_within shape before now known leads =
    ∥∥₁_elim known (Prim.hlevel props) (λ w. reached_within shape before now w leads)
