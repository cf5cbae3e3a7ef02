use Rattle.std.proofs.Common.{rules, ◌≡◌, ◌∷◌, ℕ, Option, Ok, refl, sym, ap, ◌∙◌}
use Rattle.std.specs.Prelude.{unwrap_or}
use Rattle.nested_writer.specs.declared.stack.allot.Allot.TheVariants.{Fits}
use Rattle.nested_writer.specs.declared.frame.Progress.TheVariants.{Through}
use Rattle.nested_writer.specs.Stack.{Stack, opened}
use Rattle.nested_writer.specs.Calls.{with_progress}
use Rattle.nested_writer.specs.Allotted.{IsAllotted}
use Rattle.nested_writer.specs.IsStack.{IsReachedStack}
use Rattle.nested_writer.proofs.Allotting.{waited_through, stayed_through}
use Rattle.nested_writer.proofs.Answering.{fits_answer, close_answer, through_closes}
use Rattle.nested_writer.proofs.Tops.{on_top}
use Rattle.nested_writer.proofs.Promises.{allots_place, allots_page}
use Rattle.nested_writer.proofs.stack.WriterStack.allot_other.Goals as goal
use Rattle.nested_writer.proofs.stack.WriterStack.allot_other.Goals.{in-Waiting, in-Through}

pub returns-then-wants_page : goal.returns-then-wants_page
returns-then-wants_page c =
    allots_page c.args.self.now c.note_need.new.self c.note_need.result (search rules) (assumption c.note_need.ensures)
    c.requires.stack

pub returns-in-Record : goal.returns-in-Record
unfolding IsReachedStack
returns-in-Record c =
    let s : Stack = c.args.self.now in
    let place = c.reserve_any.result in
    let after : IsAllotted s s.frames (Ok (Fits place)) c.reserve_any.new.self = search rules in
    allots_place s c.reserve_any.new.self place (search rules) (search rules) (search rules) after
    (λ start history k.
    let s : Stack = c.args.self.now in
    let frames : s.frames ≡ c.in-Some.top ∷ c.self.inside.below.items =
    on_top c.self.inside s c.tail_fill.result c.in-Some.top c.self.view_is c.tail_fill.ensures
    (sym c.get.ensures ∙ c.in-Some.is) in
    elim c.match-top.branch [
      | in-Waiting w ↦ fits_answer start history s k c.in-Some.top c.self.inside.below.items frames w.in-Waiting.noted
          c.reserve_any.result w.in-Waiting.is (search rules)
      | in-Through w ↦ absurd
          (through_closes start history s k c.in-Some.top c.self.inside.below.items frames w.in-Through.noted
          c.in-Record.moment c.in-Record.len c.in-Record.is w.in-Through.is)
    ])
    (search rules) (search rules) (search rules) c.requires.stack

pub returns-in-Close : goal.returns-in-Close
returns-in-Close c =
    let after : IsAllotted c.args.self.now c.args.self.now.frames (Ok (Fits record { start = 0; len = 0 }))
    c.go_on.new.self =
    let s : Stack = c.args.self.now in
    let frames : s.frames ≡ c.in-Some.top ∷ c.self.inside.below.items =
    on_top c.self.inside s c.tail_fill.result c.in-Some.top c.self.view_is c.tail_fill.ensures
    (sym c.get.ensures ∙ c.in-Some.is) in
    let after = c.go_on.ensures c.in-Some.top c.self.inside.below.items frames in
    let tried : c.unwrap_or-noted.result ≡ unwrap_or c.match-top.noted (opened s) =
    c.unwrap_or-noted.ensures ∙ ap (unwrap_or c.match-top.noted) c.opened.ensures.begun in
    elim c.match-top.branch [
      | in-Waiting w ↦ waited_through s c.go_on.new.self c.in-Some.top c.self.inside.below.items frames
          w.in-Waiting.noted c.unwrap_or-noted.result _ c.in-Close.is w.in-Waiting.is
          (tried ∙ ap (λ (o : Option ℕ). unwrap_or o (opened s)) w.noted-is) refl after
      | in-Through w ↦ stayed_through s c.go_on.new.self c.in-Some.top c.self.inside.below.items frames
          w.in-Through.noted _ c.in-Close.is w.in-Through.is refl
          (after
          ∙ ap (λ (n : ℕ). with_progress s c.in-Some.top c.self.inside.below.items (Through n))
          (tried ∙ ap (λ (o : Option ℕ). unwrap_or o (opened s)) w.noted-is))
    ] in
    allots_place c.args.self.now c.go_on.new.self (record { start = 0; len = 0 }) (search rules) (search rules)
    (search rules) after
    (λ start history k.
    let s : Stack = c.args.self.now in
    let frames : s.frames ≡ c.in-Some.top ∷ c.self.inside.below.items =
    on_top c.self.inside s c.tail_fill.result c.in-Some.top c.self.view_is c.tail_fill.ensures
    (sym c.get.ensures ∙ c.in-Some.is) in
    elim c.match-top.branch [
      | in-Waiting w ↦ fits_answer start history s k c.in-Some.top c.self.inside.below.items frames w.in-Waiting.noted _
          w.in-Waiting.is (search rules)
      | in-Through w ↦ close_answer start history s k c.in-Some.top c.self.inside.below.items frames w.in-Through.noted
          _ c.in-Close.is w.in-Through.is (search rules)
    ])
    (search rules) (search rules) (search rules) c.requires.stack
