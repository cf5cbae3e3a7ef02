use Rattle.std.proofs.Common.{ℕ, ◌%◌, List, [], ◌∷◌, ◌++◌, ap, ◌∙◌}
use Rattle.ring_shared.proofs.NewWriter.{new_writer}
use Rattle.ring_shared.specs.Calls.{IsWriter}
use Rattle.ring_shared.proofs.writer.Writer.new.Goals as goal

pub returns-clause-writer : goal.returns-clause-writer
unfolding IsWriter
returns-clause-writer c = new_writer _ c.requires.shape c.requires.first c.in_ok-frames.ensures
    (c.push_back_reserved.ensures.items
    ∙ ap (λ (ps : List ℕ). ps ++ (c.args.seat.shape.start % c.args.seat.shape.pages) ∷ []) c.in_ok-pages.ensures.items)
