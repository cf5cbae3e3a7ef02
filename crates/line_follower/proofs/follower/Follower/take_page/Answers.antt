use Rattle.std.proofs.Common.{List, ◌++◌, map, IsPermutation, ap, subst, ◌∙◌}
use Rattle.std.specs.BinaryHeap.{heap_items}
use Rattle.line_follower.specs.declared.lines.Line.{Line}
use Rattle.line_follower.specs.declared.follower.Waiting.{Waiting}
use Rattle.line_follower.specs.Known.{page, known_after}
use Rattle.line_follower.specs.Inside.{waiting_of}
use Rattle.line_follower.proofs.Steps.{takes_page}
use Rattle.line_follower.proofs.follower.Follower.take_page.Goals as goal

pub returns-clause-taken : goal.returns-clause-taken
returns-clause-taken g c =
    rw (← c.self.view_is)
    (takes_page c.self.inside.bounds c.read.new.self (heap_items c.self.inside.waiting)
    (heap_items c.wait_all.new.waiting) c.self.inside.last c.args.cpu.0 c.args.lines.now.items
    (c.read.ensures
    ∙ ap (λ (lines : List (Line g.row.T.Denot)). known_after c.self.inside.bounds (page c.args.cpu.0 lines))
    c.deref.ensures.value)
    (subst
    (λ (items : List (Waiting g.row.T.Denot)).
    IsPermutation (map waiting_of c.args.lines.now.items ++ items) (heap_items c.wait_all.new.waiting))
    c.reserve.ensures.items c.wait_all.ensures.waiting))
