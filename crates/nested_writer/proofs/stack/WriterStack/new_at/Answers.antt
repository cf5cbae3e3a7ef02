use Rattle.std.proofs.Common.{◌≡◌, ℕ, [], ap, ◌∙◌, length, subst}
use Rattle.std.proofs.lemmas.List.{length-replicate}
use Rattle.page_image.specs.Contents.{IsPage}
use Rattle.nested_writer.specs.Stack.{blank_page}
use Rattle.nested_writer.proofs.NewStack.{new_is}
use Rattle.nested_writer.specs.IsStack.{IsReachedStack}
use Rattle.nested_writer.proofs.stack.WriterStack.new_at.Goals as goal

pub returns-clause-stack : goal.returns-clause-stack
returns-clause-stack c =
    let long = ap length c.in_ok-body.ensures ∙ length-replicate c.args.size 0 in
    let blank : c.fresh.result ≡ blank_page c.args.size 0 c.args.start =
    c.fresh.ensures.blank ∙ ap (λ (n : ℕ). blank_page n 0 c.args.start) long in
    let none = c.in_ok-older.ensures.none in let below = c.in_ok-below.ensures.items in
    rw (none, below, c.of.ensures, blank, c.none.ensures)
    (new_is c.args.pages c.args.size c.args.start c.requires.limits.large (subst IsPage blank c.fresh.ensures.page))

pub returns-clause-stands : goal.returns-clause-stands
unfolding IsReachedStack
returns-clause-stands c = (c.args.start, [], returns-clause-stack c)
