use Rattle.std.proofs.Common.{◌∷◌, [], ◌++◌, sym, subst}
use Rattle.text_values.specs.Putting.{Puts}
use Rattle.line_follower.specs.declared.lines.Said.{Said}
use Rattle.line_follower.specs.Order.{line_of}
use Rattle.live_listing.specs.declared.pages.Content.{Content}
use Rattle.live_listing.specs.Printing.{HasPrinted, listed_of, line_text, is_late}
use Rattle.live_listing.proofs.printing.print_said.Goals as goal

pub returns-in-InOrder-clause-printed : goal.returns-in-InOrder-clause-printed
returns-in-InOrder-clause-printed g c = λ form detail selected before has.
    subst
    (λ (said : Said Content).
    HasPrinted form detail selected (before ++ listed_of (line_of said) ∷ []) c.print_line.new.printer
    × Puts (line_text form detail selected c.args.size before (line_of said) (is_late said)) c.args.out.now
    c.print_line.new.out)
    (sym c.in-InOrder.is) (c.print_line.ensures.printed form detail selected before has)

pub returns-in-Late-clause-printed : goal.returns-in-Late-clause-printed
returns-in-Late-clause-printed g c = λ form detail selected before has.
    subst
    (λ (said : Said Content).
    HasPrinted form detail selected (before ++ listed_of (line_of said) ∷ []) c.print_line-in-Late.new.printer
    × Puts (line_text form detail selected c.args.size before (line_of said) (is_late said)) c.args.out.now
    c.print_line-in-Late.new.out)
    (sym c.in-Late.is) (c.print_line-in-Late.ensures.printed form detail selected before has)
