use Rattle.std.proofs.Common.{◌≡◌, ℕ, List, ◌++◌, Bor, IfSome, Option, Some, None, arith}
use Rattle.trace_model.specs.Parcel.{Parcel}
use Rattle.collector_text.specs.Prints.{StandsBetween}
use Rattle.text_values.proofs.Behind.{behind_behind}
use Rattle.collector_text.proofs.Shown.{stands_kept, stands_last, reported_whole}
use Rattle.collector_text.proofs.collectors.put_whole.Goals as goal

-- what is there of the collector before stays there
kept : (before : Option (Bor (List Parcel))) (text head out : List ℕ) (start end : ℕ)
    → out ≡ text ++ head → IfSome before (λ b. StandsBetween b.now text start end)
    → IfSome before (λ b. StandsBetween b.now out start end)
kept None text head out start end is stands = tt
kept (Some b) text head out start end is stands = stands_kept b.now text head out start end is stands

pub put_below-requires : goal.put_below-requires
put_below-requires c =
    kept c.args.before c.args.out.now.items _ c.put_head.new.out.items c.args.span.start c.args.span.end
    c.in_ok-put_head.ensures.text c.requires

pub returns-clause-reported : goal.returns-clause-reported
returns-clause-reported c =
    reported_whole c.args.collector.now c.args.number c.args.out.now.items c.put_head.new.out.items
    c.put_below.new.out.items c.in_ok-put_head.ensures.text c.in_ok-put_below.ensures.text

pub returns-clause-below : goal.returns-clause-below
returns-clause-below c =
    stands_last c.args.collector.now c.put_head.new.out.items c.put_below.new.out.items c.len-start.result
    c.len-end.result
    (omega (arith, c.len-start.ensures, c.put_head.new.out.ok.0))
    (omega (arith, c.len-end.ensures, c.put_below.new.out.ok.0)) c.in_ok-put_below.ensures.text

pub returns-clause-behind : goal.returns-clause-behind
returns-clause-behind c = behind_behind c.args.out.now.items c.put_head.new.out.items c.put_below.new.out.items
    c.put_head.ensures.behind c.put_below.ensures.behind

pub returns-in_err-put_below-clause-behind : goal.returns-in_err-put_below-clause-behind
returns-in_err-put_below-clause-behind c = behind_behind c.args.out.now.items c.put_head.new.out.items
    c.put_below.new.out.items c.put_head.ensures.behind c.put_below.ensures.behind
