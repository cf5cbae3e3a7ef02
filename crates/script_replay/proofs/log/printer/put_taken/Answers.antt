use Rattle.std.proofs.Common.{◌≡◌, ℕ, List, ◌++◌, append_assoc}
use Rattle.std.specs.Prelude.{codes}
use Rattle.std.specs.Fmt.{decimal}
use Rattle.script_replay.proofs.log.printer.put_taken.Goals as goal

-- four words, each with a number after it
four_put : (before first second third out w x y z k l m n : List ℕ) → first ≡ before ++ (w ++ k)
    → second ≡ first ++ (x ++ l) → third ≡ second ++ (y ++ m) → out ≡ third ++ (z ++ n)
    → out ≡ before ++ (w ++ k ++ x ++ l ++ y ++ m ++ z ++ n)
four_put before first second third out w x y z k l m n a b c d = rw (d, c, b, a) (simp append_assoc)

pub returns-clause-text : goal.returns-clause-text
returns-clause-text c = four_put c.args.out.now.items c.put_named.new.out.items c.put_named-2.new.out.items
    c.put_named-3.new.out.items c.put_named-4.new.out.items (codes " taken fill ") (codes " first ") (codes " count ")
    (codes " missed ") (decimal c.args.fill.0) (decimal c.args.first.0) (decimal c.args.count) (decimal c.args.missed)
    c.in_ok-put_named.ensures.text c.in_ok-put_named-2.ensures.text
    (rw c.from.ensures at c.in_ok-put_named-3.ensures.text) c.in_ok-put_named-4.ensures.text
