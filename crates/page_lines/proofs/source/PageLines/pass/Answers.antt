use Rattle.std.proofs.Common.{◌≡◌, ◌∙◌, ℕ, [], ◌∷◌, Some, length, refl, sym, ap, subst}
use Rattle.time_merge.specs.Heads.{first_in}
use Rattle.page_lines.specs.Sources.{Reading, PassesLine, IsNotAfter}
use Rattle.page_lines.proofs.Passing.{passes_line, passes_both}
use Rattle.page_lines.proofs.source.PageLines.pass.Goals as goal

pub returns-clause-passed : goal.returns-clause-passed
returns-clause-passed g c line first moment =
    let remaining = g.R.Source.remaining in
    let inside = c.self.inside in
    let old : Reading g.row.R.Denot = record {
      reader = inside.reader;
      size = length inside.piece.items;
      is_last = inside.is_last;
      taken = inside.taken;
      tally = inside.tally;
      left = inside.at_hand;
      halt = inside.halt;
      turns = inside.turns;
    } in
    let mid : Reading g.row.R.Denot = record old { left = c.pass.new.self; turns = c.in_ok-self-inside.field-0 } in
    let head : first_in old.left ≡ Some line = ap (λ s. first_in s.left) c.self.view_is ∙ first in
    let passed =
    passes_line remaining old mid line head refl refl refl refl refl c.pass.ensures in
    subst (λ (s : Reading g.row.R.Denot). PassesLine remaining s line c.go_on.new.self) c.self.view_is
    record {
      head_is = head;
      passes = passes_both remaining old mid c.go_on.new.self (line ∷ []) [] passed c.in_ok-go_on.ensures.read;
      not_earlier = subst (λ (m : ℕ). IsNotAfter m (first_in c.go_on.new.self.left)) (sym moment)
          (c.is_before.ensures c.if-is_before.false);
    }
