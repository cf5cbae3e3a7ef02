use Rattle.std.proofs.Common.{◌∙◌, drop, map, ap}
use Rattle.page_lines.specs.Sources.{line_at}
use Rattle.page_lines.proofs.Placed.{one_less}
use Rattle.page_lines.proofs.at_hand.AtHand.pass.Goals as goal

pub returns-then-self-len : goal.returns-then-self-len
returns-then-self-len c =
    one_less c.self.inside.at
    (map (line_at c.self.inside.cpu.0 c.self.inside.bytes.items) c.self.inside.places.items)
    ∙ ap (drop 1) c.self.view_is
