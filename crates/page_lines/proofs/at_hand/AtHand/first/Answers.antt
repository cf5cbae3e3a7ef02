use Rattle.std.proofs.Common.{◌<◌, ◌∙◌, List, ℕ, Some, length, slice_range, sym, ap, arith}
use Rattle.std.proofs.lemmas.Grind.{common_steps}
use Rattle.time_merge.specs.Heads.{first_in}
use Rattle.page_lines.specs.declared.at_hand.Place.{Place}
use Rattle.page_lines.specs.Sources.{line_at}
use Rattle.page_lines.proofs.Placed.{first_at}
use Rattle.page_lines.proofs.at_hand.AtHand.first.Goals as goal

pub returns : goal.returns
returns c =
    let place = c.index-place.result.now in
    let places = c.self.inside.places.items in
    let line = line_at c.self.inside.cpu.0 c.self.inside.bytes.items in
    let there : c.self.inside.at < length places = grind (arith, common_steps) in
    ap (λ (xs : List ℕ). Some (record {
      moment = place.moment.0;
      cpu = c.self.inside.cpu.0;
      number = place.number.0;
      bytes = slice_range xs place.start place.end;
    })) c.deref.ensures.value
    ∙ ap (λ (p : Place). Some (line p)) c.index-place.ensures
    ∙ sym (first_at line places c.self.inside.at place there)
    ∙ ap first_in c.self.view_is
