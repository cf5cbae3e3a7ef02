use Rattle.std.proofs.Common.{◌≡◌, List, length, map, set, ap, ◌∙◌}
use Rattle.std.proofs.lemmas.List.{map-set}
use Rattle.trace_model.specs.Links.{Link}
use Rattle.trace_model.specs.Ring.{links_with}
use Rattle.link_marks.specs.ModelLinks.{link_of}
use Rattle.ring_core.specs.Inside.{core_of}
use Rattle.ring_core.specs.Value.{CoreValue}
use Rattle.ring_core.proofs.ring.Core.set_link.Goals as goal

pub returns : goal.returns
returns c =
    let w = c.self.inside in
    let old = c.args.self.now in
    let link = link_of c.args.link in
    let there : set (map link_of w.links.items) c.position-position.result link
    ≡ links_with (length old.links) old.links c.args.fill link =
    λ i. set (c.self.view_is i).links (c.position-position.ensures.position i) link in
    ap (λ (l : List Link). let v : CoreValue = record (core_of w) { links = l } in v)
    (map-set link_of w.links.items c.position-position.result c.args.link ∙ there)
    ∙ ap
    (λ (v : CoreValue). let x : CoreValue =
    record v { links = links_with (length old.links) old.links c.args.fill link } in
    x) c.self.view_is
