use Rattle.trace_model.specs.Links.{normal, header}
use Rattle.link_marks.specs.ModelLinks.{link_of}
use Rattle.link_marks.proofs.FirstLinks.{first_header, first_normal, first_fits}
use Rattle.link_marks.proofs.link.first_link.Goals as goal

pub returns-then-fill-start : goal.returns-then-fill-start
returns-then-fill-start c = let r = c.requires in record {
  first =
      first_header c.args.positions c.args.start c.args.position r.position (link_of c.header.result)
      c.if-fill-start.true c.header.ensures;
  fits =
      first_fits c.args.positions c.args.start c.args.position r.position r.most r.start header
      (link_of c.header.result) c.header.ensures;
}

pub returns-else-fill-start : goal.returns-else-fill-start
returns-else-fill-start c = let r = c.requires in record {
  first =
      first_normal c.args.positions c.args.start c.args.position r.position (link_of c.normal.result)
      c.if-fill-start.false c.normal.ensures;
  fits =
      first_fits c.args.positions c.args.start c.args.position r.position r.most r.start normal
      (link_of c.normal.result) c.normal.ensures;
}
