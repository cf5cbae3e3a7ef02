-- The crate's links as the model's.
use Rattle.trace_model.specs.Links as links
use Rattle.link_marks.specs.declared.link.Mark.{Mark}
use Rattle.link_marks.specs.declared.link.Mark.TheVariants.{Normal, Header, Update}
use Rattle.link_marks.specs.declared.link.Link.{Link}

abbrev pub mark_of : Mark → links.Mark
mark_of Normal = links.normal
mark_of Header = links.header
mark_of Update = links.update

-- the link of the model that a link is
abbrev pub link_of : Link → links.Link
link_of l = record { mark = mark_of l.mark; page = l.page; fill = l.fill }
