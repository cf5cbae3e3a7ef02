use Rattle.ring_steps.specs.Ends.{reader_table, reading_in}
use Rattle.ring_shared.specs.contracts.reader.Reader.{the_view}
use Rattle.ring_shared.proofs.Learning.{learns}
use Rattle.ring_shared.proofs.reader.Reader.learn.Goals as goal

pub returns-clause-reader : goal.returns-clause-reader
returns-clause-reader c = let new = c.learn.new.self in
    learns (the_view c.self.inside) c.args.self.now new.shape (reader_table new) (reading_in new) _ c.self.view_is
    c.requires.reader c.learn.ensures.same.shape c.learn.ensures.learned
