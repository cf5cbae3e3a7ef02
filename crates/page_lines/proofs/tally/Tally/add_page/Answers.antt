use Rattle.std.proofs.Common.{subst}
use Rattle.page_lines.specs.Found.{IsFound}
use Rattle.page_lines.specs.declared.page.Found.{Found}
use Rattle.page_lines.proofs.Tallied.{stated_besides}
use Rattle.page_lines.proofs.tally.Tally.add_page.Goals as goal

pub returns-in_ok-first-in-Read-clause-added : goal.returns-in_ok-first-in-Read-clause-added
returns-in_ok-first-in-Read-clause-added c =
    let (page, page_is, any) = c.in_ok-loss.ensures in
    let parcel = c.in-Read.parcel in
    let found = subst (λ (f : Found). IsFound f page) c.in-Read.is any in (
      page,
      page_is,
      stated_besides c.args.self.now c.add_read.new.self c.in_ok-stated-in-Read.stated _ _
          (c.in_ok-first-in-Read.ensures.added _ (c.told.ensures page parcel found)),
      c.in_ok-stated-in-Read.ensures page parcel found,
    )
