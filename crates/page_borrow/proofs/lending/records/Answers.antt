use Rattle.std.proofs.Common.{◌≡◌, ◌∙◌, subst, sym}
use Rattle.page_borrow.specs.Entries.{entries_of, AllStandInPage}
use Rattle.page_borrow.proofs.Left.{left-whole}
use Rattle.page_borrow.proofs.OwnBytes.{all-stand}
use Rattle.page_borrow.proofs.lending.records.Goals as goal

pub returns-clause-own_bytes : goal.returns-clause-own_bytes
returns-clause-own_bytes c page =
    let all : c.new.result ≡ entries_of c.args.page.now =
    rw (c.data.ensures, c.first-first.ensures, c.count.ensures.count) at c.new.ensures
    ∙ left-whole c.args.page.now c.begin_walk.result page (c.begin_walk.ensures.left page) in
    subst (AllStandInPage c.args.page.now) (sym all) (all-stand c.args.page.now page)
