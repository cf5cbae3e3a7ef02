use Rattle.std.proofs.Common.{◌≡◌, ℕ, Option, IfSome, sym, subst}
use Rattle.library_tests.proofs.pages.add.Goals as goal

pub returns-clause-page : goal.returns-clause-page
returns-clause-page g c =
    c.payload_mut.ensures.stays.page_reads c.write.new.slot c.write.auto.slot (c.put-place.ensures.page c.requires.page)

pub returns-clause-open : goal.returns-clause-open
returns-clause-open g c =
    c.payload_mut.ensures.stays.open_stays c.write.new.slot c.write.auto.slot c.put-place.ensures.ends

pub returns-clause-last : goal.returns-clause-last
returns-clause-last g c =
    subst (λ (o : Option ℕ). IfSome o (λ last. last ≡ c.args.given.0))
    (sym (c.payload_mut.ensures.stays.last_stays c.write.new.slot c.write.auto.slot)) c.put-place.ensures.last
