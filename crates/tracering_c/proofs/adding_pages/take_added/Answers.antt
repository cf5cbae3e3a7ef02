use Rattle.std.proofs.Common.{ℤ, Result, refl, ap, ◌∙◌, w32, to_z, of_z}
use Rattle.collector.specs.declared.added.Added.{Added}
use Rattle.library_values.specs.declared.listed_collector.adding.AddRefusal.{AddRefusal}
use Rattle.tracering_c.specs.Codes.{add_code, fault_at}
use Rattle.tracering_c.specs.CollectorCalls.{adds_page, adds_none}
use Rattle.tracering_c.proofs.CallAnswers.{add_fits}
use Rattle.tracering_c.proofs.NextPages.{next_stays}
use Rattle.tracering_c.proofs.adding_pages.take_added.Goals as goal

pub returns-in-Page-clause-collects : goal.returns-in-Page-clause-collects
returns-in-Page-clause-collects c =
    let page = c.in-Page.page in
    let missed = c.in-Page.missed in
    let answer = c.add_page-answer.result in
    let next = c.in-Page.ensures.next in
    let refusal = c.refusal_of-refusal.ensures in
    let code = c.code_of_add.ensures ∙ ap add_code refusal in
    adds_page page missed answer
    (ap (λ (n : ℤ). to_z w32 (of_z w32 n)) code ∙ add_fits answer)
    (next_stays c.args.end.now page missed c.next.new.self c.leave_page.new.end c.leave_page.ensures.stays next.0)
    c.add_page-answer.ensures.adds
    c.add_page-answer.ensures.listing
    (c.of.ensures ∙ ap (λ (r : Result Added AddRefusal). fault_at c.args.at.now r) refusal)
    c.leave_page.ensures.left

pub returns-in-Empty-clause-collects : goal.returns-in-Empty-clause-collects
returns-in-Empty-clause-collects c = adds_none c.in-Empty.ensures.next.0 c.in-Empty.ensures.added refl refl refl

pub returns-in-Moving-clause-collects : goal.returns-in-Moving-clause-collects
returns-in-Moving-clause-collects c = adds_none c.in-Moving.ensures.next.0 c.in-Moving.ensures.added refl refl refl
