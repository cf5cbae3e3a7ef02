use Rattle.std.proofs.Common.{◌≡◌, ◌<◌, ◌+◌, ◌^◌, ℕ, subst, arith}
use Rattle.std.proofs.lemmas.Grind.{common_steps}
use Rattle.page_lines.specs.Tallies.{AddsRead}
use Rattle.page_lines.proofs.Tallied.{adds_read}
use Rattle.page_lines.proofs.tally.Tally.add_read.Goals as goal

pub returns-clause-added : goal.returns-clause-added
returns-clause-added c page found =
    let mid = c.add_records.new.self in
    let counted : c.in_ok-pages.pages ≡ c.args.self.now.pages + 1 = grind (arith, common_steps) in
    let few : c.in_ok-pages.pages < 2 ^ 64 = grind (arith, common_steps) in
    adds_read c.args.self.now mid c.in_ok-pages.pages c.args.loss c.args.parcel.now c.in_ok-first.first page found
    (subst (λ (n : ℕ). AddsRead c.args.self.now c.args.loss n c.in_ok-first.first.0 mid) c.count.ensures
    c.in_ok-first.ensures.added)
    counted few
