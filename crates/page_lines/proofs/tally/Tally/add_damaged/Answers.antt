use Rattle.std.proofs.Common.{◌≡◌, ◌<◌, ◌+◌, ◌^◌, refl, arith}
use Rattle.std.proofs.lemmas.Grind.{common_steps}
use Rattle.page_lines.proofs.Tallied.{adds_damaged}
use Rattle.page_lines.proofs.tally.Tally.add_damaged.Goals as goal

pub returns-clause-added : goal.returns-clause-added
returns-clause-added c page found =
    let counted : c.in_ok-pages.pages ≡ c.args.self.now.pages + 1 = grind (arith, common_steps) in
    let few : c.in_ok-pages.pages < 2 ^ 64 = grind (arith, common_steps) in
    adds_damaged c.args.self.now _ _ page c.args.fault found refl c.in_ok-push.ensures.items refl refl refl refl
    counted few
