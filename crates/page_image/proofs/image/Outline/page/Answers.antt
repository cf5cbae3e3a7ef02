use Rattle.std.proofs.Common.{◌<◌, ◌^◌, ◌∙◌, arith}
use Rattle.page_image.proofs.Copied.{is_page_in, reads_page, body_limit, body_end}
use Rattle.page_image.proofs.image.Outline.page.Goals as goal

pub of_body-requires-clause-end : goal.of_body-requires-clause-end
of_body-requires-clause-end c =
    body_end c.args.bytes.now c.in_ok-body.body c.args.self c.requires.outline c.in_ok-body.ensures

pub of_body-requires-clause-limit : goal.of_body-requires-clause-limit
of_body-requires-clause-limit c =
    body_limit c.args.bytes.now c.in_ok-body.body c.args.self c.requires.outline c.in_ok-body.ensures

pub returns-clause-page : goal.returns-clause-page
returns-clause-page c =
    let in_time : c.args.self.time < 2 ^ 64 = omega arith in
    reads_page c.args.bytes.now c.in_ok-body.body c.args.self c.requires.outline c.in_ok-body.ensures c.of_body.result
    c.of_body.ensures in_time

pub returns-clause-contents : goal.returns-clause-contents
returns-clause-contents c =
    c.of_body.ensures
    ∙ is_page_in c.args.bytes.now c.in_ok-body.body c.args.self c.requires.outline c.in_ok-body.ensures
