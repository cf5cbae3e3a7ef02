use Rattle.std.proofs.Common.{◌≡◌, ◌<◌, ◌≤◌, ℕ, length, take, List, subst, arith}
use Rattle.std.proofs.lemmas.Grind.{common_steps}
use Rattle.std.proofs.lemmas.List.{length-take-le}
use Rattle.page_lines.specs.Sources.{ReadsNext}
use Rattle.page_lines.proofs.Passing.{next_read}
use Rattle.page_lines.proofs.source.read_next.Goals as goal

pub returns-in_ok-read_image-clause-read : goal.returns-in_ok-read_image-clause-read
returns-in_ok-read_image-clause-read g c =
    let size = length c.args.piece.now in
    let unread = g.R.Source.remaining c.args.reader.now in
    let left = g.R.Source.remaining c.fill_piece.new.reader in
    let bytes : List ℕ = take c.in-Ok.count c.fill_piece.new.piece in
    let long : length bytes ≡ c.in-Ok.count =
    length-take-le c.in-Ok.count c.fill_piece.new.piece c.in-Ok.ensures.bound in
    let some : 0 < length bytes = omega (arith, long, c.if-count-gt0.true) in
    let fits : length bytes ≤ size = grind (arith, common_steps) in
    subst (λ (n : ℕ). ReadsNext size unread left c.args.tally.now n c.read_image.new.tally c.read_image.new.at_hand)
    long
    (next_read size unread left c.args.tally.now c.read_image.new.tally bytes c.read_image.new.at_hand some fits
    c.in-Ok.ensures.taken c.in_ok-read_image.ensures.read)
