use Rattle.std.proofs.Common.{◌≡◌, ℕ, ◌<◌, length, refl, sym, ◌∙◌, subst, arith}
use Rattle.trace_model.specs.Image.{from_le64}
use Rattle.trace_model.specs.declared.limits.TheConstants.{MAX_CPUS}
use Rattle.parcel_streams.specs.declared.piece.Mark.{Mark}
use Rattle.parcel_streams.specs.Pieces.{IsMark}
use Rattle.parcel_streams.specs.Faults.{mark_body}
use Rattle.parcel_streams.specs.Answers.{mark_stated, IsMarkBody}
use Rattle.parcel_streams.proofs.Marks.{mark_there}
use Rattle.parcel_streams.proofs.body.read_mark.Goals as goal

pub returns-clause-mark : goal.returns-clause-mark
returns-clause-mark c =
    let kind = c.args.kind in
    let body = c.args.body.now in
    let cpu_is : c.number_at-cpu.result ≡ from_le64 body = c.number_at-cpu.ensures in
    let limit = c.from.ensures in
    let under = c.if-cpu-from.false in
    let len : length body ≡ mark_body kind = c.if-body-mark_body.false ∙ c.mark_body.ensures in
    let known : from_le64 body < MAX_CPUS = omega arith in
    let mark_is = c.mark_in-mark.ensures in
    let sound : IsMark (mark_stated kind body) = subst IsMark mark_is (c.if-not-is_sound.ensures.0 refl) in
    let there = mark_there kind body c.requires.least c.requires.most (λ i. omega (arith, c.type_inv.body i)) len known
    sound in
    subst (λ (m : Mark). IsMarkBody kind body c.number_at-cpu.result m) (sym mark_is)
    (subst (λ (n : ℕ). IsMarkBody kind body n (mark_stated kind body)) (sym cpu_is) there)
