use Rattle.std.proofs.Common.{◌≡◌, ◌-◌, ℕ, List, drop, take, ap, ◌∙◌, subst, arith, length-drop, ◌↔◌, IsTrue, eqb}
use Rattle.parcel_streams.specs.crc32c.Castagnoli.{crc32c}
use Rattle.trace_model.specs.Image.{le64, from_le64}
use Rattle.trace_model.proofs.words.OneWord.{AreBytes-drop}
use Rattle.parcel_streams.specs.Faults.{length_in, sum_in}
use Rattle.parcel_streams.proofs.Sums.{number-iff}
use Rattle.parcel_streams.proofs.frame.has_sum.Goals as goal

pub returns : goal.returns
returns c =
    let bytes = c.args.bytes.now in
    let small = c.type_inv.bytes in
    let there = c.requires.whole.there in
    let least = c.requires.whole.stated.least in
    let len = c.requires.len in
    let rest : List ℕ = drop (length_in bytes - 8) bytes in
    let at = ap (λ (n : ℕ). from_le64 (drop (n - 8) bytes)) len in
    let summed = ap (λ (n : ℕ). crc32c (take (n - 8) bytes)) len in
    subst (λ (s : ℕ). IsTrue (eqb c.number_at.result c.from.result) ↔ (sum_in bytes ≡ le64 s))
    (c.from.ensures ∙ c.crc32c.ensures ∙ summed)
    (number-iff rest c.number_at.result c.from.result
    (AreBytes-drop (length_in bytes - 8) bytes (λ i. omega (arith, small i)))
    (omega (arith, length-drop (length_in bytes - 8) bytes)) c.from.type_inv (c.number_at.ensures ∙ at))
