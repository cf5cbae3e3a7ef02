use Rattle.std.proofs.Common.{ℕ, List, [], ◌∷◌, arith}
use Rattle.trace_script.proofs.DigitLemmas.{ArePairs, pairs_spelled}
use Rattle.trace_script.proofs.digits.bytes_of.Goals as goal

-- The bytes from each fourth one on, and that they are the pairs from there on.
pub returns : goal.returns
returns c =
    let digits : List ℕ = c.args.digits.now in
    let bytes_28 : List ℕ =
    c.plain_pair-29.result ∷ c.plain_pair-30.result ∷ c.plain_pair-31.result ∷ c.plain_pair-32.result ∷ [] in
    let at_28 : ArePairs digits 56 bytes_28 =
    (c.plain_pair-29.ensures, (c.plain_pair-30.ensures, (c.plain_pair-31.ensures, (c.plain_pair-32.ensures, tt)))) in
    let bytes_24 : List ℕ =
    c.plain_pair-25.result ∷ c.plain_pair-26.result ∷ c.plain_pair-27.result ∷ c.plain_pair-28.result ∷ bytes_28 in
    let at_24 : ArePairs digits 48 bytes_24 =
    (c.plain_pair-25.ensures, (c.plain_pair-26.ensures, (c.plain_pair-27.ensures, (c.plain_pair-28.ensures, at_28)))) in
    let bytes_20 : List ℕ =
    c.plain_pair-21.result ∷ c.plain_pair-22.result ∷ c.plain_pair-23.result ∷ c.plain_pair-24.result ∷ bytes_24 in
    let at_20 : ArePairs digits 40 bytes_20 =
    (c.plain_pair-21.ensures, (c.plain_pair-22.ensures, (c.plain_pair-23.ensures, (c.plain_pair-24.ensures, at_24)))) in
    let bytes_16 : List ℕ =
    c.plain_pair-17.result ∷ c.plain_pair-18.result ∷ c.plain_pair-19.result ∷ c.plain_pair-20.result ∷ bytes_20 in
    let at_16 : ArePairs digits 32 bytes_16 =
    (c.plain_pair-17.ensures, (c.plain_pair-18.ensures, (c.plain_pair-19.ensures, (c.plain_pair-20.ensures, at_20)))) in
    let bytes_12 : List ℕ =
    c.plain_pair-13.result ∷ c.plain_pair-14.result ∷ c.plain_pair-15.result ∷ c.plain_pair-16.result ∷ bytes_16 in
    let at_12 : ArePairs digits 24 bytes_12 =
    (c.plain_pair-13.ensures, (c.plain_pair-14.ensures, (c.plain_pair-15.ensures, (c.plain_pair-16.ensures, at_16)))) in
    let bytes_8 : List ℕ =
    c.plain_pair-9.result ∷ c.plain_pair-10.result ∷ c.plain_pair-11.result ∷ c.plain_pair-12.result ∷ bytes_12 in
    let at_8 : ArePairs digits 16 bytes_8 =
    (c.plain_pair-9.ensures, (c.plain_pair-10.ensures, (c.plain_pair-11.ensures, (c.plain_pair-12.ensures, at_12)))) in
    let bytes_4 : List ℕ =
    c.plain_pair-5.result ∷ c.plain_pair-6.result ∷ c.plain_pair-7.result ∷ c.plain_pair-8.result ∷ bytes_8 in
    let at_4 : ArePairs digits 8 bytes_4 =
    (c.plain_pair-5.ensures, (c.plain_pair-6.ensures, (c.plain_pair-7.ensures, (c.plain_pair-8.ensures, at_8)))) in
    let bytes_0 : List ℕ =
    c.plain_pair.result ∷ c.plain_pair-2.result ∷ c.plain_pair-3.result ∷ c.plain_pair-4.result ∷ bytes_4 in
    let at_0 : ArePairs digits 0 bytes_0 =
    (c.plain_pair.ensures, (c.plain_pair-2.ensures, (c.plain_pair-3.ensures, (c.plain_pair-4.ensures, at_4)))) in
    pairs_spelled digits bytes_0 (omega arith) c.requires at_0
