-- A piece that is put together, part by part.
use Rattle.std.proofs.Common.{◌≡◌, ℕ, ◌+◌, ◌*◌, ◌^◌, List, [], ◌++◌, length, ap, ◌∙◌, append_assoc}
use Rattle.parcel_streams.specs.crc32c.Castagnoli.{crc32c}
use Rattle.trace_model.specs.Image.{le64}
use Rattle.parcel_streams.specs.Pieces.{magic, unsealed, sealed}

more : (front own rest whole : List ℕ) → whole ≡ front ++ own → whole ++ rest ≡ front ++ (own ++ rest)
more front own rest whole is = ap (λ (b : List ℕ). b ++ rest) is ∙ append_assoc front own rest

pub sealed_is : (kind stream size sum : ℕ) (body zero one two three four five six : List ℕ) → zero ≡ []
    → one ≡ zero ++ magic → two ≡ one ++ le64 (1 + 2 ^ 32 * kind) → three ≡ two ++ le64 size → size ≡ 40 + length body
    → four ≡ three ++ le64 stream → five ≡ four ++ body
    → sum ≡ crc32c five → six ≡ five ++ le64 sum → six ≡ sealed kind stream body
unfolding unsealed sealed
sealed_is kind stream size sum body zero one two three four five six p0 p1 p2 p3 size_is p4 p5 sum_is p6 =
    let word : List ℕ = le64 (1 + 2 ^ 32 * kind) in
    let front : five ≡ unsealed kind stream body =
    p5
    ∙ more three (le64 stream) body four p4
    ∙ more two (le64 size) (le64 stream ++ body) three p3
    ∙ more one word (le64 size ++ (le64 stream ++ body)) two p2
    ∙ ap (λ (b : List ℕ). b ++ (word ++ (le64 size ++ (le64 stream ++ body))))
    (p1 ∙ ap (λ (b : List ℕ). b ++ magic) p0)
    ∙ ap (λ (n : ℕ). magic ++ (word ++ (le64 n ++ (le64 stream ++ body)))) size_is in
    p6 ∙ (λ i. front i ++ le64 ((sum_is ∙ ap crc32c front) i))
