-- Bytes that begin with a piece, part by part: what states its parts is decided by the bytes.
use Rattle.std.proofs.Common.{◌≡◌, ℕ, ◌+◌, ◌-◌, ◌*◌, ◌/◌, ◌%◌, ◌^◌, ◌<◌, ◌≤◌, List, ◌++◌, length, take, drop, refl, sym}
use Rattle.std.proofs.Common.{ap, ◌∙◌, arith, append_assoc, length-append, length-drop, length-take-le}
use Rattle.std.proofs.Common.{take-append-drop}
use Rattle.std.proofs.lemmas.List.{take_at, drop_at, drop-drop, take_all}
use Rattle.parcel_streams.specs.crc32c.Castagnoli.{crc32c}
use Rattle.trace_model.specs.FirstFault.{AreBytes}
use Rattle.trace_model.specs.Image.{le64, from_le64}
use Rattle.trace_model.proofs.words.OneWord.{AreBytes-drop}
use Rattle.trace_model.proofs.images.ImageParts.{length-le64, from_le64-le64, le64-front, drop-le64}
use Rattle.parcel_streams.specs.Pieces.{magic, unsealed, sealed}
use Rattle.parcel_streams.specs.Faults.{kind_in, length_in, stream_in, body_in, summed_in, sum_in, HasMagic, IsSealed}

-- ---- the parts of a piece that is written

-- a head, and what follows it
abbrev headed : (kind stream size : ℕ) → List ℕ → List ℕ
headed kind stream size xs = magic ++ (le64 (1 + 2 ^ 32 * kind) ++ (le64 (40 + size) ++ (le64 stream ++ xs)))

unsealed_behind : (kind stream : ℕ) (body xs : List ℕ)
    → unsealed kind stream body ++ xs ≡ headed kind stream (length body) (body ++ xs)
unfolding unsealed
unsealed_behind kind stream body xs =
    append_assoc magic (le64 (1 + 2 ^ 32 * kind) ++ (le64 (40 + length body) ++ (le64 stream ++ body))) xs
    ∙ ap (λ (b : List ℕ). magic ++ b) (append_assoc (le64 (1 + 2 ^ 32 * kind))
    (le64 (40 + length body) ++ (le64 stream ++ body)) xs
    ∙ ap (λ (b : List ℕ). le64 (1 + 2 ^ 32 * kind) ++ b)
    (append_assoc (le64 (40 + length body)) (le64 stream ++ body) xs
    ∙ ap (λ (b : List ℕ). le64 (40 + length body) ++ b) (append_assoc (le64 stream) body xs)))

pub length-unsealed : (kind stream : ℕ) (body : List ℕ) → length (unsealed kind stream body) ≡ 32 + length body
unfolding unsealed
length-unsealed kind stream body = omega (
  arith,
  length-append magic (le64 (1 + 2 ^ 32 * kind) ++ (le64 (40 + length body) ++ (le64 stream ++ body))),
  length-append (le64 (1 + 2 ^ 32 * kind)) (le64 (40 + length body) ++ (le64 stream ++ body)),
  length-append (le64 (40 + length body)) (le64 stream ++ body),
  length-append (le64 stream) body,
  length-le64 (1 + 2 ^ 32 * kind),
  length-le64 (40 + length body),
  length-le64 stream,
)

pub length-sealed : (kind stream : ℕ) (body : List ℕ) → length (sealed kind stream body) ≡ 40 + length body
unfolding sealed
length-sealed kind stream body = omega (
  arith,
  length-append (unsealed kind stream body) (le64 (crc32c (unsealed kind stream body))),
  length-unsealed kind stream body,
  length-le64 (crc32c (unsealed kind stream body)),
)

sealed_behind : (kind stream : ℕ) (body rest : List ℕ)
    → sealed kind stream body ++ rest ≡ unsealed kind stream body
    ++ (le64 (crc32c (unsealed kind stream body)) ++ rest)
unfolding sealed
sealed_behind kind stream body rest = append_assoc (unsealed kind stream body)
    (le64 (crc32c (unsealed kind stream body))) rest

-- ---- what the bytes state where they begin with a piece

pub record FrameIs (bytes : List ℕ) (kind stream : ℕ) (body rest : List ℕ) : Type 0 where
  pub kind_is : kind_in bytes ≡ kind
  pub length_is : length_in bytes ≡ 40 + length body
  pub stream_is : stream_in bytes ≡ stream
  pub body_is : body_in bytes ≡ body
  pub rest_is : drop (length_in bytes) bytes ≡ rest
  pub seal : IsSealed bytes

record HeadIs (bytes : List ℕ) (kind stream size : ℕ) (xs : List ℕ) : Type 0 where
  magic_is : take 8 bytes ≡ magic
  word_is : from_le64 (drop 8 bytes) ≡ 1 + 2 ^ 32 * kind
  length_is : length_in bytes ≡ 40 + size
  stream_is : stream_in bytes ≡ stream
  rest_is : drop 32 bytes ≡ xs
  long : length bytes ≡ 32 + length xs

head_is : (bytes : List ℕ) (kind stream size : ℕ) (xs : List ℕ) → bytes ≡ headed kind stream size xs → kind < 2 ^ 32
    → stream < 2 ^ 64 → size < 2 ^ 32 → HeadIs bytes kind stream size xs
head_is bytes kind stream size xs whole kind_fits stream_fits size_fits =
    let word : ℕ = 1 + 2 ^ 32 * kind in
    let third : List ℕ = le64 stream ++ xs in
    let second : List ℕ = le64 (40 + size) ++ third in
    let first : List ℕ = le64 word ++ second in
    let one : drop 8 bytes ≡ first = ap (drop 8) whole ∙ drop_at magic first 8 refl in
    let two : drop 16 bytes ≡ second = sym (drop-drop 8 8 bytes) ∙ ap (drop 8) one ∙ drop-le64 word second in
    let three : drop 24 bytes ≡ third = sym (drop-drop 8 16 bytes) ∙ ap (drop 8) two ∙ drop-le64 (40 + size) third in
    let four : drop 32 bytes ≡ xs = sym (drop-drop 8 24 bytes) ∙ ap (drop 8) three ∙ drop-le64 stream xs in
    record {
      magic_is = ap (take 8) whole ∙ take_at magic first 8 refl;
      word_is = ap from_le64 one ∙ from_le64-le64 word second (omega arith);
      length_is = ap from_le64 two ∙ from_le64-le64 (40 + size) third (omega arith);
      stream_is = ap from_le64 three ∙ from_le64-le64 stream xs stream_fits;
      rest_is = four;
      long = ap length whole ∙ omega (
        arith,
        length-append magic first,
        length-append (le64 word)
            second,
        length-append (le64 (40 + size)) third,
        length-append (le64 stream)
            xs,
        length-le64 word,
        length-le64 (40 + size),
        length-le64 stream,
      );
    }

pub frame_is : (bytes : List ℕ) (kind stream : ℕ) (body rest : List ℕ) → bytes ≡ sealed kind stream body ++ rest
    → kind < 2 ^ 32 → stream < 2 ^ 64 → 16 ≤ length body → length body ≤ 65568 → FrameIs bytes kind stream body rest
frame_is bytes kind stream body rest whole kind_fits stream_fits least most =
    let front : List ℕ = unsealed kind stream body in
    let sum : List ℕ = le64 (crc32c front) in
    let parts : bytes ≡ front ++ (sum ++ rest) = whole ∙ sealed_behind kind stream body rest in
    let head = head_is bytes kind stream (length body) (body ++ (sum ++ rest))
    (parts ∙ unsealed_behind kind stream body (sum ++ rest)) kind_fits stream_fits (omega arith) in
    let long = head.long in
    let word_is = head.word_is in
    let length_is = head.length_is in
    let behind = length-append body (sum ++ rest) in
    let after = length-append sum rest in
    let eight : length sum ≡ 8 = length-le64 (crc32c front) in
    let front_len : length front ≡ length_in bytes - 8 = omega (arith, length-unsealed kind stream body) in
    let summed : summed_in bytes ≡ front = ap (take (length_in bytes - 8)) parts
    ∙ take_at front (sum ++ rest) (length_in bytes - 8) front_len in
    let tail : drop (length_in bytes - 8) bytes ≡ sum ++ rest = ap (drop (length_in bytes - 8)) parts
    ∙ drop_at front (sum ++ rest) (length_in bytes - 8) front_len in
    let size : length body ≡ length_in bytes - 32 - 8 = omega arith in
    let end : 8 + (length_in bytes - 8) ≡ length_in bytes = omega arith in
    record {
      kind_is = ap (λ (n : ℕ). n / 2 ^ 32) word_is ∙ omega arith;
      length_is = length_is;
      stream_is = head.stream_is;
      body_is = ap (take (length_in bytes - 32 - 8)) head.rest_is
          ∙ take_at body (sum ++ rest) (length_in bytes - 32 - 8) size;
      rest_is = ap (λ (n : ℕ). drop n bytes) (sym end) ∙ ap (λ (n : ℕ). drop n bytes) (omega arith)
          ∙ sym (drop-drop 8 (length_in bytes - 8) bytes) ∙ ap (drop 8) tail ∙ drop-le64 (crc32c front) rest;
      seal = record {
        whole = record {
          stated = record {
            version = record {
              head = record {
                packed = head.magic_is
                    ∙ sym (take_all (length bytes) magic (omega arith));
                long = omega arith;
              };
              version_is = ap (λ (n : ℕ). n % 2 ^ 32) word_is ∙ omega arith;
            };
            least = omega arith;
            most = omega arith;
          };
          there = omega arith;
        };
        sum_is = ap (take 8) tail ∙ take_at sum rest 8 eight ∙ ap (λ (b : List ℕ). le64 (crc32c b)) (sym summed);
      };
    }

-- ---- and where they state one, they begin with it

pub magic_there : (bytes : List ℕ) → HasMagic bytes → 8 ≤ length bytes → take 8 bytes ≡ magic
magic_there bytes packed long = packed ∙ take_all (length bytes) magic long

pub sealed_there : (bytes : List ℕ) → AreBytes bytes → IsSealed bytes
    → bytes ≡ sealed (kind_in bytes) (stream_in bytes) (body_in bytes) ++ drop (length_in bytes) bytes
sealed_there bytes small seal =
    let there = seal.whole.there in
    let least = seal.whole.stated.least in
    let long = seal.whole.stated.version.head.long in
    let version = seal.whole.stated.version.version_is in
    let len : ℕ = length_in bytes in
    let kind : ℕ = kind_in bytes in
    let stream : ℕ = stream_in bytes in
    let body : List ℕ = body_in bytes in
    let rest : List ℕ = drop len bytes in
    let word_is : from_le64 (drop 8 bytes) ≡ 1 + 2 ^ 32 * kind = omega arith in
    let body_len : length body ≡ len - 32 - 8 = length-take-le (len - 32 - 8) (drop 32 bytes)
    (omega (arith, length-drop 32 bytes)) in
    let len_is : len ≡ 40 + length body = omega arith in
    let split : 32 + (len - 32 - 8) ≡ len - 8 = omega arith in
    let tail : drop (len - 32 - 8) (drop 32 bytes) ≡ drop (len - 8) bytes = drop-drop (len - 32 - 8) 32 bytes
    ∙ ap (λ (n : ℕ). drop n bytes) (omega arith) in
    let last : drop (len - 8) bytes ≡ sum_in bytes ++ rest =
    sym (take-append-drop 8 (drop (len - 8) bytes))
    ∙ ap (λ (b : List ℕ). sum_in bytes ++ b)
    (drop-drop 8 (len - 8) bytes ∙ ap (λ (n : ℕ). drop n bytes) (omega arith)) in
    let four : drop 32 bytes ≡ body ++ drop (len - 8) bytes = sym (take-append-drop (len - 32 - 8) (drop 32 bytes))
    ∙ ap (λ (b : List ℕ). body ++ b) tail in
    let three : drop 24 bytes ≡ le64 stream ++ drop 32 bytes = le64-front (drop 24 bytes)
    (omega (arith, length-drop 24 bytes)) (AreBytes-drop 24 bytes small)
    ∙ ap (λ (b : List ℕ). le64 stream ++ b) (drop-drop 8 24 bytes) in
    let two : drop 16 bytes ≡ le64 len ++ drop 24 bytes = le64-front (drop 16 bytes)
    (omega (arith, length-drop 16 bytes)) (AreBytes-drop 16 bytes small)
    ∙ ap (λ (b : List ℕ). le64 len ++ b) (drop-drop 8 16 bytes) in
    let one : drop 8 bytes ≡ le64 (from_le64 (drop 8 bytes)) ++ drop 16 bytes = le64-front (drop 8 bytes)
    (omega (arith, length-drop 8 bytes)) (AreBytes-drop 8 bytes small)
    ∙ ap (λ (b : List ℕ). le64 (from_le64 (drop 8 bytes)) ++ b) (drop-drop 8 8 bytes) in
    let zero_is : bytes ≡ magic ++ drop 8 bytes = sym (take-append-drop 8 bytes)
    ∙ ap (λ (b : List ℕ). b ++ drop 8 bytes)
    (magic_there bytes seal.whole.stated.version.head.packed (omega arith)) in
    let parts : bytes ≡ unsealed kind stream body ++ drop (len - 8) bytes =
    zero_is
    ∙ ap (λ (b : List ℕ). magic ++ b) (one ∙ (λ i. le64 (word_is i) ++ (two i)))
    ∙ ap (λ (b : List ℕ). magic ++ (le64 (1 + 2 ^ 32 * kind) ++ b))
    ((λ i. le64 (len_is i) ++ three i) ∙ ap (λ (b : List ℕ). le64 (40 + length body) ++ (le64 stream ++ b)) four)
    ∙ sym (unsealed_behind kind stream body (drop (len - 8) bytes)) in
    let front_len : length (unsealed kind stream body) ≡ len - 8 = omega (arith, length-unsealed kind stream body) in
    let summed : summed_in bytes ≡ unsealed kind stream body = ap (take (len - 8)) parts
    ∙ take_at (unsealed kind stream body) (drop (len - 8) bytes) (len - 8) front_len in
    parts
    ∙ ap (λ (b : List ℕ). unsealed kind stream body ++ b)
    (last ∙ ap (λ (b : List ℕ). b ++ rest) (seal.sum_is ∙ ap (λ (b : List ℕ). le64 (crc32c b)) summed))
    ∙ sym (sealed_behind kind stream body rest)
