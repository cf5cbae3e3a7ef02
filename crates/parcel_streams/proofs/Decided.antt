-- Bytes that decide what the piece at the front is: those that follow change nothing.
use Rattle.std.proofs.Common.{◌≡◌, ◌⊎◌, ⊎_elim, ◌↔◌, ℕ, ◌+◌, ◌-◌, ◌/◌, ◌%◌, ◌^◌, ◌<◌, ◌≤◌, List, ◌++◌, length, take}
use Rattle.std.proofs.Common.{drop, sym, ap, ◌∙◌, subst, arith, append_assoc, length-append, length-drop}
use Rattle.std.proofs.lemmas.List.{take-append-le, drop-append-le, take_all}
use Rattle.parcel_streams.specs.crc32c.Castagnoli.{crc32c}
use Rattle.trace_model.specs.FirstFault.{AreBytes}
use Rattle.trace_model.specs.Image.{le64, from_le64}
use Rattle.trace_model.specs.ParcelBytes.{FirstParcelFault}
use Rattle.trace_model.proofs.images.ImageParts.{from_le64-take}
use Rattle.parcel_streams.specs.Pieces.{Packed, magic, BeginsWith}
use Rattle.parcel_streams.specs.Faults.{version_in, kind_in, length_in, body_in, summed_in, sum_in, HasMagic, HasHead}
use Rattle.parcel_streams.specs.Faults.{HasVersion, HasLength, IsWhole, IsDecided, IsSealed, HoldsParcel, HoldsMark}
use Rattle.parcel_streams.specs.Faults.{IsLoose, IsBadMark, IsCut, PieceCause, not_packed, cut, bad_version, bad_length}
use Rattle.parcel_streams.specs.Faults.{bad_sum, bad_kind, bad_parcel, loose, bad_mark, FirstPieceFault}
use Rattle.parcel_streams.proofs.OneFault.{one_fault, piece_no_fault, piece_or_fault}
use Rattle.parcel_streams.proofs.Readings.{one_piece}

-- ---- the parts

-- a number that is there is the same
number_same : (n : ℕ) (bytes more : List ℕ) → n + 8 ≤ length bytes
    → from_le64 (drop n (bytes ++ more)) ≡ from_le64 (drop n bytes)
number_same n bytes more long =
    sym (from_le64-take (drop n (bytes ++ more)))
    ∙ ap (λ (b : List ℕ). from_le64 (take 8 b)) (drop-append-le n bytes more (omega arith))
    ∙ ap from_le64 (take-append-le 8 (drop n bytes) more (omega (arith, length-drop n bytes)))
    ∙ from_le64-take (drop n bytes)

-- what is stated is the same with more bytes after it
record SameHead (bytes whole : List ℕ) : Type 0 where
  longer : length bytes ≤ length whole
  packed : HasMagic bytes → HasMagic whole
  unpacked : HasMagic whole → HasMagic bytes
  word_is : from_le64 (drop 8 whole) ≡ from_le64 (drop 8 bytes)
  length_is : length_in whole ≡ length_in bytes

same_head : (bytes more : List ℕ) → 32 ≤ length bytes → SameHead bytes (bytes ++ more)
same_head bytes more long =
    let whole : List ℕ = bytes ++ more in
    let len = length-append bytes more in
    let front : take 8 whole ≡ take 8 bytes = take-append-le 8 bytes more (omega arith) in
    let all : take (length bytes) magic ≡ magic = take_all (length bytes) magic (omega arith) in
    let all_more : take (length whole) magic ≡ magic = take_all (length whole) magic (omega arith) in
    record {
      longer = omega arith;
      packed = λ h. front ∙ h ∙ all ∙ sym all_more;
      unpacked = λ h. sym front ∙ h ∙ all_more ∙ sym all;
      word_is = number_same 8 bytes more (omega arith);
      length_is = number_same 16 bytes more (omega arith);
    }

has_head : (bytes whole : List ℕ) → SameHead bytes whole → HasHead bytes → HasHead whole
has_head bytes whole s h = let long = h.long in let more = s.longer in
    record { packed = s.packed h.packed; long = omega arith }

version_same : (bytes whole : List ℕ) → SameHead bytes whole → version_in whole ≡ version_in bytes
version_same bytes whole s = ap (λ (n : ℕ). n % 2 ^ 32) s.word_is

kind_same : (bytes whole : List ℕ) → SameHead bytes whole → kind_in whole ≡ kind_in bytes
kind_same bytes whole s = ap (λ (n : ℕ). n / 2 ^ 32) s.word_is

has_version : (bytes whole : List ℕ) → SameHead bytes whole → HasVersion bytes → HasVersion whole
has_version bytes whole s h =
    record { head = has_head bytes whole s h.head; version_is = version_same bytes whole s ∙ h.version_is }

has_length : (bytes whole : List ℕ) → SameHead bytes whole → HasLength bytes → HasLength whole
has_length bytes whole s h =
    let len = s.length_is in
    let least = h.least in
    let most = h.most in
    record { version = has_version bytes whole s h.version; least = omega arith; most = omega arith }

-- all of a piece is the same, if all of it is there
record SameParts (bytes whole : List ℕ) : Type 0 where
  there : IsWhole whole
  body_is : body_in whole ≡ body_in bytes
  summed_is : summed_in whole ≡ summed_in bytes
  sum_is : sum_in whole ≡ sum_in bytes

same_parts : (bytes more : List ℕ) → SameHead bytes (bytes ++ more) → IsWhole bytes → SameParts bytes (bytes ++ more)
same_parts bytes more s h =
    let whole : List ℕ = bytes ++ more in
    let len : ℕ = length_in bytes in
    let there = h.there in
    let least = h.stated.least in
    let longer = s.longer in
    let is = s.length_is in
    let summed : take (len - 8) whole ≡ take (len - 8) bytes = take-append-le (len - 8) bytes more (omega arith) in
    let sum : take 8 (drop (len - 8) whole) ≡ take 8 (drop (len - 8) bytes) =
    ap (take 8) (drop-append-le (len - 8) bytes more (omega arith))
    ∙ take-append-le 8 (drop (len - 8) bytes) more (omega (arith, length-drop (len - 8) bytes)) in
    let body : take (len - 32 - 8) (drop 32 whole) ≡ take (len - 32 - 8) (drop 32 bytes) =
    ap (take (len - 32 - 8)) (drop-append-le 32 bytes more (omega arith))
    ∙ take-append-le (len - 32 - 8) (drop 32 bytes) more (omega (arith, length-drop 32 bytes)) in
    record {
      there = record { stated = has_length bytes whole s h.stated; there = omega arith };
      body_is = ap (λ (n : ℕ). take (n - 32 - 8) (drop 32 whole)) is ∙ body;
      summed_is = ap (λ (n : ℕ). take (n - 8) whole) is ∙ summed;
      sum_is = ap (λ (n : ℕ). take 8 (drop (n - 8) whole)) is ∙ sum;
    }

sums_same : (bytes whole : List ℕ) → SameParts bytes whole
    → le64 (crc32c (summed_in whole)) ≡ le64 (crc32c (summed_in bytes))
sums_same bytes whole p = ap (λ (b : List ℕ). le64 (crc32c b)) p.summed_is

seal_same : (bytes whole : List ℕ) → SameParts bytes whole → IsSealed bytes → IsSealed whole
seal_same bytes whole p h =
    record { whole = p.there; sum_is = p.sum_is ∙ h.sum_is ∙ sym (sums_same bytes whole p) }

parcel_same : (bytes whole : List ℕ) → SameHead bytes whole → SameParts bytes whole → HoldsParcel bytes
    → HoldsParcel whole
parcel_same bytes whole s p h =
    record { seal = seal_same bytes whole p h.seal; kind_is = kind_same bytes whole s ∙ h.kind_is }

mark_same : (bytes whole : List ℕ) → SameHead bytes whole → SameParts bytes whole → HoldsMark bytes → HoldsMark whole
mark_same bytes whole s p h = record {
  seal = seal_same bytes whole p h.seal;
  kind_least = subst (λ (k : ℕ). 1 ≤ k) (sym (kind_same bytes whole s)) h.kind_least;
  kind_most = subst (λ (k : ℕ). k ≤ 3) (sym (kind_same bytes whole s)) h.kind_most;
}

-- ---- the first fault

no_cut : (bytes : List ℕ) → IsDecided bytes → IsCut bytes → ⊥
no_cut bytes d f = ⊎_elim
    (λ h. let short = h.1 in let long = d.long in omega arith)
    (λ h. let short = h.1 in let there = d.there h.0 in omega arith)
    f

length_out : (len other : ℕ) → other ≡ len → (len < 56) ⊎ (65608 < len) → (other < 56) ⊎ (65608 < other)
length_out len other is f = subst (λ (n : ℕ). (n < 56) ⊎ (65608 < n)) (sym is) f

pub fault_stays : (bytes more : List ℕ) (cause : PieceCause) → IsDecided bytes → FirstPieceFault bytes cause
    → FirstPieceFault (bytes ++ more) cause
fault_stays bytes more cause d f = stays cause f
  where
    whole : List ℕ
    whole = bytes ++ more

    s : SameHead bytes whole
    s = same_head bytes more d.long

    stays : (cause : PieceCause) → FirstPieceFault bytes cause → FirstPieceFault whole cause
    stays not_packed f = λ h. f (s.unpacked h)
    stays cut f = absurd (no_cut bytes d f)
    stays bad_version f = (has_head bytes whole s f.0, λ e. f.1 (sym (version_same bytes whole s) ∙ e))
    stays bad_length f = (has_version bytes whole s f.0, length_out (length_in bytes) (length_in whole) s.length_is f.1)
    stays bad_sum f =
        let p = same_parts bytes more s f.0 in
        (p.there, λ e. f.1 (sym p.sum_is ∙ e ∙ sums_same bytes whole p))
    stays bad_kind f =
        let p = same_parts bytes more s f.0.whole in
        (seal_same bytes whole p f.0, subst (λ (k : ℕ). 3 < k) (sym (kind_same bytes whole s)) f.1)
    stays (bad_parcel cause) f =
        let p = same_parts bytes more s f.0.seal.whole in
        (parcel_same bytes whole s p f.0, subst (λ (b : List ℕ). FirstParcelFault b cause) (sym p.body_is) f.1)
    stays loose f =
        let p = same_parts bytes more s f.0.seal.whole in
        (parcel_same bytes whole s p f.0, subst IsLoose (sym p.body_is) f.1)
    stays bad_mark f =
        let p = same_parts bytes more s f.0.seal.whole in (
          mark_same bytes whole s p f.0,
          subst (IsBadMark (kind_in whole)) (sym p.body_is)
              (subst (λ (k : ℕ). IsBadMark k (body_in bytes)) (sym (kind_same bytes whole s)) f.1),
        )

-- ---- both ways

pub piece_stays : (bytes more : List ℕ) (piece : Packed) → BeginsWith bytes piece → BeginsWith (bytes ++ more) piece
piece_stays bytes more piece b = record {
  sound = b.sound;
  rest = b.rest ++ more;
  whole = ap (λ (x : List ℕ). x ++ more) b.whole ∙ append_assoc _ b.rest more;
}

pub piece-iff : (bytes more : List ℕ) (piece : Packed) → AreBytes bytes → IsDecided bytes
    → BeginsWith bytes piece ↔ BeginsWith (bytes ++ more) piece
piece-iff bytes more piece small d = (
  piece_stays bytes more piece,
  λ b. ⊎_elim
      (λ there. subst (BeginsWith bytes)
      (one_piece (bytes ++ more) there.0 piece (piece_stays bytes more there.0 there.1) b) there.1)
      (λ faulty. absurd (piece_no_fault (bytes ++ more) piece faulty.0 b
      (fault_stays bytes more faulty.0 d faulty.1)))
      (piece_or_fault bytes small),
)

pub fault-iff : (bytes more : List ℕ) (cause : PieceCause) → AreBytes bytes → IsDecided bytes
    → FirstPieceFault bytes cause ↔ FirstPieceFault (bytes ++ more) cause
fault-iff bytes more cause small d = (
  fault_stays bytes more cause d,
  λ f. ⊎_elim
      (λ there. absurd (piece_no_fault (bytes ++ more) there.0 cause (piece_stays bytes more there.0 there.1) f))
      (λ faulty. subst (FirstPieceFault bytes)
      (one_fault (bytes ++ more) faulty.0 cause (fault_stays bytes more faulty.0 d faulty.1) f) faulty.1)
      (piece_or_fault bytes small),
)
