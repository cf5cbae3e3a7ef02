-- The numbers before a parcel's image: its bytes decide them, and if there are enough bytes, they are there.
use Rattle.std.proofs.Common.{◌≡◌, ℕ, ◌+◌, ◌≤◌, List, ◌++◌, length, drop, sym, ap, ◌∙◌, arith, length-append}
use Rattle.std.proofs.Common.{length-drop}
use Rattle.std.proofs.lemmas.List.{drop-drop}
use Rattle.trace_model.specs.FirstFault.{AreBytes}
use Rattle.trace_model.specs.Image.{le64, from_le64}
use Rattle.trace_model.specs.ParcelBytes.{with_numbers, HasNumbers}
use Rattle.trace_model.proofs.words.OneWord.{AreBytes-drop}
use Rattle.trace_model.proofs.images.ImageParts.{length-le64, from_le64-le64, from_le64_lt, le64-front, drop-le64}

pub length-with_numbers : (cpu fill first missed : ℕ) (image : List ℕ)
    → length (with_numbers cpu fill first missed image) ≡ 32 + length image
length-with_numbers cpu fill first missed image = omega (
  arith,
  length-append (le64 cpu) (le64 fill ++ (le64 first ++ (le64 missed ++ image))),
  length-append (le64 fill) (le64 first ++ (le64 missed ++ image)),
  length-append (le64 first) (le64 missed ++ image),
  length-append (le64 missed) image,
  length-le64 cpu,
  length-le64 fill,
  length-le64 first,
  length-le64 missed,
)

-- where forty-eight bytes are, four numbers are
pub HasNumbers-of : (bytes : List ℕ) → AreBytes bytes → 48 ≤ length bytes
    → HasNumbers bytes (from_le64 bytes) (from_le64 (drop 8 bytes)) (from_le64 (drop 16 bytes))
    (from_le64 (drop 24 bytes)) (drop 32 bytes)
HasNumbers-of bytes small long =
    let second =
    le64-front (drop 8 bytes) (omega (arith, length-drop 8 bytes)) (AreBytes-drop 8 bytes small)
    ∙ ap (λ (b : List ℕ). le64 (from_le64 (drop 8 bytes)) ++ b) (drop-drop 8 8 bytes) in
    let third =
    le64-front (drop 16 bytes) (omega (arith, length-drop 16 bytes)) (AreBytes-drop 16 bytes small)
    ∙ ap (λ (b : List ℕ). le64 (from_le64 (drop 16 bytes)) ++ b) (drop-drop 8 16 bytes) in
    let fourth =
    le64-front (drop 24 bytes) (omega (arith, length-drop 24 bytes)) (AreBytes-drop 24 bytes small)
    ∙ ap (λ (b : List ℕ). le64 (from_le64 (drop 24 bytes)) ++ b) (drop-drop 8 24 bytes) in
    record {
      whole = le64-front bytes (omega arith) small
          ∙ ap (λ (b : List ℕ). le64 (from_le64 bytes) ++ b)
          (second
          ∙ ap (λ (b : List ℕ). le64 (from_le64 (drop 8 bytes)) ++ b)
          (third ∙ ap (λ (b : List ℕ). le64 (from_le64 (drop 16 bytes)) ++ b) fourth));
      cpu_fits = from_le64_lt bytes small;
      fill_fits = from_le64_lt (drop 8 bytes) (AreBytes-drop 8 bytes small);
      first_fits = from_le64_lt (drop 16 bytes) (AreBytes-drop 16 bytes small);
      missed_fits = from_le64_lt (drop 24 bytes) (AreBytes-drop 24 bytes small);
      long = omega (arith, length-drop 32 bytes);
    }

-- the bytes decide the numbers, and what follows them
pub record NumbersAre (bytes : List ℕ) (cpu fill first missed : ℕ) (image : List ℕ) : Type 0 where
  pub cpu_is : cpu ≡ from_le64 bytes
  pub fill_is : fill ≡ from_le64 (drop 8 bytes)
  pub first_is : first ≡ from_le64 (drop 16 bytes)
  pub missed_is : missed ≡ from_le64 (drop 24 bytes)
  pub image_is : image ≡ drop 32 bytes
  pub length_is : length bytes ≡ 32 + length image

pub HasNumbers-are : (bytes : List ℕ) (cpu fill first missed : ℕ) (image : List ℕ)
    → HasNumbers bytes cpu fill first missed image → NumbersAre bytes cpu fill first missed image
HasNumbers-are bytes cpu fill first missed image h =
    let second : drop 8 bytes ≡ le64 fill ++ (le64 first ++ (le64 missed ++ image)) =
    ap (drop 8) h.whole ∙ drop-le64 cpu (le64 fill ++ (le64 first ++ (le64 missed ++ image))) in
    let third : drop 16 bytes ≡ le64 first ++ (le64 missed ++ image) =
    sym (drop-drop 8 8 bytes) ∙ ap (drop 8) second ∙ drop-le64 fill (le64 first ++ (le64 missed ++ image)) in
    let fourth : drop 24 bytes ≡ le64 missed ++ image =
    sym (drop-drop 8 16 bytes) ∙ ap (drop 8) third ∙ drop-le64 first (le64 missed ++ image) in
    let last : drop 32 bytes ≡ image = sym (drop-drop 8 24 bytes) ∙ ap (drop 8) fourth ∙ drop-le64 missed image in
    record {
      cpu_is =
          sym
          (ap from_le64 h.whole
          ∙ from_le64-le64 cpu (le64 fill ++ (le64 first ++ (le64 missed ++ image))) h.cpu_fits);
      fill_is = sym (ap from_le64 second ∙ from_le64-le64 fill (le64 first ++ (le64 missed ++ image)) h.fill_fits);
      first_is = sym (ap from_le64 third ∙ from_le64-le64 first (le64 missed ++ image) h.first_fits);
      missed_is = sym (ap from_le64 fourth ∙ from_le64-le64 missed image h.missed_fits);
      image_is = sym last;
      length_is = ap length h.whole ∙ length-with_numbers cpu fill first missed image;
    }

pub record SameNumbers (cpu other_cpu fill other_fill first other_first missed other_missed : ℕ)
    (image other : List ℕ) : Type 0 where
  pub cpus : cpu ≡ other_cpu
  pub fills : fill ≡ other_fill
  pub firsts : first ≡ other_first
  pub misses : missed ≡ other_missed
  pub images : image ≡ other

pub HasNumbers-same : (bytes : List ℕ) (cpu other_cpu fill other_fill first other_first missed other_missed : ℕ)
    (image other : List ℕ) → HasNumbers bytes cpu fill first missed image
    → HasNumbers bytes other_cpu other_fill other_first other_missed other
    → SameNumbers cpu other_cpu fill other_fill first other_first missed other_missed image other
HasNumbers-same bytes cpu other_cpu fill other_fill first other_first missed other_missed image other h g =
    let a = HasNumbers-are bytes cpu fill first missed image h in
    let b = HasNumbers-are bytes other_cpu other_fill other_first other_missed other g in
    record {
      cpus = a.cpu_is ∙ sym b.cpu_is;
      fills = a.fill_is ∙ sym b.fill_is;
      firsts = a.first_is ∙ sym b.first_is;
      misses = a.missed_is ∙ sym b.missed_is;
      images = a.image_is ∙ sym b.image_is;
    }
