-- The bytes of a parcel whose page has no unused room: its image's commit word distinguishes them from all others.
use Rattle.std.proofs.Common.{◌≡◌, ℕ, ◌+◌, ◌-◌, ◌^◌, ◌<◌, ◌≤◌, Bool, true, false, cond, ltb, leb, ◌&&◌, List, [], ◌++◌}
use Rattle.std.proofs.Common.{length, drop, replicate, refl, sym, ap, ◌∙◌, subst, arith, append-nil, length-append}
use Rattle.std.proofs.lemmas.List.{drop-drop, nil_from_length}
use Rattle.std.proofs.lemmas.Bool.{lt-leb}
use Rattle.trace_model.specs.Words.{Decodes}
use Rattle.trace_model.specs.Image.{le64, from_le64, Commit, commit_word, commit_of, stores_count, stored_count, filled}
use Rattle.trace_model.specs.Image.{image_of}
use Rattle.trace_model.specs.Parcel.{Parcel}
use Rattle.trace_model.specs.ParcelBytes.{with_numbers, bytes_of_parcel, DecodesParcel}
use Rattle.trace_model.specs.declared.limits.TheConstants.{MAX_SIZE}
use Rattle.trace_model.proofs.images.ImageParts.{from_le64-le64, drop-le64, commit_from, commit_from-commit_word}
use Rattle.trace_model.proofs.images.ImageParts.{commit_word_lt, HasHeader-is}
use Rattle.trace_model.proofs.images.Images.{length-image_of}
use Rattle.trace_model.proofs.images.ParcelParts.{HasNumbers-are}
use Rattle.parcel_streams.specs.Faults.{IsFitted}

-- the commit word is the one that is written if all bytes after it are data
abbrev pub IsTight : List ℕ → Type 0
IsTight body =
    from_le64 (drop 40 body) ≡ commit_word
    (commit_of (drop 48 body) (from_le64 (drop 24 body)) (length (drop 48 body)))

-- ---- a page as long as its data

and-no : (some room : Bool) → room ≡ false → (some && room) ≡ false
and-no true room is = is
and-no false room is = refl

no_count : (contents : List ℕ) (missed : ℕ) → stores_count contents missed (length contents) ≡ false
no_count contents missed = and-no (ltb 0 missed) (leb (length contents + 8) (length contents))
    (lt-leb (length contents + 8) (length contents) (omega arith))

pub filled_is : (contents : List ℕ) (missed : ℕ)
    → filled contents (stored_count contents missed (length contents)) (length contents) ≡ contents
filled_is contents missed =
    let none : length contents - length contents - 0 ≡ 0 = omega arith in
    ap (λ (b : Bool). filled contents (cond b (le64 missed) []) (length contents)) (no_count contents missed)
    ∙ ap (λ (n : ℕ). contents ++ replicate n 0) none
    ∙ append-nil contents

-- ---- the test

pub record FittedIs (body : List ℕ) (parcel : Parcel) (time size : ℕ) : Type 0 where
  pub time_is : time ≡ from_le64 (drop 32 body)
  pub size_is : size ≡ length (drop 48 body)
  pub long : length body ≡ 48 + size
  pub body_is : body ≡ bytes_of_parcel parcel time (drop 48 body) (length (drop 48 body))
  pub fill_fits : parcel.fill < 2 ^ 64
  pub time_fits : time < 2 ^ 64
  pub size_fits : length (drop 48 body) ≤ MAX_SIZE
  pub reads : Decodes (drop 48 body) time parcel.records

-- a parcel that passes it is written so
pub fitted_from : (body : List ℕ) (parcel : Parcel) (d : DecodesParcel body parcel) → IsTight body
    → FittedIs body parcel d.image.time d.image.size
fitted_from body parcel d tight =
    let image : List ℕ = d.image.image in
    let parts = d.image.reads.parts in
    let commit : Commit = d.image.reads.commit in
    let contents : List ℕ = d.image.reads.contents in
    let behind : List ℕ = d.image.reads.behind in
    let time : ℕ = d.image.time in
    let own : List ℕ = drop 48 body in
    let numbers = HasNumbers-are body parcel.cpu parcel.fill parcel.first parcel.missed image d.image.numbers in
    let header = HasHeader-is image time commit (contents ++ behind) parts.header in
    let limit = parts.length_fits in
    let long = header.long in
    let whole_len = numbers.length_is in
    let word : from_le64 (drop 8 image) ≡ from_le64 (drop 40 body) = ap (λ (b : List ℕ). from_le64 (drop 8 b))
    numbers.image_is ∙ ap from_le64 (drop-drop 8 32 body) in
    let rest : contents ++ behind ≡ own = header.rest_is ∙ ap (drop 16) numbers.image_is ∙ drop-drop 16 32 body in
    let data_len : length own ≡ length (contents ++ behind) = ap length (sym rest) in
    let written : Commit = commit_of own parcel.missed (length own) in
    let commit_is : commit ≡ written =
    header.commit_is
    ∙ ap commit_from (word ∙ tight ∙ ap (λ (m : ℕ). commit_word (commit_of own m (length own)))
    (sym numbers.missed_is))
    ∙ commit_from-commit_word written (omega arith) in
    let contents_len : length contents ≡ length own = parts.size_is ∙ ap (λ (c : Commit). c.size) commit_is in
    let both = length-append contents behind in
    let none : behind ≡ [] = nil_from_length behind (omega arith) in
    let data_is : contents ≡ own = sym (append-nil contents) ∙ ap (λ (b : List ℕ). contents ++ b) (sym none) ∙ rest in
    let image_is : image ≡ image_of time own parcel.missed (length own) =
    parts.header.whole ∙ (λ i. le64 time ++ (le64 (commit_word (commit_is i)) ++ rest i))
    ∙ ap (λ (b : List ℕ). le64 time ++ (le64 (commit_word written) ++ b)) (sym (filled_is own parcel.missed)) in
    let size_is = d.image.reads.size_is ∙ ap (λ (c : Commit). c.size) commit_is in
    record {
      time_is = header.time_is ∙ ap from_le64 numbers.image_is;
      size_is = size_is;
      long = omega arith;
      body_is = d.image.numbers.whole ∙ ap (with_numbers parcel.cpu parcel.fill parcel.first parcel.missed) image_is;
      fill_fits = d.image.numbers.fill_fits;
      time_fits = parts.header.time_fits;
      size_fits = omega arith;
      reads = subst (λ (b : List ℕ). Decodes b time parcel.records) data_is d.image.reads.reads;
    }

pub IsFitted-from : (body : List ℕ) (parcel : Parcel) → DecodesParcel body parcel → IsTight body
    → IsFitted body parcel
IsFitted-from body parcel d tight = let is = fitted_from body parcel d
    tight in (d.image.time, drop 48 body, is.body_is)

-- and one that is written so passes it
pub IsTight-from : (body : List ℕ) (parcel : Parcel) → DecodesParcel body parcel → IsFitted body parcel → IsTight body
IsTight-from body parcel d (time, contents, whole) =
    let size : ℕ = length contents in
    let image : List ℕ = image_of time contents parcel.missed size in
    let image_len = length-image_of time contents parcel.missed size (omega arith) in
    let numbers = HasNumbers-are body parcel.cpu parcel.fill parcel.first parcel.missed image (record {
      whole = whole;
      cpu_fits = d.image.numbers.cpu_fits;
      fill_fits = d.image.numbers.fill_fits;
      first_fits = d.image.numbers.first_fits;
      missed_fits = d.image.numbers.missed_fits;
      long = omega arith;
    }) in
    let read = HasNumbers-are body parcel.cpu parcel.fill parcel.first parcel.missed d.image.image d.image.numbers in
    let limit = d.image.reads.parts.length_fits in
    let len = numbers.length_is in
    let read_len = read.length_is in
    let word : ℕ = commit_word (commit_of contents parcel.missed size) in
    let rest : List ℕ = filled contents (stored_count contents parcel.missed size) size in
    let forty : drop 40 body ≡ le64 word ++ rest = sym (drop-drop 8 32 body) ∙ ap (drop 8) (sym numbers.image_is)
    ∙ drop-le64 time (le64 word ++ rest) in
    let own : drop 48 body ≡ contents = sym (drop-drop 8 40 body) ∙ ap (drop 8) forty ∙ drop-le64 word rest
    ∙ filled_is contents parcel.missed in
    ap from_le64 forty
    ∙ from_le64-le64 word rest (commit_word_lt (commit_of contents parcel.missed size) (omega arith) (omega arith))
    ∙ (λ i. commit_word (commit_of (sym own i) (numbers.missed_is i) (length (sym own i))))
