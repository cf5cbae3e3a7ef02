-- The time that a stamp leads to; and what is restored of an image.
use Rattle.std.proofs.Common.{◌≡◌, ℕ, ◌+◌, ◌-◌, ◌%◌, ◌^◌, ◌<◌, ◌≤◌, List, [], ◌∷◌, ◌++◌, length, take, drop, Bool}
use Rattle.std.proofs.Common.{false, cond, le-ltb, refl, sym, ap, ◌∙◌, arith, append_assoc, length-append}
use Rattle.std.specs.List.{list_any}
use Rattle.std.proofs.lemmas.List.{take_at, drop_at}
use Rattle.trace_model.specs.Words.{Word, short_data, long_data, padding, time_extend, time_stamp, is_stamp, joined}
use Rattle.trace_model.specs.Words.{word_time_limit, IsJoined}
use Rattle.trace_model.specs.Image.{le64, from_le64, Commit, commit_word, HasParts}
use Rattle.trace_model.proofs.words.Unique.{words_in-IsJoined}
use Rattle.trace_model.proofs.images.ImageParts.{length-le64, from_le64-le64, drop-le64, commit_word_lt}
use Rattle.trace_model.proofs.images.ImageParts.{commit_from-commit_word}
use Rattle.page_image.specs.Images.{data_in, behind_data}
use Rattle.capture.specs.stamps.Restored.{time_until, restored_time, restored_words, restored_data, restored_image}
use Rattle.capture.specs.stamps.Restored.{stated_size}

pub low-bits : (before stamp : ℕ) → stamp < word_time_limit
    → (before + time_until before stamp) % word_time_limit ≡ stamp
low-bits before stamp fits = omega arith

pub next-time : (before stamp : ℕ) → time_until before stamp < word_time_limit
next-time before stamp = omega arith

pub high-bits : (before stamp : ℕ) → stamp < word_time_limit → before ≤ before - before % word_time_limit + stamp
    → before + time_until before stamp ≡ before - before % word_time_limit + stamp
high-bits before stamp fits late = omega arith

pub added-bits : (before stamp : ℕ) → stamp < word_time_limit → before - before % word_time_limit + stamp < before
    → before + time_until before stamp ≡ before - before % word_time_limit + stamp + word_time_limit
added-bits before stamp fits early = omega arith

pub words-stay : (time : ℕ) (words : List Word) → list_any is_stamp words ≡ false → restored_words time words ≡ words
words-stay time [] none = refl
words-stay time (short_data delta payload ∷ words) none =
    ap (λ (ws : List Word). short_data delta payload ∷ ws)
    (words-stay (restored_time time (short_data delta payload)) words none)
words-stay time (long_data delta payload ∷ words) none =
    ap (λ (ws : List Word). long_data delta payload ∷ ws)
    (words-stay (restored_time time (long_data delta payload)) words none)
words-stay time (padding delta skipped ∷ words) none =
    ap (λ (ws : List Word). padding delta skipped ∷ ws)
    (words-stay (restored_time time (padding delta skipped)) words none)
words-stay time (time_extend delta ∷ words) none =
    ap (λ (ws : List Word). time_extend delta ∷ ws) (words-stay (restored_time time (time_extend delta)) words none)
words-stay time (time_stamp stamp ∷ words) none = cc

-- data that is cut into words
pub restored-joined : (contents : List ℕ) (time : ℕ) (words : List Word) (rest : List ℕ) → IsJoined contents words rest
    → restored_data time contents ≡ joined (restored_words time words) ++ rest
restored-joined contents time words rest cut =
    ap (λ (ws : List Word). joined (restored_words time ws) ++ drop (length (joined ws)) contents)
    (words_in-IsJoined contents words rest cut)
    ∙ ap (λ (xs : List ℕ). joined (restored_words time words) ++ drop (length (joined words)) xs) cut.whole
    ∙ ap (λ (xs : List ℕ). joined (restored_words time words) ++ xs)
    (drop_at (joined words) rest (length (joined words)) refl)

-- what is read of the front of an image
record Front (bytes : List ℕ) (time : ℕ) (commit : Commit) (contents behind : List ℕ) : Type 0 where
  pub time_is : from_le64 bytes ≡ time
  pub size_is : stated_size bytes ≡ commit.size
  pub front_is : take 16 bytes ≡ le64 time ++ le64 (commit_word commit)
  pub rest_is : drop 16 bytes ≡ contents ++ behind
  pub long : length bytes ≡ 16 + length contents + length behind

front : (limit : ℕ) (bytes : List ℕ) (time : ℕ) (commit : Commit) (contents behind : List ℕ)
    → HasParts limit bytes time commit contents behind
    → Front bytes time commit contents behind
front limit bytes time commit contents behind parts =
    let header = parts.header in
    let word = commit_word commit in
    let rest = contents ++ behind in
    let low : word < 2 ^ 64 = commit_word_lt commit header.size_fits header.ignored_fits in
    let second : drop 8 bytes ≡ le64 word ++ rest = ap (drop 8) header.whole ∙ drop-le64 time (le64 word ++ rest) in
    let spelled : from_le64 (drop 8 bytes) ≡ word = ap from_le64 second ∙ from_le64-le64 word rest low in
    let split : bytes ≡ (le64 time ++ le64 word) ++ rest =
    header.whole ∙ sym (append_assoc (le64 time) (le64 word) rest) in
    let sixteen : length (le64 time ++ le64 word) ≡ 16 =
    length-append (le64 time) (le64 word) ∙ omega (arith, length-le64 time, length-le64 word) in
    record {
      time_is = ap from_le64 header.whole ∙ from_le64-le64 time (le64 word ++ rest) header.time_fits;
      size_is =
          ap (λ (n : ℕ). n % 2 ^ 30) spelled
          ∙ ap (λ (c : Commit). c.size) (commit_from-commit_word commit header.size_fits);
      front_is = ap (take 16) split ∙ take_at (le64 time ++ le64 word) rest 16 sixteen;
      rest_is = ap (drop 16) split ∙ drop_at (le64 time ++ le64 word) rest 16 sixteen;
      long =
          ap (length {A = ℕ}) split ∙ length-append (le64 time ++ le64 word) rest
          ∙ omega (arith, sixteen, length-append contents behind);
    }

pub restored-parts : (limit : ℕ) (bytes : List ℕ) (time : ℕ) (commit : Commit) (contents behind : List ℕ)
    → HasParts limit bytes time commit contents behind
    → restored_image bytes ≡ le64 time ++ (le64 (commit_word commit) ++ (restored_data time contents ++ behind))
restored-parts limit bytes time commit contents behind parts =
    let f = front limit bytes time commit contents behind parts in
    let inside : 16 + stated_size bytes ≤ length bytes = omega (arith, f.size_is, f.long, parts.size_is) in
    let own : data_in bytes (stated_size bytes) ≡ contents =
    ap (λ (n : ℕ). take n (drop 16 bytes)) f.size_is ∙ ap (take commit.size) f.rest_is
    ∙ take_at contents behind commit.size parts.size_is in
    let left : behind_data bytes (stated_size bytes) ≡ behind =
    ap (λ (n : ℕ). drop n (drop 16 bytes)) f.size_is ∙ ap (drop commit.size) f.rest_is
    ∙ drop_at contents behind commit.size parts.size_is in
    ap (λ (short : Bool).
    cond short bytes
    (take 16 bytes
    ++ (restored_data (from_le64 bytes) (data_in bytes (stated_size bytes))
    ++ behind_data bytes (stated_size bytes))))
    (le-ltb (length bytes) (16 + stated_size bytes) inside)
    ∙ ap
    (λ (xs : List ℕ).
    xs
    ++ (restored_data (from_le64 bytes) (data_in bytes (stated_size bytes))
    ++ behind_data bytes (stated_size bytes))) f.front_is
    ∙ append_assoc (le64 time) (le64 (commit_word commit)) _
    ∙ ap
    (λ (xs : List ℕ).
    le64 time
    ++ (le64 (commit_word commit)
    ++ (restored_data (from_le64 bytes) (data_in bytes (stated_size bytes)) ++ xs))) left
    ∙ ap (λ (xs : List ℕ). le64 time ++ (le64 (commit_word commit) ++ (restored_data (from_le64 bytes) xs ++ behind)))
    own
    ∙ ap (λ (t : ℕ). le64 time ++ (le64 (commit_word commit) ++ (restored_data t contents ++ behind))) f.time_is
