-- The parts of an image: its bytes decide them, and where there are enough bytes, they are there.
use Rattle.std.proofs.Common.{◌≡◌, ⊎_elim, ℕ, zero, suc, ◌+◌, ◌*◌, ◌/◌, ◌%◌, ◌^◌, ◌<◌, ◌≤◌, Bool, true, false, cond}
use Rattle.std.proofs.Common.{eqb, List, [], ◌∷◌, ◌++◌, length, take, drop, refl, sym, ap, ◌∙◌, subst, arith}
use Rattle.std.proofs.Common.{length-append, length-drop, length-take-le, take-append-drop, zero-mul, one-mul}
use Rattle.std.proofs.lemmas.Nat.{le_bytes_8, from_le_bytes-to_le_bytes_8}
use Rattle.std.proofs.lemmas.List.{take_at, drop_at, drop-drop}
use Rattle.std.proofs.lemmas.Bool.{eq-eqb, ne_eqb, cases_Bool, cases_lt, false≢true, true≢false}
use Rattle.trace_model.specs.FirstFault.{AreBytes}
use Rattle.trace_model.specs.Image.{le64, from_le64, Commit, commit_word, HasHeader, HasParts, Missed, none, unknown}
use Rattle.trace_model.specs.Image.{counted, ReportsMissed}
use Rattle.trace_model.proofs.words.OneWord.{AreBytes-drop, AreBytes-take}

-- ---- a number in eight bytes

pub length-le64 : (n : ℕ) → length (le64 n) ≡ 8
unfolding le64
length-le64 n = refl

pub from_le64-le64 : (n : ℕ) (rest : List ℕ) → n < 2 ^ 64 → from_le64 (le64 n ++ rest) ≡ n
unfolding from_le64 le64
from_le64-le64 n rest fits = from_le_bytes-to_le_bytes_8 n fits

pub from_le64-take : (bytes : List ℕ) → from_le64 (take 8 bytes) ≡ from_le64 bytes
unfolding from_le64
from_le64-take [] = refl
from_le64-take (a ∷ []) = refl
from_le64-take (a ∷ b ∷ []) = refl
from_le64-take (a ∷ b ∷ c ∷ []) = refl
from_le64-take (a ∷ b ∷ c ∷ d ∷ []) = refl
from_le64-take (a ∷ b ∷ c ∷ d ∷ e ∷ []) = refl
from_le64-take (a ∷ b ∷ c ∷ d ∷ e ∷ f ∷ []) = refl
from_le64-take (a ∷ b ∷ c ∷ d ∷ e ∷ f ∷ g ∷ []) = refl
from_le64-take (a ∷ b ∷ c ∷ d ∷ e ∷ f ∷ g ∷ h ∷ bytes) = refl

pub from_le64_lt : (bytes : List ℕ) → AreBytes bytes → from_le64 bytes < 2 ^ 64
unfolding from_le64
from_le64_lt bytes small =
    let a = small 0 in let b = small 1 in let c = small 2 in let d = small 3 in
    let e = small 4 in let f = small 5 in let g = small 6 in let h = small 7 in omega arith

pub le64-from_le64 : (bytes : List ℕ) → 8 ≤ length bytes → AreBytes bytes → le64 (from_le64 bytes) ≡ take 8 bytes
unfolding from_le64 le64
le64-from_le64 bytes long small =
    le_bytes_8 (take 8 bytes) (from_le64 bytes) (length-take-le 8 bytes long) (AreBytes-take 8 bytes small)
    (sym (from_le64-take bytes))

-- the first eight bytes are the number that they read as, and then comes the rest
pub le64-front : (bytes : List ℕ) → 8 ≤ length bytes → AreBytes bytes → bytes ≡ le64 (from_le64 bytes) ++ drop 8 bytes
le64-front bytes long small =
    sym (take-append-drop 8 bytes) ∙ ap (λ (b : List ℕ). b ++ drop 8 bytes) (sym (le64-from_le64 bytes long small))

pub drop-le64 : (n : ℕ) (rest : List ℕ) → drop 8 (le64 n ++ rest) ≡ rest
drop-le64 n rest = drop_at (le64 n) rest 8 (length-le64 n)

-- ---- the commit word

-- the parts of a commit word
abbrev pub commit_from : ℕ → Commit
commit_from n =
    record {
      size = n % 2 ^ 30;
      is_stored = eqb (n / 2 ^ 30 % 2) 1;
      is_missed = eqb (n / 2 ^ 31 % 2) 1;
      ignored = n / 2 ^ 32;
    }

flag : (bit value : ℕ) → bit < 2 → cond (eqb bit 1) value 0 ≡ bit * value
flag zero value low = sym (zero-mul value)
flag (suc zero) value low = sym (one-mul value)
flag (suc (suc bit)) value low = absurd (omega arith)

pub commit_word-commit_from : (n : ℕ) → commit_word (commit_from n) ≡ n
commit_word-commit_from n =
    (λ i.
    n % 2 ^ 30 + flag (n / 2 ^ 30 % 2) (2 ^ 30) (omega arith) i + flag (n / 2 ^ 31 % 2) (2 ^ 31) (omega arith) i + 2
    ^ 32 * (n / 2 ^ 32))
    ∙ omega arith

record ReadsFlags (size ignored : ℕ) (stored missed : Bool) (word : ℕ) : Type 0 where
  size_is : word % 2 ^ 30 ≡ size
  stored_is : eqb (word / 2 ^ 30 % 2) 1 ≡ stored
  missed_is : eqb (word / 2 ^ 31 % 2) 1 ≡ missed
  ignored_is : word / 2 ^ 32 ≡ ignored

reads_flags : (size ignored : ℕ) (stored missed : Bool) → size < 2 ^ 30
    → ReadsFlags size ignored stored missed
    (commit_word (record { size = size; is_stored = stored; is_missed = missed; ignored = ignored }))
reads_flags size ignored true true fits =
    record {
      size_is = omega arith;
      stored_is = eq-eqb _ 1 (omega arith);
      missed_is = eq-eqb _ 1 (omega arith);
      ignored_is = omega arith;
    }
reads_flags size ignored true false fits =
    record {
      size_is = omega arith;
      stored_is = eq-eqb _ 1 (omega arith);
      missed_is = ne_eqb _ 1 (λ e. absurd (omega arith));
      ignored_is = omega arith;
    }
reads_flags size ignored false true fits =
    record {
      size_is = omega arith;
      stored_is = ne_eqb _ 1 (λ e. absurd (omega arith));
      missed_is = eq-eqb _ 1 (omega arith);
      ignored_is = omega arith;
    }
reads_flags size ignored false false fits =
    record {
      size_is = omega arith;
      stored_is = ne_eqb _ 1 (λ e. absurd (omega arith));
      missed_is = ne_eqb _ 1 (λ e. absurd (omega arith));
      ignored_is = omega arith;
    }

pub commit_from-commit_word : (commit : Commit) → commit.size < 2 ^ 30 → commit_from (commit_word commit) ≡ commit
commit_from-commit_word commit fits =
    let r = reads_flags commit.size commit.ignored commit.is_stored commit.is_missed fits in
    (λ i. record { size = r.size_is i; is_stored = r.stored_is i; is_missed = r.missed_is i; ignored = r.ignored_is i })

flags_lt : (stored missed : Bool) → cond stored (2 ^ 30) 0 + cond missed (2 ^ 31) 0 ≤ 2 ^ 30 + 2 ^ 31
flags_lt true true = omega arith
flags_lt true false = omega arith
flags_lt false true = omega arith
flags_lt false false = omega arith

pub commit_word_lt : (commit : Commit) → commit.size < 2 ^ 30 → commit.ignored < 2 ^ 32 → commit_word commit < 2 ^ 64
commit_word_lt commit size ignored = let f = flags_lt commit.is_stored commit.is_missed in omega arith

-- ---- the header

-- where sixteen bytes are, a header is
pub HasHeader-of : (bytes : List ℕ) → AreBytes bytes → 16 ≤ length bytes
    → HasHeader bytes (from_le64 bytes) (commit_from (from_le64 (drop 8 bytes))) (drop 16 bytes)
HasHeader-of bytes small long =
    let behind : List ℕ = drop 8 bytes in
    let small_too : AreBytes behind = AreBytes-drop 8 bytes small in
    let word : ℕ = from_le64 behind in
    let below = from_le64_lt behind small_too in
    record {
      whole = le64-front bytes (omega arith) small
          ∙ ap (λ (b : List ℕ). le64 (from_le64 bytes) ++ b)
          (le64-front behind (omega (arith, length-drop 8 bytes)) small_too
          ∙ (λ i. le64 (sym (commit_word-commit_from word) i) ++ drop-drop 8 8 bytes i));
      time_fits = from_le64_lt bytes small;
      size_fits = omega arith;
      ignored_fits = omega arith;
    }

-- the bytes decide the header
pub record HeaderIs (bytes : List ℕ) (time : ℕ) (commit : Commit) (rest : List ℕ) : Type 0 where
  pub time_is : time ≡ from_le64 bytes
  pub commit_is : commit ≡ commit_from (from_le64 (drop 8 bytes))
  pub rest_is : rest ≡ drop 16 bytes
  pub long : length bytes ≡ 16 + length rest

pub HasHeader-is : (bytes : List ℕ) (time : ℕ) (commit : Commit) (rest : List ℕ) → HasHeader bytes time commit rest
    → HeaderIs bytes time commit rest
HasHeader-is bytes time commit rest h =
    let word : ℕ = commit_word commit in
    let behind : drop 8 bytes ≡ le64 word ++ rest = ap (drop 8) h.whole ∙ drop-le64 time (le64 word ++ rest) in
    let word_is : from_le64 (drop 8 bytes) ≡ word =
    ap from_le64 behind ∙ from_le64-le64 word rest (commit_word_lt commit h.size_fits h.ignored_fits) in
    record {
      time_is = sym (ap from_le64 h.whole ∙ from_le64-le64 time (le64 word ++ rest) h.time_fits);
      commit_is = sym (ap commit_from word_is ∙ commit_from-commit_word commit h.size_fits);
      rest_is = sym (sym (drop-drop 8 8 bytes) ∙ ap (drop 8) behind ∙ drop-le64 word rest);
      long =
          ap length h.whole
          ∙ omega (
            arith,
            length-append (le64 time) (le64 word ++ rest),
            length-append (le64 word) rest,
            length-le64 time,
            length-le64 word,
          );
    }

pub record SameHeader (time other_time : ℕ) (commit other : Commit) (rest left : List ℕ) : Type 0 where
  pub times : time ≡ other_time
  pub commits : commit ≡ other
  pub rests : rest ≡ left

pub HasHeader-same : (bytes : List ℕ) (time other_time : ℕ) (commit other : Commit) (rest left : List ℕ)
    → HasHeader bytes time commit rest → HasHeader bytes other_time other left
    → SameHeader time other_time commit other rest left
HasHeader-same bytes time other_time commit other rest left h g =
    let a = HasHeader-is bytes time commit rest h in
    let b = HasHeader-is bytes other_time other left g in
    record {
      times = a.time_is ∙ sym b.time_is;
      commits = a.commit_is ∙ sym b.commit_is;
      rests = a.rest_is ∙ sym b.rest_is;
    }

-- ---- the data, and what follows it

-- where the stated size is there, and the image isn't too long, the parts are there
pub HasParts-of : (limit : ℕ) (bytes : List ℕ) (time : ℕ) (commit : Commit) (rest : List ℕ)
    → HasHeader bytes time commit rest → commit.size ≤ length rest → length bytes ≤ limit
    → HasParts limit bytes time commit (take commit.size rest) (drop commit.size rest)
HasParts-of limit bytes time commit rest h there fits = record {
  header = subst (HasHeader bytes time commit) (sym (take-append-drop commit.size rest)) h;
  size_is = length-take-le commit.size rest there;
  length_fits = fits;
}

pub record SameParts (time other_time : ℕ) (commit other : Commit) (contents others behind left : List ℕ) : Type 0 where
  pub times : time ≡ other_time
  pub commits : commit ≡ other
  pub datas : contents ≡ others
  pub behinds : behind ≡ left

pub HasParts-same : (limit other_limit : ℕ) (bytes : List ℕ) (time other_time : ℕ) (commit other : Commit)
    (contents others behind left : List ℕ) → HasParts limit bytes time commit contents behind
    → HasParts other_limit bytes other_time other others left
    → SameParts time other_time commit other contents others behind left
HasParts-same limit other_limit bytes time other_time commit other contents others behind left p q =
    let same =
    HasHeader-same bytes time other_time commit other (contents ++ behind) (others ++ left) p.header q.header in
    let size : length others ≡ length contents =
    q.size_is ∙ ap (λ (c : Commit). c.size) (sym same.commits) ∙ sym p.size_is in
    record {
      times = same.times;
      commits = same.commits;
      datas =
          sym (take_at contents behind (length contents) refl) ∙ ap (take (length contents)) same.rests
          ∙ take_at others left (length contents) size;
      behinds =
          sym (drop_at contents behind (length contents) refl) ∙ ap (drop (length contents)) same.rests
          ∙ drop_at others left (length contents) size;
    }

-- ---- missed events

-- the number of bytes after the data, if a count is stored there
counted_length : (behind ignored : List ℕ) (events : ℕ) → behind ≡ le64 events ++ ignored → 8 ≤ length behind
counted_length behind ignored events is =
    omega (arith, ap length is, length-append (le64 events) ignored, length-le64 events)

-- if both flags are set, a count is stated, and there is room for it
pub ReportsMissed-room : (commit : Commit) (behind : List ℕ) (missed : Missed) → ReportsMissed commit behind missed
    → commit.is_missed ≡ true → commit.is_stored ≡ true → 8 ≤ length behind
ReportsMissed-room commit behind none reports missed stored = absurd (false≢true (sym reports ∙ missed))
ReportsMissed-room commit behind unknown reports missed stored = absurd (false≢true (sym reports.1 ∙ stored))
ReportsMissed-room commit behind (counted events) reports missed stored =
    counted_length behind reports.3.0 events reports.3.1

pub ReportsMissed-same : (commit : Commit) (behind : List ℕ) (missed other : Missed)
    → ReportsMissed commit behind missed → ReportsMissed commit behind other → missed ≡ other
ReportsMissed-same commit behind none none a b = refl
ReportsMissed-same commit behind none unknown a b = absurd (false≢true (sym a ∙ b.0))
ReportsMissed-same commit behind none (counted n) a b = absurd (false≢true (sym a ∙ b.0))
ReportsMissed-same commit behind unknown none a b = absurd (true≢false (sym a.0 ∙ b))
ReportsMissed-same commit behind unknown unknown a b = refl
ReportsMissed-same commit behind unknown (counted n) a b = absurd (false≢true (sym a.1 ∙ b.1))
ReportsMissed-same commit behind (counted n) none a b = absurd (true≢false (sym a.0 ∙ b))
ReportsMissed-same commit behind (counted n) unknown a b = absurd (true≢false (sym a.1 ∙ b.1))
ReportsMissed-same commit behind (counted n) (counted m) a b =
    ap counted (sym (from_le64-le64 n a.3.0 a.2) ∙ ap from_le64 (sym a.3.1 ∙ b.3.1) ∙ from_le64-le64 m b.3.0 b.2)

-- something is stated, or a count is stated that isn't there
pub data Telling (commit : Commit) (behind : List ℕ) : Type 0 where
  reports : (missed : Missed) → ReportsMissed commit behind missed → Telling commit behind
  no_room : commit.is_missed ≡ true → commit.is_stored ≡ true → length behind < 8 → Telling commit behind

pub reporting : (commit : Commit) (behind : List ℕ) → AreBytes behind → Telling commit behind
reporting commit behind small =
    ⊎_elim (λ (missed : commit.is_missed ≡ true).
    ⊎_elim (λ (stored : commit.is_stored ≡ true).
    ⊎_elim (λ short. no_room missed stored short)
    (λ long.
    reports (counted (from_le64 behind))
    (missed, stored, from_le64_lt behind small, (drop 8 behind, le64-front behind long small)))
    (cases_lt (length behind) 8))
    (λ none_stored. reports unknown (missed, none_stored))
    (cases_Bool commit.is_stored))
    (λ none_missed. reports none none_missed)
    (cases_Bool commit.is_missed)
