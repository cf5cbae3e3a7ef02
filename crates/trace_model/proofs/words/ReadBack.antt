-- Records that were written one after the other are read back.
use Rattle.std.proofs.Common.{◌≡◌, ℕ, ◌+◌, ◌-◌, ◌%◌, ◌≤◌, Bool, true, false, List, [], ◌∷◌, ◌++◌, length, inl, refl}
use Rattle.std.proofs.Common.{sym, ap, ◌∙◌, subst, arith, append_assoc, append-nil}
use Rattle.std.specs.List.{AllByRecursion}
use Rattle.trace_model.specs.Record.{Record}
use Rattle.trace_model.specs.Words.{Decodes, slot_len, encoding, encoding_of, encodings_behind, page_encoding}
use Rattle.trace_model.specs.Reading.{EndsInRecord}
use Rattle.trace_model.specs.Order.{EndsAt, first_moment_or, NeverFallsFrom, NeverFalls, IsWritable}
use Rattle.trace_model.proofs.words.Lengths.{slot_len-mod, slot_len_ge_four, padded_whole}
use Rattle.trace_model.proofs.words.Appended.{one_record, Decodes-first, Decodes-appended, EndsInRecord-first}
use Rattle.trace_model.proofs.words.Appended.{EndsInRecord-appended, EndsAt-push, FitsTime-nil}

-- bytes that fill a slot are whole words, and some
slot_whole : (n : ℕ) → slot_len n ≡ n → n % 4 ≡ 0
slot_whole n fills = ap (λ (k : ℕ). k % 4) (sym fills) ∙ slot_len-mod n

slot_some : (n : ℕ) → slot_len n ≡ n → 4 ≤ n
slot_some n fills = subst (λ (k : ℕ). 4 ≤ k) fills (slot_len_ge_four n)

-- a writable record is written with its own bytes
pub encoding_of-writable : (prev : ℕ) (r : Record) (first : Bool) → IsWritable r
    → encoding_of prev r first ≡ encoding (r.moment - prev) first r.bytes
encoding_of-writable prev r first is = ap (encoding (r.moment - prev) first) (padded_whole r.bytes is.1)

-- a record after others, by its encoding
pub Decodes-encoding_of : (bytes : List ℕ) (time : ℕ) (records : List Record) (prev : ℕ) (r : Record)
    → EndsInRecord bytes → Decodes bytes time records → EndsAt records prev
    → prev ≤ r.moment → IsWritable r → Decodes (bytes ++ encoding_of prev r false) time (records ++ r ∷ [])
Decodes-encoding_of bytes time records prev r ends reads at later is =
    let below = is.0 in
    let sum : prev + (r.moment - prev) ≡ r.moment = omega arith in
    let appended =
    Decodes-appended bytes time records prev (r.moment - prev) r.bytes ends reads at (omega arith) (omega arith)
    (slot_whole (length r.bytes) is.1) (slot_some (length r.bytes) is.1) is.2 in
    subst (λ (b : List ℕ). Decodes (bytes ++ b) time (records ++ r ∷ [])) (sym (encoding_of-writable prev r false is))
    (subst
    (λ (m : ℕ). Decodes (bytes ++ encoding (r.moment - prev) false r.bytes) time (records ++ one_record m r.bytes)) sum
    appended)

pub EndsInRecord-encoding_of : (bytes : List ℕ) (prev : ℕ) (r : Record) → EndsInRecord bytes → IsWritable r
    → EndsInRecord (bytes ++ encoding_of prev r false)
EndsInRecord-encoding_of bytes prev r ends is =
    let below = is.0 in
    subst (λ (b : List ℕ). EndsInRecord (bytes ++ b)) (sym (encoding_of-writable prev r false is))
    (EndsInRecord-appended bytes (r.moment - prev) r.bytes ends (omega arith) (slot_whole (length r.bytes) is.1)
    (slot_some (length r.bytes) is.1) is.2)

-- the first record of a page, by its encoding
pub Decodes-encoding_of_first : (prev : ℕ) (r : Record) → IsWritable r
    → Decodes (encoding_of prev r true) r.moment (r ∷ [])
Decodes-encoding_of_first prev r is =
    let below = is.0 in
    subst (λ (b : List ℕ). Decodes b r.moment (r ∷ [])) (sym (encoding_of-writable prev r true is))
    (Decodes-first r.moment (r.moment - prev) r.bytes (omega arith) (slot_whole (length r.bytes) is.1)
    (slot_some (length r.bytes) is.1) is.2)

pub EndsInRecord-encoding_of_first : (prev : ℕ) (r : Record) → IsWritable r → EndsInRecord (encoding_of prev r true)
EndsInRecord-encoding_of_first prev r is =
    subst EndsInRecord (sym (encoding_of-writable prev r true is))
    (EndsInRecord-first (r.moment - prev) r.bytes (slot_whole (length r.bytes) is.1) (slot_some (length r.bytes) is.1)
    is.2)

-- more records after those that the data holds
pub Decodes-encodings_behind : (records : List Record) (bytes : List ℕ) (time : ℕ) (before : List Record) (prev : ℕ)
    → EndsInRecord bytes → Decodes bytes time before → EndsAt before prev
    → NeverFallsFrom prev records → AllByRecursion IsWritable records
    → Decodes (bytes ++ encodings_behind prev records) time (before ++ records)
Decodes-encodings_behind [] bytes time before prev ends reads at rises each =
    subst (λ (b : List ℕ). Decodes b time (before ++ [])) (sym (append-nil bytes))
    (subst (Decodes bytes time) (sym (append-nil before)) reads)
Decodes-encodings_behind (r ∷ records) bytes time before prev ends reads at rises each =
    subst (λ (b : List ℕ). Decodes b time (before ++ r ∷ records))
    (append_assoc bytes (encoding_of prev r false) (encodings_behind r.moment records))
    (subst (Decodes ((bytes ++ encoding_of prev r false) ++ encodings_behind r.moment records) time)
    (append_assoc before (r ∷ []) records)
    (Decodes-encodings_behind records (bytes ++ encoding_of prev r false) time (before ++ r ∷ []) r.moment
    (EndsInRecord-encoding_of bytes prev r ends each.0)
    (Decodes-encoding_of bytes time before prev r ends reads at rises.0 each.0)
    (EndsAt-push before r) rises.1 each.1))

-- an empty page reads as no records
pub Decodes-nil : (time : ℕ) → Decodes [] time []
Decodes-nil time =
    record {
      words = [];
      rest = [];
      cut = record { whole = refl; each = tt; ending = inl refl };
      in_time = FitsTime-nil time;
      read = refl;
    }

-- the data of a page reads as the records that it was made of
pub Decodes-page_encoding : (records : List Record) (time : ℕ) → NeverFalls records → AllByRecursion IsWritable records
    → Decodes (page_encoding records) (first_moment_or time records) records
Decodes-page_encoding [] time rises each = Decodes-nil time
Decodes-page_encoding (r ∷ records) time rises each =
    Decodes-encodings_behind records (encoding_of 0 r true) r.moment (r ∷ []) r.moment
    (EndsInRecord-encoding_of_first 0 r each.0) (Decodes-encoding_of_first 0 r each.0) refl rises.1 each.1
