-- The images that are written have no stamps, and are read as they are.
use Rattle.std.proofs.Common.{◌≡◌, ◌∙◌, ℕ, suc, ◌+◌, ◌-◌, ◌%◌, ◌^◌, ◌≤◌, List, [], ◌∷◌, ◌++◌, length, take, drop}
use Rattle.std.proofs.Common.{replicate, Bool, true, false, ltb, refl, sym, ap, subst, arith, length-append}
use Rattle.std.specs.Prelude.{◌<◌, ◌||◌, ◌==◌, if◌then◌else◌, map, nat_lt}
use Rattle.std.proofs.lemmas.Bool.Decides.{nat_tests}
use Rattle.std.proofs.Math.Seq.{take-append_seam, drop-append_seam}
use Rattle.std.specs.List.{list_any, AllByRecursion}
use Rattle.std.proofs.lemmas.Bool.{cond_both, ltb-true}
use Rattle.std.proofs.lemmas.List.Folds.{list_any-append}
use Rattle.std.proofs.lemmas.Grind.{flat_map-append}
use Rattle.trace_model.specs.Record.{Record}
use Rattle.trace_model.specs.Order.{first_moment_or, NeverFalls, IsWritable}
use Rattle.trace_model.specs.Words.{Word, time_extend, bytes_of_word, is_stamp, IsWord, joined, IsJoined, slot_len}
use Rattle.trace_model.specs.Words.{data_word, written_words, encoding_of, encodings_behind, page_encoding, Decodes}
use Rattle.trace_model.specs.Image.{le64, commit_word, commit_of, stored_count, none, unknown, counted, HasParts}
use Rattle.trace_model.specs.Image.{image_of, missed_reported, stores_count, DecodesImage}
use Rattle.trace_model.specs.declared.limits.TheConstants.{MAX_IMAGE, MOMENT_LIMIT}
use Rattle.trace_model.proofs.words.Lengths.{slot_len-mod, slot_len_ge_four}
use Rattle.trace_model.proofs.words.Appended.{each-append, IsData-not_stamp, data_word-IsData, data_word-IsWord}
use Rattle.trace_model.proofs.words.Appended.{IsJoined-whole}
use Rattle.trace_model.proofs.words.ReadBack.{encoding_of-writable, Decodes-page_encoding}
use Rattle.trace_model.proofs.images.Images.{DecodesImage-image_of, length-image_of}
use Rattle.capture.specs.stamps.Restored.{restored_data, restored_image}
use Rattle.capture.proofs.StampedImages.{words-stay, restored-joined, restored-parts}
use Rattle.trace_model.specs.Partition.{Piece}
use Rattle.capture.specs.Pages.{Page, intact, loss_stated, IsPageOf, AreCut}
use Rattle.capture.specs.Rings.{FitsImage, images_from, page_written}

-- the data is words, none of them a stamp
record HasNoStamps (contents : List ℕ) : Type 0 where
  pub words : List Word
  pub rest : List ℕ
  pub cut : IsJoined contents words rest
  pub none : list_any is_stamp words ≡ false

-- bytes that fill a slot are whole words, and some
slot_whole : (n : ℕ) → slot_len n ≡ n → n % 4 ≡ 0
slot_whole n fills = ap (λ (k : ℕ). k % 4) (sym fills) ∙ slot_len-mod n

slot_some : (n : ℕ) → slot_len n ≡ n → 4 ≤ n
slot_some n fills = subst (λ (k : ℕ). 4 ≤ k) fills (slot_len_ge_four n)

-- data without stamps stays
stays : (time : ℕ) (contents : List ℕ) → HasNoStamps contents → restored_data time contents ≡ contents
stays time contents is =
    restored-joined contents time is.words is.rest is.cut
    ∙ ap (λ (ws : List Word). joined ws ++ is.rest) (words-stay time is.words is.none) ∙ sym is.cut.whole

-- what is written of a loss is what is read of it
reported-stays : (contents : List ℕ) (missed size : ℕ) → missed < 2 ^ 64 - 1
    → missed_reported contents missed size ≡ loss_stated (missed_reported contents missed size)
reported-stays contents missed size few = by_cases (stores_count contents missed size) (nat_lt 0 missed)
  where
    below : missed == 2 ^ 64 - 1 ≡ false
    below = grind (arith, nat_tests)

    by_cases : (stores some : Bool) → (if stores then counted missed else (if some then unknown else none))
        ≡ loss_stated (if stores then counted missed else (if some then unknown else none))
    by_cases true some = rw below refl
    by_cases false true = refl
    by_cases false false = refl

page-of-image : (time : ℕ) (contents : List ℕ) (missed size : ℕ) (records : List Record) → HasNoStamps contents
    → time < 2 ^ 64 → missed < 2 ^ 64 - 1 → length contents ≤ size → 16 + size ≤ MAX_IMAGE
    → Decodes contents time records
    → IsPageOf (image_of time contents missed size)
    (intact record { missed = missed_reported contents missed size; records = records })
page-of-image time contents missed size records is in_time few fits limit reads =
    let image = image_of time contents missed size in
    let commit = commit_of contents missed size in
    let stored = stored_count contents missed size in
    let behind = stored ++ replicate {A = ℕ} (size - length contents - length stored) 0 in
    let parts : HasParts MAX_IMAGE image time commit contents behind = record {
      header =
          record {
            whole = refl;
            time_fits = in_time;
            size_fits = omega (arith, fits, limit);
            ignored_fits = omega arith;
          };
      size_is = refl;
      length_fits = omega (arith, length-image_of time contents missed size fits, limit);
    } in
    let same : restored_image image ≡ image = restored-parts MAX_IMAGE image time commit contents behind parts
    ∙ ap (λ (xs : List ℕ). le64 time ++ (le64 (commit_word commit) ++ (xs ++ behind))) (stays time contents is) in (
      time,
      length contents,
      missed_reported contents missed size,
      subst
          (λ (bytes : List ℕ). DecodesImage bytes time (length contents) (missed_reported contents missed size) records)
          (sym same)
          (DecodesImage-image_of time contents missed size records in_time (omega (arith, few)) fits limit reads),
      reported-stays contents missed size few,
    )

-- the bytes are these words, none of them a stamp
record ArePlain (bytes : List ℕ) (words : List Word) : Type 0 where
  pub whole : bytes ≡ joined words
  pub each : AllByRecursion IsWord words
  pub none : list_any is_stamp words ≡ false

abbrev IsPlain : List Word → Type 0
IsPlain words = AllByRecursion IsWord words × (list_any is_stamp words ≡ false)

plain_one : (delta : ℕ) (payload : List ℕ) → delta < 2 ^ 27 → length payload % 4 ≡ 0 → 4 ≤ length payload
    → length payload + 4 < 2 ^ 32
    → IsPlain (data_word delta payload ∷ [])
plain_one delta payload small whole some fits = (
  (data_word-IsWord delta payload small whole some fits, tt),
  ap (λ (b : Bool). b || false) (IsData-not_stamp (data_word delta payload) (data_word-IsData delta payload)),
)

plain_written : (delta : ℕ) (first : Bool) (payload : List ℕ) → delta < MOMENT_LIMIT
    → slot_len (length payload) ≡ length payload
    → length payload + 4 < 2 ^ 32 → IsPlain (written_words delta first payload)
plain_written delta true payload low fills fits =
    plain_one 0 payload (omega arith) (slot_whole (length payload) fills) (slot_some (length payload) fills) fits
plain_written delta false payload low fills fits =
    let whole = slot_whole (length payload) fills in
    let some = slot_some (length payload) fills in
    cond_both (ltb delta (2 ^ 27)) (data_word delta payload ∷ []) (time_extend delta ∷ data_word 0 payload ∷ []) IsPlain
    (λ short. plain_one delta payload (ltb-true delta (2 ^ 27) short) whole some fits)
    (λ long. let one = plain_one 0 payload (omega arith) whole some fits in ((low, one.0), one.1))

-- one record's words before others
plain_more : (a b : List ℕ) (words more : List Word) → ArePlain a words → ArePlain b more
    → ArePlain (a ++ b) (words ++ more)
plain_more a b words more is are = record {
  whole =
      ap (λ (xs : List ℕ). xs ++ b) is.whole ∙ ap (λ (xs : List ℕ). joined words ++ xs) are.whole
      ∙ sym (flat_map-append bytes_of_word words more);
  each = each-append words more is.each are.each;
  none = list_any-append is_stamp words more ∙ ap (λ (p : Bool). p || list_any is_stamp more) is.none ∙ are.none;
}

plain_encoding : (prev : ℕ) (r : Record) (first : Bool) → IsWritable r
    → ArePlain (encoding_of prev r first) (written_words (r.moment - prev) first r.bytes)
plain_encoding prev r first is =
    let plain = plain_written (r.moment - prev) first r.bytes (let low = is.0 in omega arith) is.1 is.2 in
    record { whole = encoding_of-writable prev r first is; each = plain.0; none = plain.1 }

plain_behind : (prev : ℕ) (records : List Record) → AllByRecursion IsWritable records
    → (words : List Word) × ArePlain (encodings_behind prev records) words
plain_behind prev [] all = ([], record { whole = refl; each = tt; none = refl })
plain_behind prev (r ∷ records) all =
    let more = plain_behind r.moment records all.1 in (
      written_words (r.moment - prev) false r.bytes ++ more.0,
      plain_more (encoding_of prev r false) (encodings_behind r.moment records) _ _ (plain_encoding prev r false all.0)
          more.1,
    )

plain_page : (records : List Record) → AllByRecursion IsWritable records
    → (words : List Word) × ArePlain (page_encoding records) words
plain_page [] all = ([], record { whole = refl; each = tt; none = refl })
plain_page (r ∷ records) all =
    let more = plain_behind r.moment records all.1 in (
      written_words (r.moment - 0) true r.bytes ++ more.0,
      plain_more (encoding_of 0 r true) (encodings_behind r.moment records) _ _ (plain_encoding 0 r true all.0) more.1,
    )

pub written-page : (records : List Record) (time missed size : ℕ) → NeverFalls records
    → AllByRecursion IsWritable records
    → first_moment_or time records < 2 ^ 64 → missed < 2 ^ 64 - 1 → length (page_encoding records) ≤ size
    → 16 + size ≤ MAX_IMAGE
    → IsPageOf (image_of (first_moment_or time records) (page_encoding records) missed size)
    (intact record { missed = missed_reported (page_encoding records) missed size; records = records })
written-page records time missed size never all in_time few fits limit =
    let plain = plain_page records all in
    page-of-image (first_moment_or time records) (page_encoding records) missed size records
    (record {
      words = plain.0;
      rest = [];
      cut = IsJoined-whole (page_encoding records) plain.0 plain.1.whole plain.1.each;
      none = plain.1.none;
    })
    in_time few fits limit (Decodes-page_encoding records time never all)

-- one page before others
cut-page : (size : ℕ) (image bytes : List ℕ) (page : Page) (pages : List Page) → length image ≡ size → 0 < size
    → IsPageOf image page
    → AreCut size bytes pages → AreCut size (image ++ bytes) (page ∷ pages)
cut-page size image bytes page pages long some is cut = (
  omega (arith, length-append image bytes),
  subst (λ (xs : List ℕ). IsPageOf xs page)
      (sym (ap (λ (n : ℕ). take n (image ++ bytes)) (sym long) ∙ take-append_seam image bytes)) is,
  subst (λ (xs : List ℕ). AreCut size xs pages)
      (sym (ap (λ (n : ℕ). drop n (image ++ bytes)) (sym long) ∙ drop-append_seam image bytes)) cut,
)

-- the moment of a record fits 64 bits
moment_fits : (time : ℕ) (records : List Record) → time < 2 ^ 64 → AllByRecursion IsWritable records
    → first_moment_or time records < 2 ^ 64
moment_fits time [] in_time all = in_time
moment_fits time (r ∷ records) in_time all = let low = all.0.0 in omega arith

pub written-pages : (times : ℕ → ℕ) (size fill : ℕ) (pieces : List Piece) → ((k : ℕ) → times k < 2 ^ 64)
    → AllByRecursion (FitsImage size) pieces → 16 + size ≤ MAX_IMAGE
    → AreCut (16 + size) (images_from times size fill pieces) (map (page_written size) pieces)
written-pages times size fill [] in_time all limit = refl
written-pages times size fill (p ∷ pieces) in_time (fits, more) limit =
    let time = first_moment_or (times fill) p.records in
    cut-page (16 + size) (image_of time (page_encoding p.records) p.skipped size)
    (images_from times size (suc fill) pieces)
    (page_written size p) (map (page_written size) pieces)
    (length-image_of time (page_encoding p.records) p.skipped size fits.data_fits)
    (omega arith)
    (written-page p.records (times fill) p.skipped size fits.never_falls fits.writable
    (moment_fits (times fill) p.records (in_time fill) fits.writable) fits.missed_fits fits.data_fits limit)
    (written-pages times size (suc fill) pieces in_time more limit)
