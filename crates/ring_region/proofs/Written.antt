-- A slot that agrees with a page's slot up to its commit is that page.
use Rattle.std.proofs.Common.{◌≡◌, ◌∙◌, ℕ, ◌+◌, ◌^◌, ◌≤◌, ◌<◌, false, List, [], ◌++◌, length, take, drop, refl, sym, ap}
use Rattle.std.proofs.Common.{subst, arith, length-append, append-nil}
use Rattle.std.proofs.lemmas.List.{length-take, drop-drop}
use Rattle.trace_model.specs.Image.{le64, from_le64, Commit, commit_word, none, DecodesImage}
use Rattle.trace_model.specs.ParcelBytes.{HasNumbers, DecodesParcel}
use Rattle.trace_model.specs.declared.limits.TheConstants.{MAX_CPUS, MAX_SIZE}
use Rattle.trace_model.proofs.images.ImageParts.{length-le64, from_le64-le64, drop-le64}
use Rattle.trace_model.proofs.images.ParcelParts.{HasNumbers-are, length-with_numbers}
use Rattle.page_image.specs.Contents.{Contents, IsPage, records_of_page}
use Rattle.ring_region.specs.Headers.{number_in}
use Rattle.ring_region.specs.Slots.{intact, IsSlotOf, commit_in, committed_in, slot_of_page}
use Rattle.ring_region.specs.Answers.{unmissed}
use Rattle.ring_region.proofs.OnePage.{number-take}

-- the image of a page, up to the commit
abbrev image_of_page : Contents → List ℕ
image_of_page page = le64 page.time ++ (le64 (length page.bytes) ++ page.bytes)

abbrev plain_commit : ℕ → Commit
plain_commit size = record { size = size; is_stored = false; is_missed = false; ignored = 0 }

plain_word : (size : ℕ) → commit_word (plain_commit size) ≡ size
plain_word size = omega arith

module _ (cpu : ℕ) (page : Contents) (known : cpu < MAX_CPUS) (is : IsPage page) (fill_fits : page.fill < 2 ^ 64)
    (numbers_fit : page.first + length (records_of_page page) < 2 ^ 64) (limit : length page.bytes ≤ MAX_SIZE) where
  len : length (slot_of_page cpu page) ≡ 48 + length page.bytes
  len = omega (
    arith,
    length-with_numbers cpu page.fill page.first 0 (image_of_page page),
    length-append (le64 page.time) (le64 (length page.bytes) ++ page.bytes),
    length-append (le64 (length page.bytes)) page.bytes,
    length-le64 page.time,
    length-le64 (length page.bytes),
  )

  numbers : HasNumbers (slot_of_page cpu page) cpu page.fill page.first 0 (image_of_page page)
  numbers = record {
    whole = refl;
    cpu_fits = omega (arith, known);
    fill_fits = fill_fits;
    first_fits = omega (arith, numbers_fit);
    missed_fits = omega arith;
    long = omega (arith, len, length-with_numbers cpu page.fill page.first 0 (image_of_page page));
  }

  decodes_image : DecodesImage (image_of_page page) page.time (length page.bytes) none (records_of_page page)
  decodes_image = record {
    commit = plain_commit (length page.bytes);
    contents = page.bytes;
    behind = [];
    parts = record {
      header = record {
        whole =
            (λ i. le64 page.time ++ (le64 (sym (plain_word (length page.bytes)) i) ++ sym (append-nil page.bytes) i));
        time_fits = is.in_time;
        size_fits = omega (arith, limit);
        ignored_fits = omega arith;
      };
      size_is = refl;
      length_fits = omega (arith, limit, len, length-with_numbers cpu page.fill page.first 0 (image_of_page page));
    };
    size_is = refl;
    reports = refl;
    reads = is.reads;
  }

  decodes : DecodesParcel (slot_of_page cpu page) (unmissed cpu page)
  decodes = record {
    reported = none;
    image =
        record {
          image = image_of_page page;
          numbers = numbers;
          cpu_known = known;
          time = page.time;
          size = length page.bytes;
          reads = decodes_image;
        };
    sound = record { cpu_known = known; numbers_fit = numbers_fit; missed_fit = omega arith };
    agrees = refl;
  }

  commit_number : number_in (slot_of_page cpu page) 40 ≡ length page.bytes
  commit_number =
      let image : drop 32 (slot_of_page cpu page) ≡ image_of_page page =
      sym
      (HasNumbers-are (slot_of_page cpu page) cpu page.fill page.first 0
      (image_of_page page) numbers).image_is in
      ap from_le64 (sym (drop-drop 8 32 (slot_of_page cpu page)))
      ∙ ap (λ (b : List ℕ). from_le64 (drop 8 b)) image
      ∙ ap from_le64 (drop-le64 page.time (le64 (length page.bytes) ++ page.bytes))
      ∙ from_le64-le64 (length page.bytes) page.bytes (omega (arith, limit))

  pub page_slot : (slot : List ℕ) → 0 < length page.bytes → take (48 + length page.bytes) slot ≡ slot_of_page cpu page
      → IsSlotOf cpu slot (intact (unmissed cpu page))
  page_slot slot some same =
      let n : ℕ = 48 + length page.bytes in
      let are = HasNumbers-are (slot_of_page cpu page) cpu page.fill page.first 0 (image_of_page page) numbers in
      let number =
      λ (at : ℕ) (low : at + 8 ≤ n). sym (number-take slot n at low) ∙ ap (λ (b : List ℕ). number_in b at) same in
      let commit : commit_in slot ≡ length page.bytes = number 40 (omega arith) ∙ commit_number in
      let committed : committed_in slot ≡ slot_of_page cpu page = ap (λ (k : ℕ). take (48 + k) slot) commit ∙ same in (
        record {
          unmissed = record {
            of_cpu = record {
              some = λ zero_bytes. omega (arith, commit, zero_bytes, some);
              cpu_is = number 0 (omega arith) ∙ sym are.cpu_is;
            };
            none_missed = number 24 (omega arith) ∙ sym are.missed_is;
          };
          there = omega (arith, commit, len, ap length same, length-take n slot);
        },
        subst (λ (b : List ℕ). DecodesParcel b (unmissed cpu page)) (sym committed) decodes,
      )

pub size_within : (cpu : ℕ) (page : Contents) (slot : List ℕ) → length slot ≤ 48 + MAX_SIZE
    → take (48 + length page.bytes) slot ≡ slot_of_page cpu page → length page.bytes ≤ MAX_SIZE
size_within cpu page slot limit same = omega (
  arith,
  limit,
  ap length same,
  length-take (48 + length page.bytes) slot,
  length-with_numbers cpu page.fill page.first 0 (image_of_page page),
  length-append (le64 page.time) (le64 (length page.bytes) ++ page.bytes),
  length-append (le64 (length page.bytes)) page.bytes,
  length-le64 page.time,
  length-le64 (length page.bytes),
)
