-- A page without a record.
use Rattle.std.proofs.Common.{◌≡◌, ℕ, List, [], ◌∷◌, ◌++◌, refl, inl, arith}
use Rattle.trace_model.specs.Words.{Word, Decodes}
use Rattle.trace_model.specs.Reading.{words_in, records_in}
use Rattle.page_image.specs.Contents.{IsPage}

no_words : (front behind : List Word) (w : Word) → [] ≡ front ++ w ∷ behind → ⊥
no_words [] behind w e = cc
no_words (x ∷ front) behind w e = cc

-- no bytes read as no records, whatever the time
pub Decodes-blank : (time : ℕ) → Decodes [] time (records_in time [])
unfolding words_in
Decodes-blank time = record {
  words = [];
  rest = [];
  cut = record { whole = refl; each = tt; ending = inl refl };
  in_time = λ front w behind e moves. absurd (no_words front behind w e);
  read = refl;
}

pub records_in-blank : (time : ℕ) → records_in time [] ≡ []
unfolding words_in
records_in-blank time = refl

pub blank_page : (first fill size : ℕ)
    → IsPage (record { time = 0; first = first; count = 0; fill = fill; size = size; bytes = [] })
unfolding words_in
blank_page first fill size = record {
  reads = Decodes-blank 0;
  counted = refl;
  in_time = omega arith;
}
