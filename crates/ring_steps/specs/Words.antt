-- Where the words of a ring lie in its table: each at the front of a cache line of its own.
use Rattle.std.specs.Prelude.{ℕ, ◌+◌, ◌*◌}
use Rattle.ring_steps.specs.declared.words.TheConstants.{LINE_WORDS}
use Rattle.ring_steps.specs.declared.words.Word.{Word}
use Rattle.ring_steps.specs.declared.words.Word.TheVariants as words

-- the counts of begun and of closed fills, and the reader's wish
abbrev pub opened_word : ℕ
opened_word = 0

abbrev pub done_word : ℕ
done_word = LINE_WORDS

abbrev pub wish_word : ℕ
wish_word = 2 * LINE_WORDS

-- the word of a page's link
abbrev pub page_word : ℕ → ℕ
page_word page = (page + 3) * LINE_WORDS

abbrev pub place_of : Word → ℕ
place_of words.Opened = opened_word
place_of words.Done = done_word
place_of words.Wish = wish_word
place_of (words.Link page) = page_word page

-- how many words a ring of this many pages has: these, and the link of the page outside the ring
abbrev pub word_count : ℕ → ℕ
word_count pages = (pages + 4) * LINE_WORDS
