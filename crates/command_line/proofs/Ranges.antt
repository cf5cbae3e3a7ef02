-- What `collect` is asked for is in range.
use Rattle.std.proofs.Common.{◌≡◌, ◌∙◌, ℕ, zero, suc, sym, Bor, Vec, Global, ◌+◌, ◌-◌, ◌<◌, ◌≤◌, Bool, true, false}
use Rattle.std.proofs.Common.{if◌then◌else◌, List, [], ◌∷◌, length}
use Rattle.std.proofs.Common.{codes, drop, map, take, All, Option, None, Some, refl, ap, subst, arith}
use Rattle.std.specs.Prelude.{IfSome, option_and_then, option_map}
use Rattle.std.proofs.lemmas.List.{get_or-map, length-map}
use Rattle.std.proofs.lemmas.List.Elements.{All-nil, All-cons}
use Rattle.std.proofs.lemmas.Bool.Decides.{nat_tests}
use Rattle.std.specs.List.{position as first_place}
use Rattle.clap.specs.Words.{Row, all_of, first_of}
use Rattle.command_line.specs.Calls.{AsksFor, IsInRange, asked_of, file_seen, goes_together}
use Rattle.command_line.specs.FileWords.{file_list, file_split, file_word, file_words, is_equals, is_number, number_in}
use Rattle.command_line.specs.FileWords.{number_word, with_one_input}
use Rattle.command_line.specs.ListWords.{cpu_list, is_cpu_list, is_in_order, marks_from, moment_in, pattern_in}
use Rattle.command_line.specs.ListWords.{said_by, span_by}
use Rattle.command_line.specs.declared.call.CollectCall.{CollectCall}
use Rattle.command_line.specs.declared.values.TheConstants.{MAX_PATTERN}
use Rattle.command_line.specs.declared.call.CpuFile.{CpuFile}
use Rattle.command_line.specs.declared.words.TheConstants.{MIN_PAGE, MAX_PAGE, MIN_ROUND, MAX_ROUND}
use Rattle.trace_model.specs.declared.limits.TheConstants.{MAX_CPUS}

number_bounds : (low high : ℕ) (text : List ℕ) (n : ℕ) → number_in low high text ≡ Some n → (low ≤ n) × (n ≤ high)
number_bounds low high text n is = grind (arith, nat_tests)

same_number : (read : Option ℕ) (n : ℕ) → option_map (λ number. Some number) read ≡ Some (Some n) → read ≡ Some n
same_number None n is = absurd (cc)
same_number (Some m) n is = cc

word_bounds : (low high : ℕ) (word : Option (List ℕ)) (said : Option ℕ) → number_word low high word ≡ Some said
    → IfSome said (λ n. (low ≤ n) × (n ≤ high))
word_bounds low high word None is = tt
word_bounds low high None (Some n) is = absurd (cc)
word_bounds low high (Some text) (Some n) is =
    number_bounds low high text n (same_number (number_in low high text) n is)

split_bound : (position : ℕ) (word : List ℕ) (at : Option ℕ) (file : ℕ × List ℕ)
    → file_split position word at ≡ Some file
    → position < MAX_CPUS → file.0 < MAX_CPUS
split_bound position word None file is low = subst (λ f. f.0 < MAX_CPUS) (let e : (position, word) ≡ file = cc in e) low
split_bound position word (Some at) file is low =
    by_digits (is_number (take at word)) (number_in 0 (MAX_CPUS - 1) (take at word))
    (λ n. number_bounds 0 (MAX_CPUS - 1) (take at word) n) is
  where
    by_digits : (digits : Bool) (cpu : Option ℕ) → ((n : ℕ) → cpu ≡ Some n → (0 ≤ n) × (n ≤ MAX_CPUS - 1))
        → (if digits then option_map (λ cpu. (cpu, drop (at + 1) word)) cpu else Some (position, word)) ≡ Some file
        → file.0 < MAX_CPUS
    by_digits false cpu bounds is = subst (λ f. f.0 < MAX_CPUS) (let e : (position, word) ≡ file = cc in e) low
    by_digits true None bounds is = absurd (cc)
    by_digits true (Some n) bounds is =
        let e : (n, drop (at + 1) word) ≡ file = cc in
        let high = (bounds n refl).1 in
        subst (λ f. f.0 < MAX_CPUS) e (omega arith)

abbrev in_cpus : ℕ × List ℕ → Type 0
in_cpus file = file.0 < MAX_CPUS

words_bound : (position : ℕ) (words : List (List ℕ)) (files : List (ℕ × List ℕ))
    → file_words position words ≡ Some files
    → position + length words ≤ MAX_CPUS → (length files ≡ length words) × All (λ file. file.0 < MAX_CPUS) files
words_bound position [] files is low =
    let e : [] ≡ files = cc in
    subst (λ fs. (length fs ≡ 0) × All (λ file. file.0 < MAX_CPUS) fs) e (refl, (All-nil in_cpus))
words_bound position (word ∷ words) files is low =
    with_first (file_word position word) (file_words (position + 1) words)
    (λ file is. split_bound position word (first_place is_equals word) file is (omega arith))
    (λ rest is. words_bound (position + 1) words rest is (omega arith)) is
  where
    with_first : (first : Option (ℕ × List ℕ)) (rest : Option (List (ℕ × List ℕ)))
        → ((file : ℕ × List ℕ) → first ≡ Some file → file.0 < MAX_CPUS)
        → ((more : List (ℕ × List ℕ)) → rest ≡ Some more
        → (length more ≡ length words) × All (λ file. file.0 < MAX_CPUS) more)
        → option_and_then (λ file. option_map (λ files. file ∷ files) rest) first ≡ Some files
        → (length files ≡ suc (length words)) × All (λ file. file.0 < MAX_CPUS) files
    with_first None rest one all is = absurd (cc)
    with_first (Some file) None one all is = absurd (cc)
    with_first (Some file) (Some more) one all is =
        let e : file ∷ more ≡ files = cc in
        let others = all more refl in
        subst (λ fs. (length fs ≡ suc (length words)) × All (λ file. file.0 < MAX_CPUS) fs) e
        (ap suc others.0, All-cons in_cpus file more (one file refl) others.1)

one_input_same : (read : Option (List (ℕ × List ℕ))) (files : List (ℕ × List ℕ))
    → option_and_then with_one_input read ≡ Some files
    → read ≡ Some files
one_input_same None files is = absurd (cc)
one_input_same (Some read) files is = grind (arith, nat_tests)

list_bound : (words : List (List ℕ)) (files : List (ℕ × List ℕ)) → file_list words ≡ Some files
    → (0 < length files) × All (λ file. file.0 < MAX_CPUS) files
list_bound words files is =
    let counted : (0 < length words)
    × ((length words ≤ MAX_CPUS) × (option_and_then with_one_input (file_words 0 words) ≡ Some files)) =
    grind (arith, nat_tests) in
    let bound =
    words_bound 0 words files (one_input_same (file_words 0 words) files counted.1.1) (omega (arith, counted)) in
    (rw bound.0 counted.0, bound.1)

listed_bound : (words : Option (List (List ℕ))) (files : List (ℕ × List ℕ))
    → option_and_then file_list words ≡ Some files
    → (0 < length files) × All in_cpus files
listed_bound None files is = absurd (cc)
listed_bound (Some words) files is = list_bound words files is

seen_bound : (files : List CpuFile) → All in_cpus (map file_seen files) → All (λ file. file.cpu.0 < MAX_CPUS) files
seen_bound files all k d inside =
    subst in_cpus (get_or-map file_seen files k d (file_seen d) inside)
    (all k (file_seen d) (omega (arith, inside, length-map files file_seen)))

-- ---- the part that is listed

marks_length : (list : List ℕ) (cpu count : ℕ) → length (marks_from list cpu count) ≡ count
unfolding marks_from
marks_length list cpu zero = refl
marks_length list cpu (suc count) = ap suc (marks_length list (cpu + 1) count)

all_marks : (list : List ℕ) (is_list : Bool) (marks : List Bool)
    → (if is_list then Some (marks_from list 0 MAX_CPUS) else None) ≡ Some marks → length marks ≡ MAX_CPUS
all_marks list false marks is = absurd (cc)
all_marks list true marks is =
    let same : marks_from list 0 MAX_CPUS ≡ marks = cc in
    ap length (sym same) ∙ marks_length list 0 MAX_CPUS

said_some : {X : Type 0} (read : Option X) (value : X) → option_map (λ v. Some v) read ≡ Some (Some value)
    → read ≡ Some value
said_some None value is = absurd (cc)
said_some (Some read) value is = cc

marks_count : (word : Option (List ℕ)) (marks : Option (Vec Bool Global))
    → said_by cpu_list word ≡ Some (option_map (λ m. m.items) marks)
    → IfSome marks (λ m. length m.items ≡ MAX_CPUS)
marks_count word None is = tt
marks_count None (Some marks) is = absurd (cc)
marks_count (Some list) (Some marks) is =
    all_marks list (is_cpu_list list) marks.items (said_some (cpu_list list) marks.items is)

span_order : (since until : Option (Option ℕ)) (span : Option ℕ × Option ℕ) → span_by since until ≡ Some span
    → is_in_order span.0 span.1 ≡ true
span_order None until span is = absurd (cc)
span_order (Some first) None span is = absurd (cc)
span_order (Some first) (Some last) span is = by_order (is_in_order first last) refl is
  where
    by_order : (order : Bool) → is_in_order first last ≡ order
        → (if order then Some (first, last) else None) ≡ Some span → is_in_order span.0 span.1 ≡ true
    by_order false _ is = absurd (cc)
    by_order true order is =
        let same : (first, last) ≡ span = cc in
        subst (λ (s : Option ℕ × Option ℕ). is_in_order s.0 s.1 ≡ true) same order

pattern_length : (text pattern : List ℕ) → pattern_in text ≡ Some pattern
    → (0 < length pattern) × (length pattern ≤ MAX_PATTERN)
pattern_length text pattern is =
    let read : ((0 < length text) × (length text ≤ MAX_PATTERN)) × (text ≡ pattern) = grind (arith, nat_tests) in
    subst (λ (t : List ℕ). (0 < length t) × (length t ≤ MAX_PATTERN)) read.1 read.0

pattern_bounds : (word : Option (List ℕ)) (pattern : Option (Bor (List ℕ)))
    → said_by pattern_in word ≡ Some (option_map (λ p. p.now) pattern)
    → IfSome pattern (λ p. (0 < length p.now) × (length p.now ≤ MAX_PATTERN))
pattern_bounds word None is = tt
pattern_bounds None (Some pattern) is = absurd (cc)
pattern_bounds (Some text) (Some pattern) is =
    pattern_length text pattern.now (said_some (pattern_in text) pattern.now is)

pub asked_in_range : (rows : List Row) (call : CollectCall) → AsksFor rows (asked_of call)
    → goes_together (asked_of call) ≡ true → IsInRange call
asked_in_range rows call asks together =
    let files = listed_bound (all_of (codes "file") rows) (map file_seen call.files.items) asks.files in
    record {
      marks = marks_count (first_of (codes "cpu") rows) call.cpus asks.cpus;
      span =
          span_order
          (said_by moment_in (first_of (codes "since") rows))
          (said_by moment_in (first_of (codes "until") rows))
          (call.since, call.until) asks.span;
      event = pattern_bounds (first_of (codes "event") rows) call.event asks.event;
      page = word_bounds MIN_PAGE MAX_PAGE (first_of (codes "page") rows) call.page asks.page;
      round = word_bounds MIN_ROUND MAX_ROUND (first_of (codes "round") rows) call.round asks.round;
      together = together;
      some = omega (arith, files.0, length-map call.files.items file_seen);
      cpus = seen_bound call.files.items files.1;
    }
