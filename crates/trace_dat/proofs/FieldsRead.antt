-- What is spelled at the front of a part is read there: fields, and the formats of events.
use Rattle.std.proofs.Common.{◌≡◌, ◌==◌, ℕ, ◌+◌, true, false, ltb, List, [], ◌∷◌, ◌++◌, length, take, drop, flat_map}
use Rattle.std.proofs.Common.{Some, Ok, refl, sym, ap, subst, ◌∙◌, append_assoc, arith, length-append, nat_eq}
use Rattle.std.specs.List.{AllByRecursion, position, position_or_len, starts_with}
use Rattle.std.specs.Int.{Width, w32, w64, byte_len, to_le_bytes}
use Rattle.std.proofs.lemmas.Bool.{le-ltb, lt-ltb}
use Rattle.std.proofs.lemmas.Bool.Decides.{Decides-eqb, nat_tests}
use Rattle.std.proofs.lemmas.List.{take_at, drop_at, get_or_append_left, get_or_at}
use Rattle.std.proofs.lemmas.List.Sums.{position_or_len_is}
use Rattle.std.proofs.lemmas.Slice.Eq.{starts_is}
use Rattle.trace_dat.specs.declared.fault.Cause.{Cause}
use Rattle.trace_dat.specs.declared.fault.Cause.TheVariants.{Misplaced}
use Rattle.trace_dat.specs.Parts.{FilePart}
use Rattle.trace_dat.specs.Fields.{Reading, ◌>>=◌, behind, part_at, number_at, block_at, text_at, text_to, expected_at}
use Rattle.trace_dat.specs.Fields.{all_at}
use Rattle.trace_dat.specs.Contents.{EventFormat}
use Rattle.trace_dat.specs.Formats.{ring_system, format_at, formats_at, system_at, systems_at}
use Rattle.trace_dat.specs.Versions.{ended, page_title, record_title, titled_at, all_formats_at}
use Rattle.trace_dat.specs.TracedKernel.{lists_at}
use Rattle.trace_dat.specs.Spelling.{Fits, IsText, FitsBlock, FormatsFit, SystemFits, SystemsFit, SixTextsFit, block}
use Rattle.trace_dat.specs.Spelling.{formats_bytes, System, system_bytes, systems_bytes, SixTexts, six_bytes}
use Rattle.trace_dat.specs.Spelling.{named_formats, systems_formats, six_formats}
use Rattle.trace_dat.proofs.Spelled.{IsWide, wide32, wide64}

-- one step that reads, and those after it
pub step : {A B : Type 0} (r : Reading A) (x : A) (f : A → Reading B) (y : Reading B) → r ≡ Ok x → f x ≡ y
    → (r >>= f) ≡ y
step r x f y e next = ap (λ q. q >>= f) e ∙ next

pub same_part : (a b : FilePart) → a.at ≡ b.at → a.bytes ≡ b.bytes → a ≡ b
same_part a b p q =
    let one : a ≡ record { at = b.at; bytes = a.bytes } = ap (λ k. record { at = k; bytes = a.bytes }) p in
    let two : record { at = b.at; bytes = a.bytes } ≡ b = ap (λ bs. record { at = b.at; bytes = bs }) q in
    one ∙ two

-- a part begins with these bytes, and this is the part after them
pub record Begins (part : FilePart) (bytes : List ℕ) (rest : FilePart) : Type 0 where
  pub whole : part.bytes ≡ bytes ++ rest.bytes
  pub after : rest.at ≡ part.at + length bytes

-- the first of two pieces, and the second after it
pub Begins-split : (part : FilePart) (x y : List ℕ) (rest : FilePart) → Begins part (x ++ y) rest
    → (mid : FilePart) × Begins part x mid × Begins mid y rest
Begins-split part x y rest p = (
  record { at = part.at + length x; bytes = y ++ rest.bytes },
  record { whole = p.whole ∙ append_assoc x y rest.bytes; after = refl },
  record { whole = refl; after = omega (arith, p.after, length-append x y) },
)

pub Begins-nothing : (part rest : FilePart) → Begins part [] rest → part ≡ rest
Begins-nothing part rest p = same_part part rest (omega (arith, p.after)) p.whole

pub behind_is : (part : FilePart) (bytes : List ℕ) (rest : FilePart) → Begins part bytes rest
    → behind (length bytes) part ≡ rest
behind_is part bytes rest p =
    same_part (behind (length bytes) part) rest (sym p.after)
    (ap (λ bs. drop (length bytes) bs) p.whole ∙ drop_at bytes rest.bytes (length bytes) refl)

-- ---- fields

pub part_reads : (bytes : List ℕ) (part rest : FilePart) → Begins part bytes rest
    → part_at (length bytes) part ≡ Ok (record { at = part.at; bytes = bytes }, rest)
unfolding part_at
part_reads bytes part rest p =
    let len : length part.bytes ≡ length (bytes ++ rest.bytes) = ap (λ bs. length bs) p.whole in
    let enough : ltb (length part.bytes) (length bytes) ≡ false =
    le-ltb _ _ (omega (arith, len, length-append bytes rest.bytes)) in
    let taken : take (length bytes) part.bytes ≡ bytes =
    ap (λ bs. take (length bytes) bs) p.whole ∙ take_at bytes rest.bytes (length bytes) refl in
    rw enough (ap (λ bs. Ok (record { at = part.at; bytes = bs }, behind (length bytes) part)) taken
    ∙ ap (λ r. Ok (record { at = part.at; bytes = bytes }, r)) (behind_is part bytes rest p))

pub number_reads : (w : Width) → IsWide w → (n : ℕ) (part rest : FilePart) → Fits w n
    → Begins part (to_le_bytes w n) rest → number_at w part ≡ Ok (n, rest)
unfolding number_at
number_reads w wide n part rest fits p =
    let bytes : FilePart = record { at = part.at; bytes = to_le_bytes w n } in
    let read : part_at (byte_len w) part ≡ Ok (bytes, rest) =
    subst (λ k. part_at k part ≡ Ok (bytes, rest)) (wide.len n) (part_reads (to_le_bytes w n) part rest p) in
    step (part_at (byte_len w) part) (bytes, rest) _ _ read (ap (λ k. Ok (k, rest)) (wide.again n fits))

pub block_reads : (w : Width) → IsWide w → (body : List ℕ) (part rest : FilePart) → FitsBlock w body
    → Begins part (block w body) rest → (at : ℕ) × (block_at w part ≡ Ok (record { at = at; bytes = body }, rest))
unfolding block_at
block_reads w wide body part rest fits p =
    let s = Begins-split part (to_le_bytes w (length body)) body rest p in (
      s.0.at,
      step (number_at w part) (length body, s.0) _ _ (number_reads w wide (length body) part s.0 fits s.1)
          (part_reads body s.0 rest s.2),
    )

zero_position : (text more : List ℕ) → IsText text → position (λ b. b == 0) (text ++ 0 ∷ more) ≡ Some (length text)
zero_position text more ends =
    let len : length (text ++ 0 ∷ more) ≡ length text + length (0 ∷ more) = length-append text (0 ∷ more) in
    let first : position_or_len (λ b. b == 0) (text ++ 0 ∷ more) ≡ length text =
    position_or_len_is (λ b. b == 0) (text ++ 0 ∷ more) (length text) 0 (omega (arith, len))
    (λ k lt. let ne = ends k lt in rw get_or_append_left (grind (arith, nat_tests)))
    (λ _. rw (get_or_at text 0 more 0 (length text) refl) refl) in
    rw (first, lt-ltb (length text) (length (text ++ 0 ∷ more)) (omega (arith, len))) refl

pub text_reads : (text : List ℕ) (part rest : FilePart) → IsText text → Begins part (ended text) rest
    → text_at part ≡ Ok (text, rest)
unfolding text_at
text_reads text part rest ends p =
    let parts : part.bytes ≡ text ++ 0 ∷ rest.bytes = p.whole ∙ append_assoc text (0 ∷ []) rest.bytes in
    let there : position (λ b. b == 0) part.bytes ≡ Some (length text) =
    ap (λ bs. position (λ b. b == 0) bs) parts ∙ zero_position text rest.bytes ends in
    let taken : take (length text) part.bytes ≡ text =
    ap (λ bs. take (length text) bs) parts ∙ take_at text (0 ∷ rest.bytes) (length text) refl in
    let len : length (ended text) ≡ length text + 1 = length-append text (0 ∷ []) in
    let after : behind (length text + 1) part ≡ rest =
    ap (λ k. behind k part) (sym len) ∙ behind_is part (ended text) rest p in
    ap (λ end. text_to end part) there ∙ ap (λ bs. Ok (bs, behind (length text + 1) part)) taken
    ∙ ap (λ r. Ok (text, r)) after

pub word_begins : (text : List ℕ) (part rest : FilePart) → Begins part text rest
    → starts_with nat_eq part.bytes text ≡ true
word_begins text part rest p =
    (starts_is (λ a b. Decides-eqb a b) part.bytes text (starts_with nat_eq part.bytes text) refl).1 rest.bytes p.whole

pub expected_reads : (text : List ℕ) (cause : Cause) (part rest : FilePart) → Begins part text rest
    → expected_at text cause part ≡ Ok rest
unfolding expected_at
expected_reads text cause part rest p =
    rw (word_begins text part rest p) (ap (λ r. Ok r) (behind_is part text rest p))

-- ---- as many fields

-- how the fields of a list are spelled, what each of them gives, and what all of them give
pub record Spells {X A : Type 0} (field : ℕ → FilePart → Reading (List A × FilePart)) (spell : X → List ℕ)
    (one : ℕ → X → List A) (all : ℕ → List X → List A) (Good : X → Type 0) : Type 0 where
  pub none : (i : ℕ) → all i [] ≡ []
  pub more : (i : ℕ) (x : X) (xs : List X) → all i (x ∷ xs) ≡ one i x ++ all (i + 1) xs
  pub reads : (i : ℕ) (x : X) (part rest : FilePart) → Good x → Begins part (spell x) rest
      → field i part ≡ Ok (one i x, rest)

pub all_read : {X A : Type 0} (field : ℕ → FilePart → Reading (List A × FilePart)) (spell : X → List ℕ)
    (one : ℕ → X → List A) (all : ℕ → List X → List A) (Good : X → Type 0) → Spells field spell one all Good
    → (xs : List X) (i : ℕ) (part rest : FilePart) → AllByRecursion Good xs → Begins part (flat_map spell xs) rest
    → all_at field i (length xs) part ≡ Ok (all i xs, rest)
unfolding all_at
all_read field spell one all Good s [] i part rest good p =
    ap (λ r. Ok ([], r)) (Begins-nothing part rest p) ∙ ap (λ xs. Ok (xs, rest)) (sym (s.none i))
all_read field spell one all Good s (x ∷ xs) i part rest good p =
    let b = Begins-split part (spell x) (flat_map spell xs) rest p in
    step (field i part) (one i x, b.0) _ _ (s.reads i x part b.0 good.0 b.1)
    (step (all_at field (i + 1) (length xs) b.0) (all (i + 1) xs, rest) _ _
    (all_read field spell one all Good s xs (i + 1) b.0 rest good.1 b.2)
    (ap (λ ys. Ok (ys, rest)) (sym (s.more i x xs))))

-- ---- formats

abbrev one_format : List ℕ → ℕ → List ℕ → List EventFormat
one_format system i text = record { system = system; text = text } ∷ []

format_reads : (system : List ℕ) (i : ℕ) (text : List ℕ) (part rest : FilePart) → FitsBlock w64 text
    → Begins part (block w64 text) rest → format_at system part ≡ Ok (one_format system i text, rest)
unfolding format_at
format_reads system i text part rest fits p =
    let b = block_reads w64 wide64 text part rest fits p in
    step (block_at w64 part) (record { at = b.0; bytes = text }, rest) _ _ b.1 refl

pub formats_read : (system : List ℕ) (texts : List (List ℕ)) (part rest : FilePart) → FormatsFit texts
    → Begins part (formats_bytes texts) rest → formats_at system part ≡ Ok (named_formats system texts, rest)
unfolding formats_at
formats_read system texts part rest fits p =
    let s = Begins-split part (to_le_bytes w32 (length texts)) (flat_map (block w64) texts) rest p in
    step (number_at w32 part) (length texts, s.0) _ _ (number_reads w32 wide32 (length texts) part s.0 fits.0 s.1)
    (all_read (λ _. format_at system) (block w64) (one_format system) (λ i xs. named_formats system xs) (FitsBlock w64)
    (record { none = λ i. refl; more = λ i x xs. refl; reads = λ i x here later. format_reads system i x here later })
    texts 0 s.0 rest fits.1 s.2)

system_reads : (system : System) (part rest : FilePart) → SystemFits system → Begins part (system_bytes system) rest
    → system_at part ≡ Ok (named_formats system.name system.texts, rest)
unfolding system_at
system_reads system part rest fits p =
    let s = Begins-split part (ended system.name) (formats_bytes system.texts) rest p in
    step (text_at part) (system.name, s.0) _ _ (text_reads system.name part s.0 fits.0 s.1)
    (formats_read system.name system.texts s.0 rest fits.1 s.2)

pub systems_read : (systems : List System) (part rest : FilePart) → SystemsFit systems
    → Begins part (systems_bytes systems) rest → systems_at part ≡ Ok (systems_formats systems, rest)
unfolding systems_at
systems_read systems part rest fits p =
    let s = Begins-split part (to_le_bytes w32 (length systems)) (flat_map system_bytes systems) rest p in
    step (number_at w32 part) (length systems, s.0) _ _ (number_reads w32 wide32 (length systems) part s.0 fits.0 s.1)
    (all_read (λ _. system_at) system_bytes (λ i system. named_formats system.name system.texts)
    (λ i xs. systems_formats xs) SystemFits
    (record { none = λ i. refl; more = λ i x xs. refl; reads = λ i x here later. system_reads x here later })
    systems 0 s.0 rest fits.1 s.2)

-- ---- what is before the number of CPUs in version 6

titled_reads : (title body : List ℕ) (part rest : FilePart) → FitsBlock w64 body
    → Begins part (title ++ block w64 body) rest → titled_at title part ≡ Ok rest
unfolding titled_at
titled_reads title body part rest fits p =
    let s = Begins-split part title (block w64 body) rest p in
    let b = block_reads w64 wide64 body s.0 rest fits s.2 in
    step (expected_at title Misplaced part) s.0 _ _ (expected_reads title Misplaced part s.0 s.1)
    (step (block_at w64 s.0) (record { at = b.0; bytes = body }, rest) _ _ b.1 refl)

lists_read : (x y z : List ℕ) (part rest : FilePart) → FitsBlock w32 x → FitsBlock w32 y → FitsBlock w64 z
    → Begins part (block w32 x ++ (block w32 y ++ block w64 z)) rest → lists_at part ≡ Ok ((x, z), rest)
unfolding lists_at
lists_read x y z part rest fits_x fits_y fits_z p =
    let s = Begins-split part (block w32 x) (block w32 y ++ block w64 z) rest p in
    let t = Begins-split s.0 (block w32 y) (block w64 z) rest s.2 in
    let a = block_reads w32 wide32 x part s.0 fits_x s.1 in
    let b = block_reads w32 wide32 y s.0 t.0 fits_y t.1 in
    let c = block_reads w64 wide64 z t.0 rest fits_z t.2 in
    step (block_at w32 part) (record { at = a.0; bytes = x }, s.0) _ _ a.1
    (step (block_at w32 s.0) (record { at = b.0; bytes = y }, t.0) _ _ b.1
    (step (block_at w64 t.0) (record { at = c.0; bytes = z }, rest) _ _ c.1 refl))

pub front_reads : (texts : SixTexts) (part rest : FilePart) → SixTextsFit texts → Begins part (six_bytes texts) rest
    → (name_lists : FilePart) × (all_formats_at part ≡ Ok (six_formats texts, name_lists))
    × (lists_at name_lists ≡ Ok ((texts.symbols, texts.tasks), rest))
unfolding all_formats_at
front_reads texts part rest fits p =
    let name_lists = block w32 texts.symbols ++ (block w32 texts.prints ++ block w64 texts.tasks) in
    let systems = systems_bytes texts.systems ++ name_lists in
    let ring = formats_bytes texts.ring ++ systems in
    let record_part = record_title ++ block w64 texts.record_layout in
    let page_part = page_title ++ block w64 texts.page_layout in
    let a = Begins-split part page_part (record_part ++ ring) rest p in
    let b = Begins-split a.0 record_part ring rest a.2 in
    let c = Begins-split b.0 (formats_bytes texts.ring) systems rest b.2 in
    let d = Begins-split c.0 (systems_bytes texts.systems) name_lists rest c.2 in (
      d.0,
      step (titled_at page_title part) a.0 _ _ (titled_reads page_title texts.page_layout part a.0 fits.page_layout a.1)
          (step (titled_at record_title a.0) b.0 _ _
          (titled_reads record_title texts.record_layout a.0 b.0 fits.record_layout b.1)
          (step (formats_at ring_system b.0) (named_formats ring_system texts.ring, c.0) _ _
          (formats_read ring_system texts.ring b.0 c.0 fits.ring c.1)
          (step (systems_at c.0) (systems_formats texts.systems, d.0) _ _
          (systems_read texts.systems c.0 d.0 fits.systems d.1) refl))),
      lists_read texts.symbols texts.prints texts.tasks d.0 rest fits.symbols fits.prints fits.tasks d.2,
    )
