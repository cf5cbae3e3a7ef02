-- What is read at the front of a part is spelled there.
use Rattle.std.proofs.Common.{◌≡◌, ◌==◌, ℕ, zero, suc, ◌+◌, ◌<◌, ◌≤◌, Bool, true, false, cond, ltb, List, [], ◌∷◌, ◌++◌}
use Rattle.std.proofs.Common.{length, take, drop, flat_map, Option, Some, None, Ok, Err, refl, sym, ap, subst, ◌∙◌}
use Rattle.std.proofs.Common.{append_assoc, arith, length-append, inl, inr}
use Rattle.std.specs.Prelude.{nat_eq}
use Rattle.std.specs.List.{AllByRecursion, position, starts_with}
use Rattle.std.specs.Int.{Width, w16, w32, w64, byte_len, from_le_bytes, to_le_bytes}
use Rattle.std.proofs.lemmas.Bool.{cases_lt, ltb-false, eqb-true, eqb-false}
use Rattle.std.proofs.lemmas.List.{take-append-drop, length-take, get_or-drop, get_or-take, get_or_past, drop_more}
use Rattle.std.proofs.lemmas.List.Quantifiers.{position-Some}
use Rattle.std.proofs.lemmas.Nat.{le_bytes_2, le_bytes_4, le_bytes_8, from_le_bytes-to_le_bytes_2}
use Rattle.std.proofs.lemmas.Nat.{from_le_bytes-to_le_bytes_4, from_le_bytes-to_le_bytes_8}
use Rattle.std.proofs.lemmas.Slice.Eq.{starts_is}
use Rattle.std.proofs.lemmas.Bool.Decides.{Decides-eqb}
use Rattle.trace_dat.specs.declared.fault.Fault.{Fault}
use Rattle.trace_dat.specs.declared.fault.Cause.{Cause}
use Rattle.trace_dat.specs.declared.fault.Cause.TheVariants.{Misplaced}
use Rattle.trace_dat.specs.Parts.{FilePart}
use Rattle.trace_dat.specs.Fields.{Reading, ◌>>=◌, front, behind, part_at, number_at, block_at, text_at, text_to}
use Rattle.trace_dat.specs.Fields.{expected_at, all_at}
use Rattle.trace_dat.specs.Contents.{EventFormat}
use Rattle.trace_dat.specs.Formats.{ring_system, format_at, formats_at, system_at, systems_at}
use Rattle.trace_dat.specs.Versions.{ended, page_title, record_title, titled_at, all_formats_at}
use Rattle.trace_dat.specs.TracedKernel.{lists_at}
use Rattle.trace_dat.specs.Spelling.{IsBytes, Fits, IsText, FitsBlock, FormatsFit, SystemFits, SystemsFit, SixTextsFit}
use Rattle.trace_dat.specs.Spelling.{block, formats_bytes, System, system_bytes, systems_bytes, SixTexts, six_bytes}
use Rattle.trace_dat.specs.Spelling.{named_formats, systems_formats, six_formats}
use Rattle.trace_dat.proofs.Loops.{same_value}

pub IsBytes-drop : (n : ℕ) (bytes : List ℕ) → IsBytes bytes → IsBytes (drop n bytes)
IsBytes-drop n bytes h i = rw get_or-drop (h (n + i))

IsBytes-take : (n : ℕ) (bytes : List ℕ) → IsBytes bytes → IsBytes (take n bytes)
IsBytes-take n bytes h i =
    elim (cases_lt i n) [
      | inl lt ↦ rw (get_or-take n bytes i 0 lt) (h i)
      | inr le ↦ rw (get_or_past (take n bytes) i 0 (omega (arith, length-take n bytes))) (omega arith)
    ]

-- the value of a step that did not fail
pub bind_ok : {A B : Type 0} (r : Reading A) (f : A → Reading B) (y : B) → (r >>= f) ≡ Ok y
    → (x : A) × (r ≡ Ok x) × (f x ≡ Ok y)
bind_ok (Ok x) f y e = (x, refl, e)
bind_ok (Err d) f y e = absurd cc

-- a test that did not fail
pub guard_ok : {A : Type 0} (b : Bool) (d : Fault) (x y : A) → cond b (Err d) (Ok x) ≡ Ok y → (b ≡ false) × (x ≡ y)
guard_ok true d x y e = absurd cc
guard_ok false d x y e = (refl, cc)

pub failed_test : {A : Type 0} (b : Bool) (d : Fault) (r : Reading A) (y : A) → cond b (Err d) r ≡ Ok y
    → (b ≡ false) × (r ≡ Ok y)
failed_test true d r y e = absurd cc
failed_test false d r y e = (refl, e)

-- these bytes are at the front of a part, and the rest is after them
pub record Takes (part : FilePart) (bytes : List ℕ) (rest : FilePart) : Type 0 where
  pub whole : part.bytes ≡ bytes ++ rest.bytes
  pub after : rest.at ≡ part.at + length bytes
  pub fits : IsBytes rest.bytes

-- nothing is at the front of every part
pub Takes-nothing : (part : FilePart) → IsBytes part.bytes → Takes part [] part
Takes-nothing part fits = record { whole = refl; after = omega arith; fits = fits }

pub Takes-then : (a : FilePart) (x : List ℕ) (b : FilePart) (y : List ℕ) (c : FilePart) → Takes a x b → Takes b y c
    → Takes a (x ++ y) c
Takes-then a x b y c p q = record {
  whole = p.whole ∙ ap (λ t. x ++ t) q.whole ∙ sym (append_assoc x y c.bytes);
  after = omega (arith, p.after, q.after, length-append x y);
  fits = q.fits;
}

-- ---- fields

pub part_takes : (len : ℕ) (part body rest : FilePart) → IsBytes part.bytes → part_at len part ≡ Ok (body, rest)
    → Takes part body.bytes rest × (length body.bytes ≡ len) × IsBytes body.bytes
unfolding part_at
part_takes len part body rest fits e =
    let g =
    guard_ok (ltb (length part.bytes) len) (record { cause = _; at = part.at }) (front len part, behind len part)
    (body, rest) e in
    let enough : len ≤ length part.bytes = ltb-false _ _ g.0 in
    let whole : Takes part (take len part.bytes) (behind len part) =
    record {
      whole = sym (take-append-drop len part.bytes);
      after = omega (arith, enough, length-take len part.bytes);
      fits = IsBytes-drop len part.bytes fits;
    } in
    subst (λ x. Takes part x.0.bytes x.1 × (length x.0.bytes ≡ len) × IsBytes x.0.bytes) g.1
    (whole, omega (arith, length-take len part.bytes), IsBytes-take len part.bytes fits)

-- the bytes of a number of some width spell it, and are read as that number again
pub record IsWide (w : Width) : Type 0 where
  pub len : (n : ℕ) → length (to_le_bytes w n) ≡ byte_len w
  pub back : (bytes : List ℕ) (n : ℕ) → length bytes ≡ byte_len w → IsBytes bytes → n ≡ from_le_bytes w bytes
      → to_le_bytes w n ≡ bytes
  pub again : (n : ℕ) → Fits w n → from_le_bytes w (to_le_bytes w n) ≡ n
  pub below : (bytes : List ℕ) → IsBytes bytes → Fits w (from_le_bytes w bytes)

pub wide16 : IsWide w16
wide16 = record {
  len = λ n. refl;
  back = λ bytes n len fits is. le_bytes_2 bytes n len fits is;
  again = λ n lt. from_le_bytes-to_le_bytes_2 n lt;
  below = λ bytes fits. omega (arith, fits 0, fits 1);
}

pub wide32 : IsWide w32
wide32 = record {
  len = λ n. refl;
  back = λ bytes n len fits is. le_bytes_4 bytes n len fits is;
  again = λ n lt. from_le_bytes-to_le_bytes_4 n lt;
  below = λ bytes fits. omega (arith, fits 0, fits 1, fits 2, fits 3);
}

pub wide64 : IsWide w64
wide64 = record {
  len = λ n. refl;
  back = λ bytes n len fits is. le_bytes_8 bytes n len fits is;
  again = λ n lt. from_le_bytes-to_le_bytes_8 n lt;
  below = λ bytes fits. omega (arith, fits 0, fits 1, fits 2, fits 3, fits 4, fits 5, fits 6, fits 7);
}

pub number_takes : (w : Width) → IsWide w → (part : FilePart) (n : ℕ) (rest : FilePart) → IsBytes part.bytes
    → number_at w part ≡ Ok (n, rest) → Takes part (to_le_bytes w n) rest
unfolding number_at
number_takes w wide part n rest fits e =
    let b = bind_ok (part_at (byte_len w) part) (λ bytes. Ok (from_le_bytes w bytes.0.bytes, bytes.1)) (n, rest) e in
    let t = part_takes (byte_len w) part b.0.0 b.0.1 fits b.1 in
    let same = same_value (from_le_bytes w b.0.0.bytes, b.0.1) (n, rest) b.2 in
    let number : from_le_bytes w b.0.0.bytes ≡ n = ap (λ p. p.0) same in
    let spelled : to_le_bytes w n ≡ b.0.0.bytes = wide.back b.0.0.bytes n t.1 t.2 (sym number) in
    subst (λ r. Takes part (to_le_bytes w n) r) (ap (λ p. p.1) same)
    (subst (λ bs. Takes part bs b.0.1) (sym spelled) t.0)

pub number_fits : (w : Width) → IsWide w → (part : FilePart) (n : ℕ) (rest : FilePart) → IsBytes part.bytes
    → number_at w part ≡ Ok (n, rest) → Fits w n
unfolding number_at
number_fits w wide part n rest fits e =
    let b = bind_ok (part_at (byte_len w) part) (λ bytes. Ok (from_le_bytes w bytes.0.bytes, bytes.1)) (n, rest) e in
    let t = part_takes (byte_len w) part b.0.0 b.0.1 fits b.1 in
    let same = same_value (from_le_bytes w b.0.0.bytes, b.0.1) (n, rest) b.2 in
    subst (λ k. Fits w k) (ap (λ p. p.0) same) (wide.below b.0.0.bytes t.2)

pub block_takes : (w : Width) → IsWide w → (part body rest : FilePart) → IsBytes part.bytes
    → block_at w part ≡ Ok (body, rest)
    → Takes part (block w body.bytes) rest × IsBytes body.bytes × FitsBlock w body.bytes
unfolding block_at
block_takes w wide part body rest fits e =
    let b = bind_ok (number_at w part) (λ len. part_at len.0 len.1) (body, rest) e in
    let n = number_takes w wide part b.0.0 b.0.1 fits b.1 in
    let t = part_takes b.0.0 b.0.1 body rest n.fits b.2 in (
      subst (λ k. Takes part (to_le_bytes w k ++ body.bytes) rest) (sym t.1)
          (Takes-then part (to_le_bytes w b.0.0) b.0.1 body.bytes rest n t.0),
      t.2,
      subst (λ k. Fits w k) (sym t.1) (number_fits w wide part b.0.0 b.0.1 fits b.1),
    )

text_to_takes : (end : Option ℕ) (part : FilePart) (text : List ℕ) (rest : FilePart) → IsBytes part.bytes
    → position (λ b. b == 0) part.bytes ≡ end → text_to end part ≡ Ok (text, rest) → Takes part (ended text) rest
text_to_takes None part text rest fits there e = absurd cc
text_to_takes (Some len) part text rest fits there e =
    let found = position-Some (λ b. b == 0) part.bytes len 0 there in
    let cell : drop len part.bytes ≡ 0 ∷ drop (len + 1) part.bytes =
    drop_more part.bytes len 0 found.0 ∙ ap (λ b. b ∷ drop (len + 1) part.bytes) (eqb-true _ _ found.1) in
    let parts : part.bytes ≡ (take len part.bytes ++ 0 ∷ []) ++ drop (len + 1) part.bytes =
    sym (take-append-drop len part.bytes) ∙ ap (λ bs. take len part.bytes ++ bs) cell
    ∙ sym (append_assoc (take len part.bytes) (0 ∷ []) (drop (len + 1) part.bytes)) in
    let whole : Takes part (ended (take len part.bytes)) (behind (len + 1) part) =
    record {
      whole = parts;
      after =
          omega (arith, found.0, length-take len part.bytes, length-append (take len part.bytes) (0 ∷ []));
      fits = IsBytes-drop (len + 1) part.bytes fits;
    } in
    subst (λ x. Takes part (ended x.0) x.1) (same_value (take len part.bytes, behind (len + 1) part) (text, rest) e)
    whole

pub text_takes : (part : FilePart) (text : List ℕ) (rest : FilePart) → IsBytes part.bytes
    → text_at part ≡ Ok (text, rest) → Takes part (ended text) rest
unfolding text_at
text_takes part text rest fits e =
    text_to_takes (position (λ b. b == 0) part.bytes) part text rest fits refl e

text_to_ends : (end : Option ℕ) (part : FilePart) (text : List ℕ) (rest : FilePart)
    → position (λ b. b == 0) part.bytes ≡ end → text_to end part ≡ Ok (text, rest) → IsText text
text_to_ends None part text rest there e = absurd cc
text_to_ends (Some len) part text rest there e =
    let found = position-Some (λ b. b == 0) part.bytes len 0 there in
    let none : IsText (take len part.bytes) = λ i lt.
    let before : i < len = omega (arith, lt, length-take len part.bytes) in
    rw (get_or-take len part.bytes i 0 before) (eqb-false _ _ (found.2 i before)) in
    subst (λ xs. IsText xs) (ap (λ p. p.0) (same_value (take len part.bytes, behind (len + 1) part) (text, rest) e))
    none

-- a text that is read has no zero byte
pub text_ends : (part : FilePart) (text : List ℕ) (rest : FilePart) → text_at part ≡ Ok (text, rest) → IsText text
unfolding text_at
text_ends part text rest e = text_to_ends (position (λ b. b == 0) part.bytes) part text rest refl e

pub passed_ok : {A : Type 0} (b : Bool) (d : Fault) (x y : A) → cond b (Ok x) (Err d) ≡ Ok y → (b ≡ true) × (x ≡ y)
passed_ok true d x y e = (refl, cc)
passed_ok false d x y e = absurd cc

-- a word that a part begins with
pub word_takes : (text : List ℕ) (part : FilePart) → IsBytes part.bytes → starts_with nat_eq part.bytes text ≡ true
    → Takes part text (behind (length text) part)
word_takes text part fits begins = record {
  whole = (starts_is (λ a b. Decides-eqb a b) part.bytes text (starts_with nat_eq part.bytes text) refl).0 begins;
  after = refl;
  fits = IsBytes-drop (length text) part.bytes fits;
}

pub expected_takes : (text : List ℕ) (cause : Cause) (part rest : FilePart) → IsBytes part.bytes
    → expected_at text cause part ≡ Ok rest → Takes part text rest
unfolding expected_at
expected_takes text cause part rest fits e =
    let g =
    passed_ok (starts_with nat_eq part.bytes text) (record { cause = cause; at = part.at })
    (behind (length text) part) rest e in
    subst (λ r. Takes part text r) g.1 (word_takes text part fits g.0)

-- ---- formats

format_takes : (system : List ℕ) (part : FilePart) (found : List EventFormat) (rest : FilePart) → IsBytes part.bytes
    → format_at system part ≡ Ok (found, rest)
    → (text : List ℕ) × Takes part (block w64 text) rest × (found ≡ record { system = system; text = text } ∷ [])
    × FitsBlock w64 text
unfolding format_at
format_takes system part found rest fits e =
    let b =
    bind_ok (block_at w64 part) (λ text. Ok (record { system = system; text = text.0.bytes } ∷ [], text.1))
    (found, rest) e in
    let t = block_takes w64 wide64 part b.0.0 b.0.1 fits b.1 in
    let same = same_value (record { system = system; text = b.0.0.bytes } ∷ [], b.0.1) (found, rest) b.2 in (
      b.0.0.bytes,
      subst (λ r. Takes part (block w64 b.0.0.bytes) r) (ap (λ p. p.1) same) t.0,
      sym (ap (λ p. p.0) same),
      t.2,
    )

-- formats that are read are spelled, this count of them
abbrev SpellsFormats : List ℕ → ℕ → FilePart → List EventFormat → FilePart → Type 0
SpellsFormats system count part found rest =
    (texts : List (List ℕ)) × (length texts ≡ count) × Takes part (flat_map (block w64) texts) rest
    × (found ≡ named_formats system texts) × AllByRecursion (FitsBlock w64) texts

each_format_takes : (system : List ℕ) (count index : ℕ) (part : FilePart) (found : List EventFormat) (rest : FilePart)
    → IsBytes part.bytes → all_at (λ _. format_at system) index count part ≡ Ok (found, rest)
    → SpellsFormats system count part found rest
unfolding all_at
each_format_takes system zero index part found rest fits e =
    let same = same_value ([], part) (found, rest) e in
    subst (λ x. SpellsFormats system 0 part x.0 x.1) same ([], refl, Takes-nothing part fits, refl, tt)
each_format_takes system (suc count) index part found rest fits e =
    let b =
    bind_ok (format_at system part)
    (λ first. all_at (λ _. format_at system) (index + 1) count first.1 >>= λ others.
    Ok (first.0 ++ others.0, others.1)) (found, rest) e in
    let d =
    bind_ok (all_at (λ _. format_at system) (index + 1) count b.0.1) (λ others. Ok (b.0.0 ++ others.0, others.1))
    (found, rest) b.2 in
    let one = format_takes system part b.0.0 b.0.1 fits b.1 in
    let more = each_format_takes system count (index + 1) b.0.1 d.0.0 d.0.1 one.1.fits d.1 in
    let lists : b.0.0 ++ d.0.0 ≡ named_formats system (one.0 ∷ more.0) =
    ap (λ xs. xs ++ d.0.0) one.2 ∙ ap (λ xs. record { system = system; text = one.0 } ∷ xs) more.3 in
    let same = same_value (b.0.0 ++ d.0.0, d.0.1) (found, rest) d.2 in
    subst (λ x. SpellsFormats system (suc count) part x.0 x.1) same (
      one.0 ∷ more.0,
      ap (λ n. suc n) more.1,
      Takes-then part (block w64 one.0) b.0.1 (flat_map (block w64) more.0) d.0.1 one.1 more.2,
      lists,
      (one.3, more.4),
    )

-- the formats of a system
abbrev pub AreSpelled : List ℕ → FilePart → List EventFormat → FilePart → Type 0
AreSpelled system part found rest =
    (texts : List (List ℕ)) × Takes part (formats_bytes texts) rest × (found ≡ named_formats system texts)
    × FormatsFit texts

pub formats_take : (system : List ℕ) (part : FilePart) (found : List EventFormat) (rest : FilePart) → IsBytes part.bytes
    → formats_at system part ≡ Ok (found, rest) → AreSpelled system part found rest
unfolding formats_at
formats_take system part found rest fits e =
    let b = bind_ok (number_at w32 part) (λ count. all_at (λ _. format_at system) 0 count.0 count.1) (found, rest) e in
    let n = number_takes w32 wide32 part b.0.0 b.0.1 fits b.1 in
    let t = each_format_takes system b.0.0 0 b.0.1 found rest n.fits b.2 in (
      t.0,
      subst (λ k. Takes part (to_le_bytes w32 k ++ flat_map (block w64) t.0) rest) (sym t.1)
          (Takes-then part (to_le_bytes w32 b.0.0) b.0.1 (flat_map (block w64) t.0) rest n t.2),
      t.3,
      (subst (λ k. Fits w32 k) (sym t.1) (number_fits w32 wide32 part b.0.0 b.0.1 fits b.1), t.4),
    )

-- ---- systems

-- one system is spelled
abbrev SpellsSystem : FilePart → List EventFormat → FilePart → Type 0
SpellsSystem part found rest =
    (system : System) × Takes part (system_bytes system) rest × (found ≡ named_formats system.name system.texts)
    × SystemFits system

system_takes : (part : FilePart) (found : List EventFormat) (rest : FilePart) → IsBytes part.bytes
    → system_at part ≡ Ok (found, rest) → SpellsSystem part found rest
unfolding system_at
system_takes part found rest fits e =
    let b = bind_ok (text_at part) (λ name. formats_at name.0 name.1) (found, rest) e in
    let n = text_takes part b.0.0 b.0.1 fits b.1 in
    let t = formats_take b.0.0 b.0.1 found rest n.fits b.2 in (
      record { name = b.0.0; texts = t.0 },
      Takes-then part (ended b.0.0) b.0.1 (formats_bytes t.0) rest n t.1,
      t.2,
      (text_ends part b.0.0 b.0.1 b.1, t.3),
    )

-- systems that are read are spelled, this count of them
abbrev SpellsSystems : ℕ → FilePart → List EventFormat → FilePart → Type 0
SpellsSystems count part found rest =
    (systems : List System) × (length systems ≡ count) × Takes part (flat_map system_bytes systems) rest
    × (found ≡ systems_formats systems) × AllByRecursion SystemFits systems

each_system_takes : (count index : ℕ) (part : FilePart) (found : List EventFormat) (rest : FilePart)
    → IsBytes part.bytes → all_at (λ _. system_at) index count part ≡ Ok (found, rest)
    → SpellsSystems count part found rest
unfolding all_at
each_system_takes zero index part found rest fits e =
    let same = same_value ([], part) (found, rest) e in
    subst (λ x. SpellsSystems 0 part x.0 x.1) same ([], refl, Takes-nothing part fits, refl, tt)
each_system_takes (suc count) index part found rest fits e =
    let b =
    bind_ok (system_at part)
    (λ first. all_at (λ _. system_at) (index + 1) count first.1 >>= λ others.
    Ok (first.0 ++ others.0, others.1)) (found, rest) e in
    let d =
    bind_ok (all_at (λ _. system_at) (index + 1) count b.0.1) (λ others. Ok (b.0.0 ++ others.0, others.1))
    (found, rest) b.2 in
    let one = system_takes part b.0.0 b.0.1 fits b.1 in
    let more = each_system_takes count (index + 1) b.0.1 d.0.0 d.0.1 one.1.fits d.1 in
    let lists : b.0.0 ++ d.0.0 ≡ systems_formats (one.0 ∷ more.0) =
    ap (λ xs. xs ++ d.0.0) one.2 ∙ ap (λ xs. named_formats one.0.name one.0.texts ++ xs) more.3 in
    let same = same_value (b.0.0 ++ d.0.0, d.0.1) (found, rest) d.2 in
    subst (λ x. SpellsSystems (suc count) part x.0 x.1) same (
      one.0 ∷ more.0,
      ap (λ n. suc n) more.1,
      Takes-then part (system_bytes one.0) b.0.1 (flat_map system_bytes more.0) d.0.1 one.1 more.2,
      lists,
      (one.3, more.4),
    )

systems_take : (part : FilePart) (found : List EventFormat) (rest : FilePart) → IsBytes part.bytes
    → systems_at part ≡ Ok (found, rest)
    → (systems : List System) × Takes part (systems_bytes systems) rest × (found ≡ systems_formats systems)
    × SystemsFit systems
unfolding systems_at
systems_take part found rest fits e =
    let b = bind_ok (number_at w32 part) (λ count. all_at (λ _. system_at) 0 count.0 count.1) (found, rest) e in
    let n = number_takes w32 wide32 part b.0.0 b.0.1 fits b.1 in
    let t = each_system_takes b.0.0 0 b.0.1 found rest n.fits b.2 in (
      t.0,
      subst (λ k. Takes part (to_le_bytes w32 k ++ flat_map system_bytes t.0) rest) (sym t.1)
          (Takes-then part (to_le_bytes w32 b.0.0) b.0.1 (flat_map system_bytes t.0) rest n t.2),
      t.3,
      (subst (λ k. Fits w32 k) (sym t.1) (number_fits w32 wide32 part b.0.0 b.0.1 fits b.1), t.4),
    )

-- ---- what is before the number of CPUs in version 6

titled_takes : (title : List ℕ) (part rest : FilePart) → IsBytes part.bytes → titled_at title part ≡ Ok rest
    → (body : List ℕ) × Takes part (title ++ block w64 body) rest × FitsBlock w64 body
unfolding titled_at
titled_takes title part rest fits e =
    let b = bind_ok (expected_at title Misplaced part) (λ text. block_at w64 text >>= λ body. Ok body.1) rest e in
    let d = bind_ok (block_at w64 b.0) (λ body. Ok body.1) rest b.2 in
    let t = expected_takes title Misplaced part b.0 fits b.1 in
    let k = block_takes w64 wide64 b.0 d.0.0 d.0.1 t.fits d.1 in (
      d.0.0.bytes,
      subst (λ r. Takes part (title ++ block w64 d.0.0.bytes) r) (same_value d.0.1 rest d.2)
          (Takes-then part title b.0 (block w64 d.0.0.bytes) d.0.1 t k.0),
      k.2,
    )

lists_take : (part rest : FilePart) (found : List ℕ × List ℕ) → IsBytes part.bytes → lists_at part ≡ Ok (found, rest)
    → (x : List ℕ) × (y : List ℕ) × (z : List ℕ) × Takes part (block w32 x ++ (block w32 y ++ block w64 z)) rest
    × FitsBlock w32 x × FitsBlock w32 y × FitsBlock w64 z × (found ≡ (x, z))
unfolding lists_at
lists_take part rest found fits e =
    let a = bind_ok (block_at w32 part) _ (found, rest) e in
    let b = bind_ok (block_at w32 a.0.1) _ (found, rest) a.2 in
    let d = bind_ok (block_at w64 b.0.1) (λ tasks. Ok ((a.0.0.bytes, tasks.0.bytes), tasks.1)) (found, rest) b.2 in
    let same = same_value ((a.0.0.bytes, d.0.0.bytes), d.0.1) (found, rest) d.2 in
    let p = block_takes w32 wide32 part a.0.0 a.0.1 fits a.1 in
    let q = block_takes w32 wide32 a.0.1 b.0.0 b.0.1 p.0.fits b.1 in
    let r = block_takes w64 wide64 b.0.1 d.0.0 d.0.1 q.0.fits d.1 in
    let two = Takes-then a.0.1 (block w32 b.0.0.bytes) b.0.1 (block w64 d.0.0.bytes) d.0.1 q.0 r.0 in (
      a.0.0.bytes,
      b.0.0.bytes,
      d.0.0.bytes,
      subst (λ x. Takes part (block w32 a.0.0.bytes ++ (block w32 b.0.0.bytes ++ block w64 d.0.0.bytes)) x)
          (ap (λ p. p.1) same)
          (Takes-then part (block w32 a.0.0.bytes) a.0.1 (block w32 b.0.0.bytes ++ block w64 d.0.0.bytes)
          d.0.1 p.0 two),
      p.2,
      q.2,
      r.2,
      sym (ap (λ p. p.0) same),
    )

-- the formats and what is round them, up to the lists of names
abbrev pub SpellsFront : FilePart → List EventFormat → List ℕ × List ℕ → FilePart → Type 0
SpellsFront part found kept rest =
    (texts : SixTexts) × Takes part (six_bytes texts) rest × (found ≡ six_formats texts) × SixTextsFit texts
    × (kept ≡ (texts.symbols, texts.tasks))

pub front_takes : (part name_lists rest : FilePart) (found : List EventFormat) (kept : List ℕ × List ℕ)
    → IsBytes part.bytes → all_formats_at part ≡ Ok (found, name_lists) → lists_at name_lists ≡ Ok (kept, rest)
    → SpellsFront part found kept rest
unfolding all_formats_at
front_takes part name_lists rest found kept fits e behind_it =
    let a =
    bind_ok (titled_at page_title part)
    (λ page. titled_at record_title page >>= λ word.
    (formats_at ring_system word >>= λ ring.
    (systems_at ring.1 >>= λ systems. Ok (ring.0 ++ systems.0, systems.1)))) (found, name_lists) e in
    let b =
    bind_ok (titled_at record_title a.0)
    (λ word. formats_at ring_system word >>= λ ring.
    (systems_at ring.1 >>= λ systems. Ok (ring.0 ++ systems.0, systems.1))) (found, name_lists) a.2 in
    let d =
    bind_ok (formats_at ring_system b.0)
    (λ ring. systems_at ring.1 >>= λ systems. Ok (ring.0 ++ systems.0, systems.1)) (found, name_lists) b.2 in
    let f = bind_ok (systems_at d.0.1) (λ systems. Ok (d.0.0 ++ systems.0, systems.1)) (found, name_lists) d.2 in
    let same = same_value (d.0.0 ++ f.0.0, f.0.1) (found, name_lists) f.2 in
    let page = titled_takes page_title part a.0 fits a.1 in
    let word = titled_takes record_title a.0 b.0 page.1.fits b.1 in
    let ring = formats_take ring_system b.0 d.0.0 d.0.1 word.1.fits d.1 in
    let named = systems_take d.0.1 f.0.0 f.0.1 ring.1.fits f.1 in
    let systems_to : Takes d.0.1 (systems_bytes named.0) name_lists =
    subst (λ x. Takes d.0.1 (systems_bytes named.0) x) (ap (λ p. p.1) same) named.1 in
    let last = lists_take name_lists rest kept systems_to.fits behind_it in
    let texts : SixTexts =
    record {
      page_layout = page.0;
      record_layout = word.0;
      ring = ring.0;
      systems = named.0;
      symbols = last.0;
      prints = last.1;
      tasks = last.2;
    } in
    let tail = block w32 last.0 ++ (block w32 last.1 ++ block w64 last.2) in
    let four = Takes-then d.0.1 (systems_bytes named.0) name_lists tail rest systems_to last.3 in
    let three = Takes-then b.0 (formats_bytes ring.0) d.0.1 (systems_bytes named.0 ++ tail) rest ring.1 four in
    let two =
    Takes-then a.0 (record_title ++ block w64 word.0) b.0 (formats_bytes ring.0 ++ (systems_bytes named.0 ++ tail))
    rest word.1 three in
    let one =
    Takes-then part (page_title ++ block w64 page.0) a.0
    ((record_title ++ block w64 word.0) ++ (formats_bytes ring.0 ++ (systems_bytes named.0 ++ tail))) rest
    page.1 two in
    let lists : found ≡ six_formats texts =
    sym (ap (λ p. p.0) same) ∙ ap (λ xs. xs ++ f.0.0) ring.2
    ∙ ap (λ xs. named_formats ring_system ring.0 ++ xs) named.2 in
    let bounds : SixTextsFit texts =
    record {
      page_layout = page.2;
      record_layout = word.2;
      ring = ring.3;
      systems = named.3;
      symbols = last.4;
      prints = last.5;
      tasks = last.6;
    } in
    (texts, one, lists, bounds, last.7)
