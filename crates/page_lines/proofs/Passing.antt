-- Pages that are read one after the other, and lines that are passed.
use Rattle.std.proofs.Common.{◌≡◌, ℕ, ◌+◌, ◌*◌, ◌<◌, ◌≤◌, Bool, true, false, List, [], ◌∷◌, ◌++◌, length, map}
use Rattle.std.proofs.Common.{drop, Option, Some, None, refl, sym, ap, ap₂, ◌∙◌, subst, arith, append-nil}
use Rattle.std.proofs.Common.{append_assoc, length-append, length-drop}
use Rattle.std.specs.Io.KnownBytes.{Consumes}
use Rattle.std.proofs.KnownBytes.{Consumes-nil, Consumes-trans}
use Rattle.std.specs.List.{enumerate_from}
use Rattle.std.proofs.lemmas.List.{take_all, drop_all, take-append-le, drop-append-le, map-append}
use Rattle.std.proofs.lemmas.Bool.{false≢true}
use Rattle.trace_model.specs.Record.{Record}
use Rattle.trace_model.specs.Listing.{Line as ModelLine}
use Rattle.time_merge.specs.Heads.{first_in}
use Rattle.time_merge.specs.LineOrder.{line_of}
use Rattle.page_image.specs.declared.image.Missed.{Missed}
use Rattle.trace_dat.specs.Versions.{resembles}
use Rattle.capture.specs.Pages.{Page, IsPageOf, intact, damaged, least_missed, behind, end_from}
use Rattle.capture.specs.Smaller.{smaller_in}
use Rattle.page_lines.specs.declared.tally.Tally.{Tally}
use Rattle.page_lines.specs.Tallies.{IsTally, entries_from}
use Rattle.page_lines.specs.Stating.{StatesMore, told_by}
use Rattle.page_lines.specs.Sources.{Reading, ArePlain, Passes, lines_from, AddsImage, ReadsNext}
use Rattle.page_lines.proofs.StatedLosses.{states_none, states_both}

-- ---- pages behind pages

pub plain_none : (size : ℕ) (bytes : List ℕ) (pages : List Page) → bytes ≡ [] → ArePlain size bytes pages → pages ≡ []
plain_none size bytes [] none are = refl
plain_none size bytes (page ∷ pages) none are = absurd (let few = ap length none in omega (arith, few, are.0))

pub plain_one : (size : ℕ) (piece : List ℕ) (page : Page) → 0 < length piece → length piece ≤ size
    → resembles piece ≡ false → smaller_in piece ≡ None → IsPageOf piece page → ArePlain size piece (page ∷ [])
plain_one size piece page some fits raw plain is =
    let whole = sym (take_all size piece fits) in (
      some,
      subst (λ (xs : List ℕ). resembles xs ≡ false) whole raw,
      subst (λ (xs : List ℕ). smaller_in xs ≡ None) whole plain,
      subst (λ (xs : List ℕ). IsPageOf xs page) whole is,
      drop_all size piece fits,
    )

plain_append : (size : ℕ) (bytes more : List ℕ) (pages others : List Page) → ArePlain size bytes pages
    → length bytes ≡ size * length pages → ArePlain size more others → ArePlain size (bytes ++ more) (pages ++ others)
plain_append size bytes more [] others none whole are =
    subst (λ (front : List ℕ). ArePlain size (front ++ more) others) (sym none) are
plain_append size bytes more (page ∷ pages) others (some, raw, plain, is, behind) whole are =
    let long : size ≤ length bytes = omega (arith, whole) in
    let rest : length (drop size bytes) ≡ size * length pages = omega (arith, whole, length-drop size bytes) in
    let own = sym (take-append-le size bytes more long) in (
      omega (arith, some, length-append bytes more),
      subst (λ (xs : List ℕ). resembles xs ≡ false) own raw,
      subst (λ (xs : List ℕ). smaller_in xs ≡ None) own plain,
      subst (λ (xs : List ℕ). IsPageOf xs page) own is,
      subst (λ (xs : List ℕ). ArePlain size xs (pages ++ others)) (sym (drop-append-le size bytes more long))
          (plain_append size (drop size bytes) more pages others behind rest are),
    )

pub end_of_both : (next : ℕ) (pages others : List Page)
    → end_from next (pages ++ others) ≡ end_from (end_from next pages) others
end_of_both next [] others = refl
end_of_both next (page ∷ pages) others = end_of_both (behind next page) pages others

entries_of_both : (next : ℕ) (pages others : List Page)
    → entries_from next (pages ++ others) ≡ entries_from next pages ++ entries_from (end_from next pages) others
entries_of_both next [] others = refl
entries_of_both next (intact read ∷ pages) others =
    ap (λ (rest : List (ℕ × Record)). enumerate_from (next + least_missed read.missed) read.records ++ rest)
    (entries_of_both (behind next (intact read)) pages others)
    ∙ sym (append_assoc (enumerate_from (next + least_missed read.missed) read.records)
    (entries_from (behind next (intact read)) pages)
    (entries_from (end_from (behind next (intact read)) pages) others))
entries_of_both next (damaged cause ∷ pages) others = entries_of_both next pages others

lines_of_both : (cpu next : ℕ) (pages others : List Page)
    → lines_from cpu next (pages ++ others) ≡ lines_from cpu next pages ++ lines_from cpu (end_from next pages) others
lines_of_both cpu next pages others =
    ap (map (line_of cpu)) (entries_of_both next pages others)
    ∙ map-append (line_of cpu) (entries_from next pages) (entries_from (end_from next pages) others)

-- what is known of a loss stays
told_of_both : (told : Page → Page) (next : ℕ) (pages others : List Page)
    → end_from next (map told (pages ++ others)) ≡ end_from (end_from next (map told pages)) (map told others)
told_of_both told next pages others =
    ap (end_from next) (map-append told pages others) ∙ end_of_both next (map told pages) (map told others)

-- ---- passing

module _ {R : Type 0} (remaining : R → Option (List ℕ)) where
  -- nothing is read and passed
  pub passes_none : (s : Reading R) → Passes remaining s [] s
  passes_none s = record {
    size_is = refl;
    ring = record { cpu_is = refl; known_is = refl };
    bytes = [];
    consumed = Consumes-nil (remaining s.reader);
    pages = [];
    plain = refl;
    whole = λ goes. omega arith;
    no_more = λ last. (refl, last);
    tally_is = λ before is. subst (IsTally s.tally) (sym (append-nil before)) is;
    next_is = refl;
    stated_is = states_none s.tally.stated;
    count_is = omega arith;
    lines_are = append-nil s.left;
  }

  -- ---- one after the other
  module _ (a b c : Reading R) (lines others : List ModelLine) (p : Passes remaining a lines b)
      (q : Passes remaining b others c) where
    same_size : (n : ℕ) → b.size * n ≡ a.size * n
    same_size n = ap (λ (size : ℕ). size * n) p.size_is

    plain_behind : ArePlain a.size q.bytes q.pages
    plain_behind = subst (λ (n : ℕ). ArePlain n q.bytes q.pages) p.size_is q.plain

    -- where the first one ended nothing more was read
    at_last : b.is_last ≡ true → ArePlain a.size (p.bytes ++ q.bytes) (p.pages ++ q.pages)
    at_last last =
        let none = (q.no_more last).0 in
        let no_pages = plain_none a.size q.bytes q.pages none plain_behind in
        subst (λ (xs : List ℕ). ArePlain a.size (p.bytes ++ xs) (p.pages ++ q.pages)) (sym none)
        (subst (λ (ps : List Page). ArePlain a.size (p.bytes ++ []) (p.pages ++ ps)) (sym no_pages)
        (subst (λ (xs : List ℕ). ArePlain a.size xs (p.pages ++ [])) (sym (append-nil p.bytes))
        (subst (λ (ps : List Page). ArePlain a.size p.bytes ps) (sym (append-nil p.pages)) p.plain)))

    plain_both : (is_last : Bool) → b.is_last ≡ is_last → ArePlain a.size (p.bytes ++ q.bytes) (p.pages ++ q.pages)
    plain_both true last = at_last last
    plain_both false more =
        plain_append a.size p.bytes q.bytes p.pages q.pages p.plain (p.whole more) plain_behind

    whole_both : (is_last : Bool) → b.is_last ≡ is_last → c.is_last ≡ false
        → length (p.bytes ++ q.bytes) ≡ a.size * length (p.pages ++ q.pages)
    whole_both true last goes = absurd (false≢true (sym goes ∙ (q.no_more last).1))
    whole_both false more goes =
        length-append p.bytes q.bytes
        ∙ ap₂ (λ (m n : ℕ). m + n) (p.whole more) (q.whole goes ∙ same_size (length q.pages))
        ∙ (let sum : a.size * length p.pages + a.size * length q.pages ≡ a.size * (length p.pages + length q.pages) =
        omega arith in sum)
        ∙ ap (λ (n : ℕ). a.size * n) (sym (length-append p.pages q.pages))

    abbrev known : Page → Page
    known = told_by a.tally.known

    -- what is known of a loss is the same behind
    known_behind : map (told_by b.tally.known) q.pages ≡ map known q.pages
    known_behind = ap (λ (m : Missed). map (told_by m) q.pages) p.ring.known_is

    lines_both : a.left ++ lines_from a.tally.cpu.0 a.tally.next.0 (map known (p.pages ++ q.pages))
        ≡ (lines ++ others) ++ c.left
    lines_both =
        let first = lines_from a.tally.cpu.0 a.tally.next.0 (map known p.pages) in
        let then = lines_from a.tally.cpu.0 (end_from a.tally.next.0 (map known p.pages)) (map known q.pages) in
        let seen = lines_from b.tally.cpu.0 b.tally.next.0 (map (told_by b.tally.known) q.pages) in
        ap (λ (ps : List Page). a.left ++ lines_from a.tally.cpu.0 a.tally.next.0 ps)
        (map-append known p.pages q.pages)
        ∙ ap (λ (ls : List ModelLine). a.left ++ ls)
        (lines_of_both a.tally.cpu.0 a.tally.next.0 (map known p.pages) (map known q.pages))
        ∙ sym (append_assoc a.left first then)
        ∙ ap₂ (λ (front back : List ModelLine). front ++ back) p.lines_are
        (ap₂ (λ (cpu next : ℕ). lines_from cpu next (map known q.pages)) (sym (ap (λ n. n.0) p.ring.cpu_is))
        (sym p.next_is)
        ∙ ap (lines_from b.tally.cpu.0 b.tally.next.0) (sym known_behind))
        ∙ append_assoc lines b.left seen
        ∙ ap (λ (ls : List ModelLine). lines ++ ls) q.lines_are
        ∙ sym (append_assoc lines others c.left)

    pub passes_both : Passes remaining a (lines ++ others) c
    passes_both = record {
      size_is = q.size_is ∙ p.size_is;
      ring = record {
        cpu_is = q.ring.cpu_is ∙ p.ring.cpu_is;
        known_is = q.ring.known_is ∙ p.ring.known_is;
      };
      bytes = p.bytes ++ q.bytes;
      consumed = Consumes-trans (remaining a.reader) (remaining b.reader) (remaining c.reader) p.bytes q.bytes
          p.consumed q.consumed;
      pages = p.pages ++ q.pages;
      plain = plain_both b.is_last refl;
      whole = whole_both b.is_last refl;
      no_more = λ last.
          let first = p.no_more last in
          let then = q.no_more first.1 in
          (ap₂ (λ (front back : List ℕ). front ++ back) first.0 then.0, then.1);
      tally_is = λ before is.
          subst (IsTally c.tally)
          (ap (λ (ps : List Page). (before ++ map known p.pages) ++ ps) known_behind
          ∙ append_assoc before (map known p.pages) (map known q.pages)
          ∙ ap (λ (ps : List Page). before ++ ps) (sym (map-append known p.pages q.pages)))
          (q.tally_is (before ++ map known p.pages) (p.tally_is before is));
      next_is = q.next_is ∙ ap (end_from b.tally.next.0) known_behind
          ∙ ap (λ (n : ℕ). end_from n (map known q.pages)) p.next_is
          ∙ sym (told_of_both known a.tally.next.0 p.pages q.pages);
      stated_is = states_both a.tally.stated b.tally.stated c.tally.stated p.pages q.pages p.stated_is q.stated_is;
      count_is = q.count_is ∙ ap (λ (n : ℕ). n + length q.bytes) p.count_is
          ∙ (let sum : a.taken + length p.bytes + length q.bytes ≡ a.taken + (length p.bytes + length q.bytes) =
          omega arith in sum)
          ∙ ap (λ (n : ℕ). a.taken + n) (sym (length-append p.bytes q.bytes));
      lines_are = lines_both;
    }

-- ---- a page more

pub next_read : (size : ℕ) (unread left : Option (List ℕ)) (old new : Tally) (bytes : List ℕ) (lines : List ModelLine)
    → 0 < length bytes → length bytes ≤ size → Consumes unread left bytes → AddsImage bytes old new lines
    → ReadsNext size unread left old (length bytes) new lines
next_read size unread left old new bytes lines some fits consumed adds = record {
  ring = adds.ring;
  bytes = bytes;
  consumed = consumed;
  long = refl;
  pages = adds.page ∷ [];
  plain = plain_one size bytes adds.page some fits adds.raw adds.plain adds.page_is;
  whole = λ same. refl;
  tally_is = adds.tally_is;
  next_is = adds.next_is;
  stated_is = adds.stated_is;
  lines_are = adds.lines_are;
}

module _ {R : Type 0} (remaining : R → Option (List ℕ)) where
  -- the line at hand is passed
  pub passes_line : (old new : Reading R) (line : ModelLine) → first_in old.left ≡ Some line
      → new.size ≡ old.size → new.tally ≡ old.tally → new.is_last ≡ old.is_last → new.taken ≡ old.taken
      → new.reader ≡ old.reader → new.left ≡ drop 1 old.left → Passes remaining old (line ∷ []) new
  passes_line old new line first size tally last taken reader left = record {
    size_is = size;
    ring = record { cpu_is = ap (λ t. t.cpu) tally; known_is = ap (λ t. t.known) tally };
    bytes = [];
    consumed = subst (λ (r : R). Consumes (remaining old.reader) (remaining r) []) (sym reader)
        (Consumes-nil (remaining old.reader));
    pages = [];
    plain = refl;
    whole = λ more. omega arith;
    no_more = λ is_last. (refl, last ∙ is_last);
    tally_is = λ before is. subst (IsTally new.tally) (sym (append-nil before))
        (subst (λ (t : Tally). IsTally t before) (sym tally) is);
    next_is = ap (λ t. t.next.0) tally;
    stated_is = subst (λ (t : Tally). StatesMore old.tally.stated [] t.stated) (sym tally)
        (states_none old.tally.stated);
    count_is = omega (arith, taken);
    lines_are = append-nil old.left ∙ split old.left first ∙ ap (λ (ls : List ModelLine). line ∷ ls) (sym left);
  }
    where
      split : (lines : List ModelLine) → first_in lines ≡ Some line → lines ≡ line ∷ drop 1 lines
      split [] is = absurd cc
      split (l ∷ lines) is = let same : l ≡ line = cc in ap (λ (x : ModelLine). x ∷ lines) same
