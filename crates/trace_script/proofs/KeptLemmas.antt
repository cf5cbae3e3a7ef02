-- The commands of a script as they are kept, one more and one of them.
use Rattle.std.proofs.Common.{◌≡◌, ℕ, suc, zero, ◌+◌, ◌-◌, ◌^◌, ◌<◌, ◌≤◌, List, [], ◌∷◌, ◌++◌, length, take, drop, Some}
use Rattle.std.proofs.Common.{refl, sym, ◌∙◌, ap, subst, arith, length-append, length-drop, append-nil}
use Rattle.std.specs.List.{slice_get}
use Rattle.std.proofs.Math.Seq.{drop-append_seam}
use Rattle.std.proofs.lemmas.List.{take-append-le, take_all, drop-append-le}
use Rattle.trace_model.proofs.collections.Elements.{some_is}
use Rattle.trace_script.specs.Kept.{Kept, part, shown, commands_kept, AreKept, start_of}

-- ---- one more
kept_push : (index start len : ℕ) (lines : List Kept) (line : Kept)
    → AreKept index start len lines
    → len ≤ line.end
    → (index + length lines) + line.above < 2 ^ 64
    → AreKept index start line.end (lines ++ line ∷ [])
kept_push index start len [] line h le fits = (omega (arith, h, le), omega (arith, fits), refl)
kept_push index start len (l ∷ lines) line h le fits =
    (h.0, h.1, kept_push (suc index) l.end len lines line h.2 le (omega (arith, fits)))

kept_within : (index start len : ℕ) (lines : List Kept) → AreKept index start len lines → start ≤ len
kept_within index start len [] h = omega (arith, h)
kept_within index start len (l ∷ lines) h =
    let rest = kept_within (suc index) l.end len lines h.2 in
    omega (arith, rest, h.0)

part_front : (bytes more : List ℕ) (i j : ℕ) → i ≤ j → j ≤ length bytes → part (bytes ++ more) i j ≡ part bytes i j
part_front bytes more i j low high =
    let first : i ≤ length bytes = omega arith in
    let long : j - i ≤ length (drop i bytes) = omega (arith, length-drop i bytes) in
    ap (λ (bs : List ℕ). take (j - i) bs) (drop-append-le i bytes more first)
    ∙ take-append-le (j - i) (drop i bytes) more long

part_back : (bytes more : List ℕ) → part (bytes ++ more) (length bytes) (length (bytes ++ more)) ≡ more
part_back bytes more =
    ap (λ (bs : List ℕ). take (length (bytes ++ more) - length bytes) bs) (drop-append_seam bytes more)
    ∙ take_all (length (bytes ++ more) - length bytes) more (omega (arith, length-append bytes more))

commands_push : (bytes more : List ℕ) (index start : ℕ) (lines : List Kept) (line : Kept)
    → AreKept index start (length bytes) lines
    → line.end ≡ length (bytes ++ more)
    → commands_kept (bytes ++ more) index start (lines ++ line ∷ [])
    ≡ commands_kept bytes index start lines ++ ((index + length lines) + line.above, shown more line) ∷ []
commands_push bytes more index start [] line h end =
    let here : index + line.above ≡ (index + 0) + line.above = omega arith in
    ap (λ (bs : List ℕ). (index + line.above, shown bs line) ∷ [])
    (ap (λ (n : ℕ). part (bytes ++ more) start n) end
    ∙ ap (λ (n : ℕ). part (bytes ++ more) n (length (bytes ++ more))) h ∙ part_back bytes more)
    ∙ ap (λ (n : ℕ). (n, shown more line) ∷ []) here
commands_push bytes more index start (l ∷ lines) line h end =
    let within = kept_within (suc index) l.end (length bytes) lines h.2 in
    let there : (suc index + length lines) + line.above ≡ (index + suc (length lines)) + line.above = omega arith in
    ap
    (λ (bs : List ℕ).
    (index + l.above, shown bs l) ∷ commands_kept (bytes ++ more) (suc index) l.end (lines ++ line ∷ []))
    (part_front bytes more start l.end h.0 within)
    ∙ ap (λ rest. (index + l.above, shown (part bytes start l.end) l) ∷ rest)
    (commands_push bytes more (suc index) l.end lines line h.2 end
    ∙ ap (λ (n : ℕ). commands_kept bytes (suc index) l.end lines ++ (n, shown more line) ∷ []) there)

-- the commands of the lines and one more, by what the loop has
pub line_kept : (bytes after more : List ℕ) (lines all : List Kept) (line : Kept) (number : ℕ)
    → after ≡ bytes ++ more
    → all ≡ lines ++ line ∷ []
    → line.end ≡ length after
    → length lines + line.above ≡ number
    → number < 2 ^ 64
    → AreKept 0 0 (length bytes) lines
    → (commands_kept after 0 0 all ≡ commands_kept bytes 0 0 lines ++ (number, shown more line) ∷ [])
    × AreKept 0 0 (length after) all
line_kept bytes after more lines all line number put is end numbered fits kept =
    let there : line.end ≡ length (bytes ++ more) = end ∙ ap (λ (bs : List ℕ). length bs) put in
    let same : (0 + length lines) + line.above ≡ number = omega (arith, numbered) in (
      ap (λ (bs : List ℕ). commands_kept bs 0 0 all) put
          ∙ ap (commands_kept (bytes ++ more) 0 0) is
          ∙ commands_push bytes more 0 0 lines line kept there
          ∙ ap (λ (n : ℕ). commands_kept bytes 0 0 lines ++ (n, shown more line) ∷ []) same,
      subst (λ (ls : List Kept). AreKept 0 0 (length after) ls) (sym is)
          (subst (λ (n : ℕ). AreKept 0 0 n (lines ++ line ∷ [])) end
          (kept_push 0 0 (length bytes) lines line kept (omega (arith, there, length-append bytes more))
          (omega (arith, same, fits)))),
    )

-- ---- one of them
pub length-commands_kept : (bytes : List ℕ) (index start : ℕ) (lines : List Kept)
    → length (commands_kept bytes index start lines) ≡ length lines
length-commands_kept bytes index start [] = refl
length-commands_kept bytes index start (line ∷ lines) =
    ap (λ (n : ℕ). suc n) (length-commands_kept bytes (suc index) line.end lines)

pub command_at : (bytes : List ℕ) (from start : ℕ) (lines : List Kept) (i : ℕ) (line : Kept)
    → slice_get lines i ≡ Some line
    → slice_get (commands_kept bytes from start lines) i
    ≡ Some ((from + i) + line.above, shown (part bytes (start_of start lines i) line.end) line)
command_at bytes from start [] i line at = cc
command_at bytes from start (l ∷ lines) zero line at =
    let here : from + l.above ≡ (from + 0) + l.above = omega arith in
    ap (λ (n : ℕ). Some (n, shown (part bytes start l.end) l)) here
    ∙ ap (λ (l : Kept). Some ((from + 0) + l.above, shown (part bytes start l.end) l)) (some_is l line at)
command_at bytes from start (l ∷ lines) (suc i) line at =
    let there : (suc from + i) + line.above ≡ (from + suc i) + line.above = omega arith in
    command_at bytes (suc from) l.end lines i line at
    ∙ ap (λ (n : ℕ). Some (n, shown (part bytes (start_of l.end lines i) line.end) line)) there

-- a line's bytes begin where those of the line before end
pub start_behind : (start : ℕ) (lines : List Kept) (i : ℕ) (line : Kept)
    → slice_get lines i ≡ Some line
    → start_of start lines (suc i) ≡ line.end
start_behind start [] i line at = cc
start_behind start (l ∷ lines) zero line at = ap (λ (l : Kept). l.end) (some_is l line at)
start_behind start (l ∷ lines) (suc i) line at = start_behind l.end lines i line at

-- its bytes are among them all, and its number has 64 bits
pub line_within : (from start len : ℕ) (lines : List Kept) (i : ℕ) (line : Kept)
    → AreKept from start len lines
    → slice_get lines i ≡ Some line
    → (start_of start lines i ≤ line.end) × (line.end ≤ len) × ((from + i) + line.above < 2 ^ 64)
line_within from start len [] i line h at = absurd (cc)
line_within from start len (l ∷ lines) zero line h at =
    let same : l ≡ line = some_is l line at in
    let within = kept_within (suc from) l.end len lines h.2 in
    subst (λ (l : Kept). (start ≤ l.end) × (l.end ≤ len) × ((from + 0) + l.above < 2 ^ 64)) same
    (h.0, within, omega (arith, h.1))
line_within from start len (l ∷ lines) (suc i) line h at =
    let rest = line_within (suc from) l.end len lines i line h.2 at in
    (rest.0, rest.1, omega (arith, rest.2))

-- ---- of two lists, one after the other
pub front_at : {X : Type 0} (front behind : List X) (i : ℕ) (x : X)
    → slice_get front i ≡ Some x
    → slice_get (front ++ behind) i ≡ Some x
front_at [] behind i x at = cc
front_at (first ∷ front) behind zero x at = at
front_at (first ∷ front) behind (suc i) x at = front_at front behind i x at

pub behind_at : {X : Type 0} (front behind : List X) (i j : ℕ) (x : X)
    → i ≡ length front + j
    → slice_get behind j ≡ Some x
    → slice_get (front ++ behind) i ≡ Some x
behind_at [] behind i j x is at =
    let same : i ≡ j = omega (arith, is) in
    ap (slice_get behind) same ∙ at
behind_at (first ∷ front) behind zero j x is at = absurd (omega (arith, is))
behind_at (first ∷ front) behind (suc i) j x is at = behind_at front behind i j x (omega (arith, is)) at

pub front_pushed : {X : Type 0} (front after behind : List X) (x : X)
    → length behind ≡ 0
    → after ≡ front ++ x ∷ []
    → after ++ behind ≡ (front ++ behind) ++ x ∷ []
front_pushed front after [] x none is =
    append-nil after ∙ is ∙ ap (λ (l : List _). l ++ x ∷ []) (sym (append-nil front))
front_pushed front after (y ∷ behind) x none is = absurd (omega (arith, none))
