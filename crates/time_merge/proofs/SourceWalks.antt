-- A walk over sources, line by line.
use Rattle.std.proofs.Common.{◌≡◌, ◌≢◌, ◌⊎◌, ⊎_elim, ℕ, zero, suc, ◌+◌, ◌<◌, ◌≤◌, List, [], ◌∷◌, ◌++◌, append-nil}
use Rattle.std.proofs.Common.{append_assoc, drop, length, set, Option, Some, None, refl, sym, ap, ◌∙◌, subst, arith}
use Rattle.std.proofs.Common.{length-set, Result, Ok, Err}
use Rattle.std.specs.Prelude.{OnErr}
use Rattle.std.specs.List.{slice_get}
use Rattle.std.proofs.lemmas.Bool.{cases_lt}
use Rattle.std.proofs.lemmas.List.{set-set}
use Rattle.std.proofs.lemmas.Option.{none-some, slice_get_within}
use Rattle.trace_model.specs.Listing.{Line as ModelLine}
use Rattle.trace_model.proofs.collections.Elements.{some_is}
use Rattle.time_merge.specs.Heads.{first_in, head_list, heads_of, AllBegin, GoesFirst, HasTaken, HasTurned, HaveEnded}
use Rattle.time_merge.specs.Heads.{IsAtTurn}
use Rattle.time_merge.specs.Merging.{merged_lists}
use Rattle.time_merge.specs.SourceWalks.{AllPass, GoBefore, WalksAll, WalksPart, each_joined}
use Rattle.time_merge.specs.Walks.{TakesAll}
use Rattle.time_merge.proofs.Heads.{element_at, heads_begin, head_at, begins}
use Rattle.time_merge.proofs.Ranked.{element_kept, element_set}
use Rattle.time_merge.proofs.Takes.{takes_more}

-- ---- an element that is set

element_put : {X : Type 0} (xs : List X) (i : ℕ) (x y : X) → slice_get xs i ≡ Some x → slice_get (set xs i y) i ≡ Some y
element_put [] i x y at = absurd (none-some x at)
element_put (z ∷ xs) zero x y at = refl
element_put (z ∷ xs) (suc i) x y at = element_put xs i x y at

element_stays : {X : Type 0} (xs : List X) (i k : ℕ) (x y : X) → k ≢ i → slice_get xs k ≡ Some x
    → slice_get (set xs i y) k ≡ Some x
element_stays [] i k x y apart at = absurd (none-some x at)
element_stays (z ∷ xs) zero zero x y apart at = absurd (apart refl)
element_stays (z ∷ xs) zero (suc k) x y apart at = at
element_stays (z ∷ xs) (suc i) zero x y apart at = at
element_stays (z ∷ xs) (suc i) (suc k) x y apart at = element_stays xs i k x y (λ e. apart (ap suc e)) at

set_own : {X : Type 0} (xs : List X) (i : ℕ) (x : X) → slice_get xs i ≡ Some x → set xs i x ≡ xs
set_own [] i x at = refl
set_own (z ∷ xs) zero x at = ap (λ y. y ∷ xs) (sym (some_is z x at))
set_own (z ∷ xs) (suc i) x at = ap (λ ys. z ∷ ys) (set_own xs i x at)

-- how many turns sources have left
abbrev pub turns_of : {X : Type 0} → (X → ℕ) → List X → ℕ
turns_of turns [] = 0
turns_of turns (x ∷ xs) = turns x + turns_of turns xs

turns_less : {X : Type 0} (turns : X → ℕ) (xs : List X) (i : ℕ) (x y : X) → slice_get xs i ≡ Some x
    → turns y < turns x → turns_of turns (set xs i y) < turns_of turns xs
turns_less turns [] i x y at less = absurd (none-some x at)
turns_less turns (z ∷ xs) zero x y at less = let same = ap turns (some_is z x at) in omega arith
turns_less turns (z ∷ xs) (suc i) x y at less = let others = turns_less turns xs i x y at less in omega arith

-- ---- lists that grow

-- nothing yet of each source
abbrev pub empties : {S : Type 0} → List S → List (List ModelLine)
empties [] = []
empties (s ∷ sources) = [] ∷ empties sources

joined_none : {S : Type 0} (sources : List S) (others : List (List ModelLine)) → length others ≡ length sources
    → each_joined (empties sources) others ≡ others
joined_none [] [] same = refl
joined_none [] (lines ∷ others) same = absurd (omega arith)
joined_none (s ∷ sources) [] same = absurd (omega arith)
joined_none (s ∷ sources) (lines ∷ others) same =
    ap (λ (ls : List (List ModelLine)). lines ∷ ls) (joined_none sources others (omega arith))

none_joined : {S : Type 0} (lists : List (List ModelLine)) (sources : List S) → length lists ≡ length sources
    → each_joined lists (empties sources) ≡ lists
none_joined [] [] same = refl
none_joined [] (s ∷ sources) same = absurd (omega arith)
none_joined (lines ∷ lists) [] same = absurd (omega arith)
none_joined (lines ∷ lists) (s ∷ sources) same =
    ap (λ (l : List ModelLine). l ∷ each_joined lists (empties sources)) (append-nil lines)
    ∙ ap (λ (ls : List (List ModelLine)). lines ∷ ls) (none_joined lists sources (omega arith))

merged_empties : {S : Type 0} (sources : List S) → merged_lists (empties sources) ≡ []
merged_empties [] = refl
merged_empties (s ∷ sources) = merged_empties sources

count_of_empties : {S : Type 0} (sources : List S) → length (empties sources) ≡ length sources
count_of_empties [] = refl
count_of_empties (s ∷ sources) = ap suc (count_of_empties sources)

is_empty : {S : Type 0} (sources : List S) (k : ℕ) (lines : List ModelLine)
    → slice_get (empties sources) k ≡ Some lines → lines ≡ []
is_empty [] k lines at = absurd (none-some lines at)
is_empty (s ∷ sources) zero lines at = sym (some_is [] lines at)
is_empty (s ∷ sources) (suc k) lines at = is_empty sources k lines at

-- a line goes over from the others to the lists
joined_set : (lists others : List (List ModelLine)) (i : ℕ) (own : List ModelLine) (line : ModelLine)
    (rest : List ModelLine)
    → slice_get lists i ≡ Some own → slice_get others i ≡ Some (line ∷ rest)
    → each_joined lists others ≡ each_joined (set lists i (own ++ line ∷ [])) (set others i rest)
joined_set [] others i own line rest at there = absurd (none-some own at)
joined_set (lines ∷ lists) [] i own line rest at there = absurd (none-some (line ∷ rest) there)
joined_set (lines ∷ lists) (more ∷ others) zero own line rest at there =
    ap (λ (l : List ModelLine). l ∷ each_joined lists others)
    (ap (λ (l : List ModelLine). l ++ more) (some_is lines own at)
    ∙ ap (λ (l : List ModelLine). own ++ l) (some_is more (line ∷ rest) there)
    ∙ sym (append_assoc own (line ∷ []) rest))
joined_set (lines ∷ lists) (more ∷ others) (suc i) own line rest at there =
    ap (λ (ls : List (List ModelLine)). (lines ++ more) ∷ ls) (joined_set lists others i own line rest at there)

module _ {S : Type 0} (passes : S → ModelLine → S → Type 0) where
  none_passed : (sources : List S) → AllPass passes sources (empties sources) sources
  none_passed [] = tt
  none_passed (s ∷ sources) = (refl, none_passed sources)

  count_passed : (olds : List S) (lists : List (List ModelLine)) (news : List S) → AllPass passes olds lists news
      → length lists ≡ length news
  count_passed [] [] [] all = refl
  count_passed (old ∷ olds) (lines ∷ lists) (new ∷ news) all = ap suc (count_passed olds lists news all.1)
  count_passed [] [] (new ∷ news) all = absurd all
  count_passed [] (lines ∷ lists) news all = absurd all
  count_passed (old ∷ olds) [] news all = absurd all
  count_passed (old ∷ olds) (lines ∷ lists) [] all = absurd all

  -- a source passes one line more
  pass_more : (olds : List S) (lists : List (List ModelLine)) (news : List S) (i : ℕ) (s : S) (line : ModelLine)
      (later : S)
      → AllPass passes olds lists news → slice_get news i ≡ Some s → passes s line later
      → (own : List ModelLine) × (slice_get lists i ≡ Some own)
      × AllPass passes olds (set lists i (own ++ line ∷ [])) (set news i later)
  pass_more [] [] [] i s line later all at one = absurd (none-some s at)
  pass_more (old ∷ olds) (lines ∷ lists) (new ∷ news) zero s line later all at one = (
    lines,
    refl,
    (
      takes_more passes old lines new line later all.0
          (subst (λ (x : S). passes x line later) (sym (some_is new s at)) one),
      all.1,
    ),
  )
  pass_more (old ∷ olds) (lines ∷ lists) (new ∷ news) (suc i) s line later all at one =
      let more = pass_more olds lists news i s line later all.1 at one in
      (more.0, more.1, (all.0, more.2))
  pass_more [] [] (new ∷ news) i s line later all at one = absurd all
  pass_more [] (lines ∷ lists) news i s line later all at one = absurd all
  pass_more (old ∷ olds) [] news i s line later all at one = absurd all
  pass_more (old ∷ olds) (lines ∷ lists) [] i s line later all at one = absurd all

-- ---- the line that goes first

module _ {S : Type 0} (head : S → Option ModelLine) where
  -- it is one alone
  pub same_first : (sources : List S) (i k : ℕ) (s t : S) (line other : ModelLine)
      → GoesFirst head sources i s line → GoesFirst head sources k t other → line ≡ other
  same_first sources i k s t line other one two =
      let begin = heads_begin head sources in
      let here = one.merged (heads_of head sources) [] begin
      (head_at head sources i s one.at ∙ ap (λ (h : Option ModelLine). Some (head_list h)) one.head_is) in
      let there = two.merged (heads_of head sources) [] begin
      (head_at head sources k t two.at ∙ ap (λ (h : Option ModelLine). Some (head_list h)) two.head_is) in
      some_is line other (ap first_in (sym here ∙ there))

  -- lists that begin with what the sources have at hand after the line, begin with the line before
  begin_before : (sources : List S) (i : ℕ) (s later : S) (line : ModelLine) (others : List (List ModelLine))
      (rest : List ModelLine)
      → slice_get sources i ≡ Some s → head s ≡ Some line
      → AllBegin head (set sources i later) others → slice_get others i ≡ Some rest
      → AllBegin head sources (set others i (line ∷ rest))
  begin_before sources i s later line others rest at has begin there =
      let count = begin.count in
      let wide = length-set sources i later in
      let wider = length-set others i (line ∷ rest) in
      record {
        count = omega arith;
        each = λ k t lines here own.
            let apart : k ≢ i → first_in lines ≡ head t =
            λ ne.
            begin.each k t lines (element_stays sources i k t later ne here)
            (element_kept others i k lines (line ∷ rest) ne own) in
            ⊎_elim
            (λ (lt : k < i). apart (λ e. omega arith))
            (λ (ge : i ≤ k). ⊎_elim
            (λ (gt : i < k). apart (λ e. omega arith))
            (λ (le : k ≤ i).
            let e : k ≡ i = omega arith in
            let same : slice_get (set others i (line ∷ rest)) i ≡ Some lines =
            ap (slice_get (set others i (line ∷ rest))) (sym e) ∙ own in
            let source : Some t ≡ Some s = sym here ∙ ap (slice_get sources) e ∙ at in
            ap first_in (sym (element_set others i lines (line ∷ rest) same))
            ∙ sym has
            ∙ ap head (sym (some_is t s source)))
            (cases_lt i k))
            (cases_lt k i);
      }

  -- one line more goes before what comes
  before_more : (sources : List S) (lists : List (List ModelLine)) (front : List ModelLine) (i : ℕ) (s later : S)
      (line : ModelLine) (own : List ModelLine)
      → GoBefore head sources lists front → GoesFirst head sources i s line → slice_get lists i ≡ Some own
      → GoBefore head (set sources i later) (set lists i (own ++ line ∷ [])) (front ++ line ∷ [])
  before_more sources lists front i s later line own before goes at others begin =
      let count = begin.count in
      let wide = length-set sources i later in
      let within = slice_get_within sources i s goes.at in
      let found = element_at others i (omega arith) in
      let rest = found.0 in
      let more = set others i (line ∷ rest) in
      let back : set more i rest ≡ others = set-set others i (line ∷ rest) rest ∙ set_own others i rest found.1 in
      let there : slice_get more i ≡ Some (line ∷ rest) = element_put others i rest (line ∷ rest) found.1 in
      let begun = begin_before sources i s later line others rest goes.at goes.head_is begin found.1 in
      let first : merged_lists more ≡ line ∷ merged_lists others =
      goes.merged more rest begun there
      ∙ ap (λ (ls : List (List ModelLine)). line ∷ merged_lists ls) back in
      ap (λ (ls : List (List ModelLine)). merged_lists (each_joined (set lists i (own ++ line ∷ [])) ls)) (sym back)
      ∙ ap merged_lists (sym (joined_set lists more i own line rest at there))
      ∙ before more begun
      ∙ ap (λ (l : List ModelLine). front ++ l) first
      ∙ sym (append_assoc front (line ∷ []) (merged_lists others))

  none_before : (sources : List S) → GoBefore head sources (empties sources) []
  none_before sources others begin = ap merged_lists (joined_none sources others begin.count)

  -- at the end nothing comes
  all_before : (sources : List S) (lists : List (List ModelLine)) (front : List ModelLine)
      → length lists ≡ length sources → HaveEnded head sources → GoBefore head sources lists front
      → merged_lists lists ≡ front
  all_before sources lists front count ended before =
      ap merged_lists (sym (none_joined lists sources count))
      ∙ before (empties sources) record {
        count = count_of_empties sources;
        each = λ k s lines at here. ap first_in (is_empty sources k lines here) ∙ sym (ended k s at);
      }
      ∙ ap (λ (l : List ModelLine). front ++ l) (merged_empties sources)
      ∙ append-nil front

-- ---- the walk

module _ {S T : Type 0} (head : S → Option ModelLine) (passes : S → ModelLine → S → Type 0)
    (takes : T → ModelLine → T → Type 0) where
  -- a walk that has got so far
  pub record IsUnderway (olds : List S) (start : T) (news : List S) (now : T) : Type 0 where
    pub lists : List (List ModelLine)
    pub front : List ModelLine
    pub pass : AllPass passes olds lists news
    pub before : GoBefore head news lists front
    pub taken : TakesAll takes start front now

  pub walk_begins : (sources : List S) (start : T) → IsUnderway sources start sources start
  walk_begins sources start = record {
    lists = empties sources;
    front = [];
    pass = none_passed passes sources;
    before = none_before head sources;
    taken = refl;
  }

  pub walk_goes_on : (changes : S → ModelLine → S → Type 0)
      → ((s : S) (line : ModelLine) (t : S) → changes s line t → passes s line t)
      → (olds : List S) (start : T) (news : List S) (now : T) (after : List S) (later : T)
      → IsUnderway olds start news now → HasTaken head changes takes news now after later
      → IsUnderway olds start after later
  walk_goes_on changes does olds start news now after later so_far one =
      let more =
      pass_more passes olds so_far.lists news one.index one.source one.line one.later so_far.pass one.goes.at
      (does one.source one.line one.later one.changed) in
      subst (λ (ss : List S). IsUnderway olds start ss later) (sym one.new_is) record {
        lists = set so_far.lists one.index (more.0 ++ one.line ∷ []);
        front = so_far.front ++ one.line ∷ [];
        pass = more.2;
        before =
            before_more head news so_far.lists so_far.front one.index one.source one.later one.line more.0 so_far.before
            one.goes more.1;
        taken = takes_more takes start so_far.front now one.line later so_far.taken one.taken;
      }

  pub walk_ends : (olds : List S) (start : T) (news : List S) (now : T) → IsUnderway olds start news now
      → HaveEnded head news → WalksAll head passes takes olds start news now
  walk_ends olds start news now so_far ended = record {
    lists = so_far.lists;
    pass = so_far.pass;
    ended = ended;
    taken =
        subst (λ (lines : List ModelLine). TakesAll takes start lines now)
        (sym (all_before head news so_far.lists so_far.front
        (count_passed passes olds so_far.lists news so_far.pass) ended so_far.before))
        so_far.taken;
  }

  pub walk_stops : (stopped : S → Type 0) (changes : S → ModelLine → S → Type 0)
      → ((s : S) (line : ModelLine) (t : S) → changes s line t → stopped t)
      → (olds : List S) (start : T) (news : List S) (now : T) (after : List S) (later : T)
      → IsUnderway olds start news now → HasTaken head changes takes news now after later
      → WalksPart head passes stopped takes olds start after later
  walk_stops stopped changes does olds start news now after later so_far one = record {
    lists = so_far.lists;
    between = news;
    pass = so_far.pass;
    front = so_far.front ++ one.line ∷ [];
    taken = takes_more takes start so_far.front now one.line later so_far.taken one.taken;
    index = one.index;
    source = one.later;
    is_stopped = does one.source one.line one.later one.changed;
    news_are = one.new_is;
    first = λ others begin.
        let within = slice_get_within news one.index one.source one.goes.at in
        let count = begin.count in
        let found = element_at others one.index (omega arith) in
        let same = begin.each one.index one.source found.0 one.goes.at found.1 ∙ one.goes.head_is in
        let own = begins found.0 one.line same in (
          merged_lists (set others one.index (drop 1 found.0)),
          so_far.before others begin
              ∙ ap (λ (l : List ModelLine). so_far.front ++ l)
              (one.goes.merged others (drop 1 found.0) begin
              (found.1 ∙ ap (λ (ls : List ModelLine). Some ls) own))
              ∙ sym (append_assoc so_far.front (one.line ∷ [])
              (merged_lists (set others one.index (drop 1 found.0)))),
        );
  }

-- a walk has fewer turns left after each
pub walk_goes_down : {S T : Type 0} (head : S → Option ModelLine) (turns : S → ℕ) (changes : S → ModelLine → S → Type 0)
    (takes : T → ModelLine → T → Type 0)
    → ((s : S) (line : ModelLine) (t : S) → changes s line t → turns t < turns s)
    → (news : List S) (now : T) (after : List S) (later : T) → HasTaken head changes takes news now after later
    → turns_of turns after < turns_of turns news
walk_goes_down head turns changes takes does news now after later one =
    subst (λ (ss : List _). turns_of turns ss < turns_of turns news) (sym one.new_is)
    (turns_less turns news one.index one.source one.later one.goes.at
    (does one.source one.line one.later one.changed))

-- ---- one step

pub on_err : {A E : Type 0} (r : Result A E) (P : Type 0) → P → OnErr r P
on_err (Ok a) P p = tt
on_err (Err e) P p = p

-- the line that was at hand was taken, and its source changed
pub taken_turned : {S T : Type 0} (head : S → Option ModelLine) (changes : S → ModelLine → S → Type 0)
    (takes : T → ModelLine → T → Type 0) (old new : List S) (start finish : T) (source : S) (line : ModelLine)
    → IsAtTurn head old source → Some line ≡ head source → takes start line finish → HasTurned head changes old new
    → HasTaken head changes takes old start new finish
taken_turned head changes takes old new start finish source line turn has taken turned = record {
  index = turned.index;
  source = turned.source;
  line = turned.line;
  goes = turned.goes;
  later = turned.later;
  changed = turned.changed;
  new_is = turned.new_is;
  taken =
      subst (λ (l : ModelLine). takes start l finish)
      (some_is line turn.line (has ∙ turn.goes.head_is)
      ∙ same_first head old turn.index turned.index source turned.source turn.line turned.line turn.goes turned.goes)
      taken;
}

-- so it is if nothing else can be
pub taken_first : {S T : Type 0} (head : S → Option ModelLine) (changes : S → ModelLine → S → Type 0)
    (takes : T → ModelLine → T → Type 0) (old new : List S) (start finish : T) (source : S) (line : ModelLine)
    → IsAtTurn head old source → Some line ≡ head source → takes start line finish
    → ((HaveEnded head old × (new ≡ old)) ⊎ HasTurned head changes old new)
    → HasTaken head changes takes old start new finish
taken_first head changes takes old new start finish source line turn has taken either = ⊎_elim
    (λ (ended : HaveEnded head old × (new ≡ old)).
    absurd (none-some line (sym (has ∙ ended.0 turn.index source turn.goes.at))))
    (λ (turned : HasTurned head changes old new).
    taken_turned head changes takes old new start finish source line turn has taken turned)
    either

-- a source at turn has a line
pub has_line : {S : Type 0} (head : S → Option ModelLine) (sources : List S) (source : S) → IsAtTurn head sources source
    → None ≡ head source → ⊥
has_line head sources source turn none = none-some turn.line (none ∙ turn.goes.head_is)
