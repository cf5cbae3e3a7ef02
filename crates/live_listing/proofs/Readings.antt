-- What happens is a reading.
use Rattle.std.proofs.Common.{◌≡◌, ◌≢◌, ◌==◌, ℕ, ◌<◌, Bool, true, false, List, [], ◌∷◌, ◌++◌, length, map, slice_set}
use Rattle.std.proofs.Common.{refl, sym, ap, ap₂, ◌∙◌, subst, ⊎_elim}
use Rattle.std.specs.Prelude.{cond}
use Rattle.std.proofs.lemmas.Bool.Decides.{eqb_tells}
use Rattle.std.proofs.lemmas.Bool.{eq-eqb}
use Rattle.std.proofs.lemmas.List.{map-append, get_or-set_same, get_or-set_other, get_or-replicate}
use Rattle.std.proofs.lemmas.List.Elements.{filter-append}
use Rattle.trace_model.specs.declared.limits.TheConstants.{MAX_CPUS}
use Rattle.line_follower.specs.declared.lines.Line.{Line}
use Rattle.line_follower.specs.declared.lines.Said.{Said}
use Rattle.line_follower.specs.Known.{Event, page, quiet, ended}
use Rattle.line_follower.specs.Runs.{IsRun, IsReading, all_read, events_of, given_in}
use Rattle.line_follower.proofs.Runs.{all_is_followed}
use Rattle.capture.specs.Pages.{Page}
use Rattle.live_listing.specs.declared.pages.Content.{Content}
use Rattle.live_listing.specs.Pages.{Reached, ReadRecord, nothing_reached, reached_with, reached_by, records_read}
use Rattle.live_listing.specs.Pages.{records_of_pages, line_read, AreLinesOf}
use Rattle.live_listing.specs.Live.{Live, Happening, page_read, was_quiet, has_ended, reached_of, nothing_live, Run}
use Rattle.live_listing.specs.Live.{GivesRest}
use Rattle.live_listing.specs.Readings.{AreEvents, AreRead, pages_of, lines_of, IsReadingOf}

-- ---- the lines of one CPU

abbrev cpu_of_first : List (ℕ × ReadRecord) → ℕ
cpu_of_first [] = 0
cpu_of_first (pair ∷ pairs) = pair.0

abbrev behind_first : List (ℕ × ReadRecord) → List (ℕ × ReadRecord)
behind_first [] = []
behind_first (pair ∷ pairs) = pairs

-- the lines of a CPU's records are all of this CPU
all_own : (cpu : ℕ) (lines : List (Line Content)) (records : List ReadRecord) → AreLinesOf cpu lines records
    → lines_of cpu lines ≡ lines
all_own cpu [] records are = refl
all_own cpu (line ∷ lines) [] are = absurd (let no : line_read line ∷ map line_read lines ≡ [] = are in cc)
all_own cpu (line ∷ lines) (r ∷ records) are =
    let own : line.place.cpu.0 ≡ cpu = ap cpu_of_first are in
    ap (λ (is : Bool). cond is (line ∷ lines_of cpu lines) (lines_of cpu lines)) (eq-eqb line.place.cpu.0 cpu own)
    ∙ ap (λ (ls : List (Line Content)). line ∷ ls) (all_own cpu lines records (ap behind_first are))

-- and none is of another one
none_own : (other cpu : ℕ) (lines : List (Line Content)) (records : List ReadRecord) → (cpu == other) ≡ false
    → AreLinesOf cpu lines records
    → lines_of other lines ≡ []
none_own other cpu [] records differ are = refl
none_own other cpu (line ∷ lines) [] differ are =
    absurd (let no : line_read line ∷ map line_read lines ≡ [] = are in cc)
none_own other cpu (line ∷ lines) (r ∷ records) differ are =
    let own : line.place.cpu.0 ≡ cpu = ap cpu_of_first are in
    ap (λ (is : Bool). cond is (line ∷ lines_of other lines) (lines_of other lines))
    (ap (λ (n : ℕ). n == other) own ∙ differ)
    ∙ none_own other cpu lines records differ (ap behind_first are)

-- ---- one page

-- a page of a CPU is read, and then others
record PageRead (cpu : ℕ) (value : Page) (lines : List (Line Content)) (old between : List Reached) : Type 0 where
  there : cpu < length old
  are_lines : AreLinesOf cpu lines (records_read (reached_of old cpu) value)
  reached_is : between ≡ slice_set old cpu (reached_with (reached_of old cpu) value)

-- this is said of a CPU: its lines are those of its pages, from `old` on, and it is read up to `new`
record IsOfPages (cpu : ℕ) (old new : List Reached) (lines : List (Line Content)) (pages : List (ℕ × Page)) : Type 0
  where
    lines_are : AreLinesOf cpu (lines_of cpu lines) (records_of_pages (reached_of old cpu) (pages_of cpu pages))
    reached_are : reached_of new cpu ≡ reached_by (reached_of old cpu) (pages_of cpu pages)

own_page : (cpu : ℕ) (value : Page) (lines others : List (Line Content)) (pages : List (ℕ × Page))
    (old between new : List Reached)
    → PageRead cpu value lines old between
    → IsOfPages cpu between new others pages
    → IsOfPages cpu old new (lines ++ others) ((cpu, value) ∷ pages)
own_page cpu value lines others pages old between new read rest =
    let pair : ReadRecord → ℕ × ReadRecord = λ r. (cpu, r) in
    let before = reached_of old cpu in
    let behind = reached_with before value in
    let more : pages_of cpu ((cpu, value) ∷ pages) ≡ value ∷ pages_of cpu pages =
    ap (λ (is : Bool). cond is (value ∷ pages_of cpu pages) (pages_of cpu pages)) (eq-eqb cpu cpu refl) in
    let own : lines_of cpu (lines ++ others) ≡ lines ++ lines_of cpu others =
    filter-append (λ (line : Line Content). line.place.cpu.0 == cpu) lines others
    ∙ ap (λ (ls : List (Line Content)). ls ++ lines_of cpu others) (all_own cpu lines _ read.are_lines) in
    let at : reached_of between cpu ≡ behind =
    ap (λ (cpus : List Reached). reached_of cpus cpu) read.reached_is
    ∙ get_or-set_same old cpu behind nothing_reached read.there in
    let are : AreLinesOf cpu (lines_of cpu others) (records_of_pages behind (pages_of cpu pages)) =
    subst (λ (r : Reached). AreLinesOf cpu (lines_of cpu others) (records_of_pages r (pages_of cpu pages))) at
    rest.lines_are in
    record {
      lines_are = ap (map line_read) own
          ∙ map-append line_read lines (lines_of cpu others)
          ∙ ap₂ (λ (front back : List (ℕ × ReadRecord)). front ++ back) read.are_lines are
          ∙ sym (map-append pair (records_read before value) (records_of_pages behind (pages_of cpu pages)))
          ∙ ap (λ (ps : List Page). map pair (records_of_pages before ps)) (sym more);
      reached_are = rest.reached_are
          ∙ ap (λ (r : Reached). reached_by r (pages_of cpu pages)) at
          ∙ ap (λ (ps : List Page). reached_by before ps) (sym more);
    }

other_page : (other cpu : ℕ) (value : Page) (lines others : List (Line Content)) (pages : List (ℕ × Page))
    (old between new : List Reached) → (cpu == other) ≡ false → other ≢ cpu
    → PageRead cpu value lines old between
    → IsOfPages other between new others pages
    → IsOfPages other old new (lines ++ others) ((cpu, value) ∷ pages)
other_page other cpu value lines others pages old between new differ differs read rest =
    let pair : ReadRecord → ℕ × ReadRecord = λ r. (other, r) in
    let before = reached_of old other in
    let none : pages_of other ((cpu, value) ∷ pages) ≡ pages_of other pages =
    ap (λ (is : Bool). cond is (value ∷ pages_of other pages) (pages_of other pages)) differ in
    let own : lines_of other (lines ++ others) ≡ lines_of other others =
    filter-append (λ (line : Line Content). line.place.cpu.0 == other) lines others
    ∙ ap (λ (ls : List (Line Content)). ls ++ lines_of other others) (none_own other cpu lines _ differ read.are_lines)
    in
    let at : reached_of between other ≡ before =
    ap (λ (cpus : List Reached). reached_of cpus other) read.reached_is
    ∙ get_or-set_other old cpu other (reached_with (reached_of old cpu) value) nothing_reached differs in
    record {
      lines_are = ap (map line_read) own
          ∙ rest.lines_are
          ∙ ap (λ (r : Reached). map pair (records_of_pages r (pages_of other pages))) at
          ∙ ap (λ (ps : List Page). map pair (records_of_pages before ps)) (sym none);
      reached_are = rest.reached_are
          ∙ ap (λ (r : Reached). reached_by r (pages_of other pages)) at
          ∙ ap (λ (ps : List Page). reached_by before ps) (sym none);
    }

any_page : (c cpu : ℕ) (value : Page) (lines others : List (Line Content)) (pages : List (ℕ × Page))
    (old between new : List Reached)
    → PageRead cpu value lines old between
    → IsOfPages c between new others pages
    → IsOfPages c old new (lines ++ others) ((cpu, value) ∷ pages)
any_page c cpu value lines others pages old between new read rest =
    ⊎_elim
    (λ (same : ((cpu == c) ≡ true) × (cpu ≡ c)).
    subst (λ (n : ℕ). IsOfPages n old new (lines ++ others) ((cpu, value) ∷ pages)) same.1
    (own_page cpu value lines others pages old between new read
    (subst (λ (n : ℕ). IsOfPages n between new others pages) (sym same.1) rest)))
    (λ (differ : ((cpu == c) ≡ false) × (cpu ≢ c)).
    other_page c cpu value lines others pages old between new differ.0 (λ is. differ.1 (sym is)) read rest)
    (eqb_tells cpu c)

-- ---- all that happens

record Read (old : Live) (happened : List Happening) (given : List (Said Content)) (new : Live) : Type 0 where
  steps : List (Event Content × List (Said Content))
  events_are : AreEvents happened (events_of steps)
  given_are : given_in steps ≡ given
  run : IsRun old.following steps new.following
  pages : List (ℕ × Page)
  are_read : AreRead happened pages
  of_pages : (cpu : ℕ) → IsOfPages cpu old.cpus new.cpus (all_read (events_of steps)) pages

same_cpus : (c : ℕ) (old between new : List Reached) (lines : List (Line Content)) (pages : List (ℕ × Page))
    → between ≡ old
    → IsOfPages c between new lines pages
    → IsOfPages c old new lines pages
same_cpus c old between new lines pages same rest =
    subst (λ (cpus : List Reached). IsOfPages c cpus new lines pages) same rest

read_all : (old new : Live) (happened : List Happening) (given : List (Said Content)) → Run old happened given new
    → Read old happened given new
read_all old new [] given (same, none) = record {
  steps = [];
  events_are = refl;
  given_are = sym none;
  run = ap (λ (live : Live). live.following) same;
  pages = [];
  are_read = refl;
  of_pages = λ c. record {
    lines_are = refl;
    reached_are = sym (ap (λ (live : Live). reached_of live.cpus c) same);
  };
}
read_all old new (page_read cpu bytes ∷ others) given (between, said, rest, step, run, all) =
    let tail = read_all between new others rest run in
    let event : Event Content = page cpu step.lines in
    record {
      steps = (event, said) ∷ tail.steps;
      events_are = (event, events_of tail.steps, (step.lines, refl), tail.events_are, refl);
      given_are = ap (λ (back : List (Said Content)). said ++ back) tail.given_are ∙ sym all;
      run = (between.following, step.follows, tail.run);
      pages = (cpu, step.value) ∷ tail.pages;
      are_read = (step.value, tail.pages, step.is_page, tail.are_read, refl);
      of_pages = λ c.
          any_page c cpu step.value step.lines (all_read (events_of tail.steps)) tail.pages old.cpus between.cpus
          new.cpus (record { there = step.there; are_lines = step.are_lines; reached_is = step.reached_is })
          (tail.of_pages c);
    }
read_all old new (was_quiet cpu ∷ others) given (between, said, rest, step, run, all) =
    let tail = read_all between new others rest run in
    let event : Event Content = quiet cpu in
    record {
      steps = (event, said) ∷ tail.steps;
      events_are = (event, events_of tail.steps, refl, tail.events_are, refl);
      given_are = ap (λ (back : List (Said Content)). said ++ back) tail.given_are ∙ sym all;
      run = (between.following, step.follows, tail.run);
      pages = tail.pages;
      are_read = tail.are_read;
      of_pages = λ c. same_cpus c old.cpus between.cpus new.cpus _ _ step.same (tail.of_pages c);
    }
read_all old new (has_ended cpu ∷ others) given (between, said, rest, step, run, all) =
    let tail = read_all between new others rest run in
    let event : Event Content = ended cpu in
    record {
      steps = (event, said) ∷ tail.steps;
      events_are = (event, events_of tail.steps, refl, tail.events_are, refl);
      given_are = ap (λ (back : List (Said Content)). said ++ back) tail.given_are ∙ sym all;
      run = (between.following, step.follows, tail.run);
      pages = tail.pages;
      are_read = tail.are_read;
      of_pages = λ c. same_cpus c old.cpus between.cpus new.cpus _ _ step.same (tail.of_pages c);
    }

pub reading_of : (happened : List Happening) (given rest : List (Said Content)) (live last : Live)
    → Run nothing_live happened given live
    → GivesRest live rest last
    → IsReadingOf happened given rest last.cpus
reading_of happened given rest live last run gives_rest =
    let all = read_all nothing_live live happened given run in
    let start : (cpu : ℕ) → cpu < MAX_CPUS → reached_of nothing_live.cpus cpu ≡ nothing_reached =
    λ cpu below. get_or-replicate MAX_CPUS cpu nothing_reached nothing_reached below in
    let is_reading : IsReading MAX_CPUS all.steps rest = record {
      end = live.following;
      run = all.run;
      left = last.following;
      gives = gives_rest.gives;
      none = gives_rest.none;
    } in
    record {
      steps = all.steps;
      events_are = all.events_are;
      given_are = all.given_are;
      followed = all_is_followed MAX_CPUS all.steps rest is_reading;
      pages = all.pages;
      are_read = all.are_read;
      lines_are = λ cpu below.
          subst (λ (r : Reached). AreLinesOf cpu (lines_of cpu (all_read (events_of all.steps)))
          (records_of_pages r (pages_of cpu all.pages))) (start cpu below) (all.of_pages cpu).lines_are;
      reached_are = λ cpu below.
          ap (λ (cpus : List Reached). reached_of cpus cpu) gives_rest.same
          ∙ (all.of_pages cpu).reached_are
          ∙ ap (λ (r : Reached). reached_by r (pages_of cpu all.pages)) (start cpu below);
    }
