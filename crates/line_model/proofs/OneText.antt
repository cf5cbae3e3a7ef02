-- What is printed of a script whose lines ask for no single steps, without a log, is one text.
use Rattle.std.proofs.Common.{◌≡◌, ℕ, suc, ◌+◌, ◌<◌, ◌≤◌, false, List, [], ◌∷◌, ◌++◌, length, flat_map, Some, Contains}
use Rattle.std.proofs.Common.{refl, sym, ap, ◌∙◌, subst, arith}
use Rattle.std.specs.Prelude.{slice_index_or}
use Rattle.std.specs.List.{slice_get, AllZip, enumerate_from}
use Rattle.std.proofs.lemmas.Option.{slice_get_within, get_or_from_slice_get, slice_get-get_or}
use Rattle.trace_model.specs.History.{committed_records}
use Rattle.trace_model.specs.Window.{RingEvent, history_events_of}
use Rattle.trace_model.specs.Listing.{Line}
use Rattle.trace_model.proofs.collections.Listings.{Stands, same_lines}
use Rattle.ring_model.specs.RunsAsEvents.{fills_taken}
use Rattle.text_model.specs.Script.{Command, deliver, Script}
use Rattle.text_model.specs.ScriptLimits.{IsCommandWithin, IsWithinLimits}
use Rattle.world_model.specs.GenuineWorlds.{StandsIn, IsOverwrittenBefore}
use Rattle.world_model.specs.Printing.{Shown, printed_missing, printed_collector}
use Rattle.world_model.proofs.OneRuns.{one_runs, one_runs_text}
use Rattle.line_model.specs.Accounts.{CpuState}
use Rattle.line_model.specs.Shown.{IsShownOf, IsAccounted}
use Rattle.line_model.specs.WholeScripts.{HasWholeLines, OneText}
use Rattle.line_model.proofs.OneAccount.{one_account}

-- ---- lines in the order of time are decided by which they are

stands : (lines : List Line) (line : Line) → Contains lines line → Stands lines line
stands lines line (k, within, at) = (k, slice_get-get_or lines k line within ∙ ap Some at)

contains : (lines : List Line) (line : Line) (k : ℕ) → slice_get lines k ≡ Some line → Contains lines line
contains lines line k at = (k, slice_get_within lines k line at, get_or_from_slice_get lines k line line at)

-- ---- a collector

-- The fills of the one are fills of the other, and the same was done to their CPUs.
Covers : (events others : ℕ → List RingEvent) (fills more : List (ℕ × ℕ)) → Type 0
Covers events others fills more = (cpu fill : ℕ)
    → Contains fills (cpu, fill)
    → Contains more (cpu, fill) × (events cpu ≡ others cpu)

-- the numbers of a CPU that are shown to be missing
abbrev IsMissed : (start : ℕ) (events : ℕ → List RingEvent) (fills : List (ℕ × ℕ)) (cpu number : ℕ) → Type 0
IsMissed start events fills cpu number = (fill : ℕ)
    × Contains fills (cpu, fill)
    × IsOverwrittenBefore start (events cpu) fill number

-- what the one shows, the other shows
lines_below : (start : ℕ) (events others : ℕ → List RingEvent) (fills more : List (ℕ × ℕ)) (shown other : Shown)
    → Covers events others fills more
    → IsShownOf start events fills shown
    → IsShownOf start others more other
    → (k : ℕ) (line : Line)
    → slice_get shown.lines k ≡ Some line
    → Stands other.lines line
unfolding Covers
lines_below start events others fills more shown other covers s o k line at =
    let (read, fill, has, stood) = (s.lines line).0 (contains shown.lines line k at) in
    let (also, same) = covers line.cpu fill has in
    stands other.lines line ((o.lines line).1 (
      subst (λ (l : List RingEvent). slice_get (committed_records (history_events_of l)) line.number
          ≡ Some record { moment = line.moment; bytes = line.bytes }) same read,
      fill,
      also,
      subst (λ (l : List RingEvent). StandsIn (history_events_of l) start fill line.number) same stood,
    ))

missed_below : (start : ℕ) (events others : ℕ → List RingEvent) (fills more : List (ℕ × ℕ)) (cpu number : ℕ)
    → Covers events others fills more
    → IsMissed start events fills cpu number
    → IsMissed start others more cpu number
unfolding Covers
missed_below start events others fills more cpu number covers (fill, has, lost) =
    let (also, same) = covers cpu fill has in (
      fill,
      also,
      subst (λ (l : List RingEvent). IsOverwrittenBefore start l fill number) same lost,
    )

-- two collectors of the same fills have one text
one_collector : (start : ℕ) (events others : ℕ → List RingEvent) (fills more : List (ℕ × ℕ)) (shown other : Shown)
    (number : ℕ)
    → Covers events others fills more
    → Covers others events more fills
    → IsShownOf start events fills shown
    → IsShownOf start others more other
    → printed_collector number shown ≡ printed_collector number other
one_collector start events others fills more shown other number there back s o =
    let lines : shown.lines ≡ other.lines = same_lines shown.lines other.lines s.ordered o.ordered
    (lines_below start events others fills more shown other there s o)
    (lines_below start others events more fills other shown back o s) in
    let runs : (cpu : ℕ) → slice_index_or shown.runs cpu [] ≡ slice_index_or other.runs cpu [] = λ cpu.
    one_runs (IsMissed start events fills cpu) (slice_index_or shown.runs cpu []) (slice_index_or other.runs cpu [])
    (s.missing cpu)
    record {
      forward = (o.missing cpu).forward;
      apart = (o.missing cpu).apart;
      of_them = λ n within. missed_below start others events more fills cpu n back ((o.missing cpu).of_them n within);
      whole = λ n missed. (o.missing cpu).whole n (missed_below start events others fills more cpu n there missed);
    } in
    let text = one_runs_text printed_missing 0 shown.runs other.runs runs in
    rw (lines, text) refl

-- ---- all collectors

-- the text of collectors from this number on
abbrev text_of_all : ℕ → List Shown → List ℕ
text_of_all number shown =
    flat_map (λ (pair : ℕ × Shown). printed_collector pair.0 pair.1) (enumerate_from number shown)

module _ (start : ℕ) (events others : ℕ → List RingEvent) where
  one_text_of_all : (number : ℕ) (fills more : List (List (ℕ × ℕ))) (shown other : List Shown)
      → length fills ≡ length more
      → ((k : ℕ) (own their : List (ℕ × ℕ))
      → slice_get fills k ≡ Some own
      → slice_get more k ≡ Some their
      → Covers events others own their × Covers others events their own)
      → AllZip (IsShownOf start events) fills shown
      → AllZip (IsShownOf start others) more other
      → text_of_all number shown ≡ text_of_all number other
  one_text_of_all number [] [] [] [] lengths same each also = refl
  one_text_of_all number [] [] [] (o ∷ os) lengths same each also = absurd also
  one_text_of_all number [] [] (s ∷ ss) other lengths same each also = absurd each
  one_text_of_all number [] (m ∷ ms) shown other lengths same each also = absurd (omega arith)
  one_text_of_all number (f ∷ fs) [] shown other lengths same each also = absurd (omega arith)
  one_text_of_all number (f ∷ fs) (m ∷ ms) [] other lengths same each also = absurd each
  one_text_of_all number (f ∷ fs) (m ∷ ms) (s ∷ ss) [] lengths same each also = absurd also
  one_text_of_all number (f ∷ fs) (m ∷ ms) (s ∷ ss) (o ∷ os) lengths same each also =
      let (there, back) = same 0 f m refl refl in
      let first = one_collector start events others f m s o number there back each.0 also.0 in
      let rest = one_text_of_all (number + 1) fs ms ss os (omega arith) (λ k. same (suc k)) each.1 also.1 in
      ap (λ (text : List ℕ). text ++ text_of_all (number + 1) ss) first
      ∙ ap (λ (text : List ℕ). printed_collector number o ++ text) rest

-- ---- a script

-- the events of a CPU after all lines
abbrev all_events : {script : Script} {bytes : List ℕ} → IsAccounted script false bytes → ℕ → List RingEvent
all_events {script = script} a cpu = (a.states cpu (length script.commands)).events

-- the CPU of a fill that is delivered is one of the script
delivers_of : (script : Script) (k line collector cpu fill : ℕ)
    → IsWithinLimits script
    → slice_get script.commands k ≡ Some (line, deliver collector cpu fill)
    → cpu < script.cpus
delivers_of script k line collector cpu fill limits at =
    let it : ℕ × Command = (line, deliver collector cpu fill) in
    let within = limits.each_command k it (slice_get_within script.commands k it at) in
    (subst (λ (l : ℕ × Command). IsCommandWithin script.cpus script.collectors l.1)
    (get_or_from_slice_get script.commands k it it at) within).1

-- what is delivered to a collector in the one account is so in the other
delivers_same : (script : Script) (bytes others : List ℕ) (limits : IsWithinLimits script)
    (lines : HasWholeLines script) (a : IsAccounted script false bytes) (b : IsAccounted script false others)
    (collector : ℕ) (own their : List (ℕ × ℕ))
    → slice_get a.fills collector ≡ Some own
    → slice_get b.fills collector ≡ Some their
    → Covers (all_events a) (all_events b) own their
unfolding Covers
delivers_same script bytes others limits lines a b collector own their at there cpu fill has =
    let (k, line, command, taken) = (a.delivered collector cpu fill own at).0 has in
    let of : cpu < script.cpus = delivers_of script k line collector cpu fill limits command in
    let it : ℕ × Command = (line, deliver collector cpu fill) in
    let within : k < length script.commands = slice_get_within script.commands k it command in
    let same : (m : ℕ) → m ≤ length script.commands → a.states cpu m ≡ b.states cpu m =
    one_account script cpu (a.states cpu) (b.states cpu) limits lines (a.accounts cpu of) (b.accounts cpu of) in (
      (b.delivered collector cpu fill their there).1 (
        k,
        line,
        command,
        subst (λ (c : CpuState). Contains (fills_taken script.start c.events) fill) (same k (omega arith)) taken,
      ),
      ap (λ (state : CpuState). state.events) (same (length script.commands) (omega arith)),
    )

pub one_text : OneText
one_text script bytes others limits lines a b =
    a.printed
    ∙ one_text_of_all script.start (all_events a) (all_events b) 0 a.fills b.fills a.shown b.shown
    (a.collectors ∙ sym b.collectors)
    (λ k own their at there. (
      delivers_same script bytes others limits lines a b k own their at there,
      delivers_same script others bytes limits lines b a k their own there at,
    ))
    a.each b.each
    ∙ sym b.printed
