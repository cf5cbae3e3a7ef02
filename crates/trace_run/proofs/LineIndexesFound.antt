-- The lists of indexes, one line after the other.
use Rattle.std.proofs.Common.{◌≡◌, ℕ, ◌+◌, ◌<◌, Bool, true, false, List, [], ◌∷◌, ◌++◌, take, Some, None, refl, sym, ap}
use Rattle.std.proofs.Common.{◌∙◌, subst, append-nil}
use Rattle.std.specs.Prelude.{if◌then◌else◌, nat_eq, slice_set}
use Rattle.std.specs.List.{slice_get, AllZip}
use Rattle.std.proofs.lemmas.Bool.{eq-eqb, ne_eqb}
use Rattle.std.proofs.lemmas.List.{take_more}
use Rattle.std.proofs.lemmas.Option.{slice_get_within, get_or_from_slice_get}
use Rattle.std.proofs.lemmas.Slice.Zip.{all_zipped_more}
use mathlib.Core.Logic.{dite}
use native.Mathlib.Decide.{ℕ_discrete}
use Rattle.trace_model.specs.declared.numbers.CpuId.{CpuId}
use Rattle.trace_model.proofs.collections.Elements.{some_is}
use Rattle.text_model.specs.Script.{Command, begin_frame, step_frame, finish_frame, write, close, step_reader}
use Rattle.text_model.specs.Script.{take_page, wish, deliver}
use Rattle.text_model.specs.ScriptLimits.{IsCommandWithin}
use Rattle.world_model.proofs.Lookups.{get_set_here, get_set_other}
use Rattle.line_model.specs.Lines.{writer_line, writer_lines}
use Rattle.line_model.specs.ReplayedLines.{commands_of}
use Rattle.trace_run.specs.writers.Obeying.{IsLineAt}
use Rattle.trace_run.specs.writers.LineIndexes.{IsWriterOf, AreIndexed}

-- ---- whose line it is

own_cpu : (at of : ℕ) → ((cpu : ℕ) → nat_eq at cpu ≡ nat_eq of cpu) → at ≡ of
own_cpu at of same = dite (ℕ_discrete at of) (λ e. e)
    (λ ne. absurd (let truth : false ≡ true = sym (ne_eqb at of ne) ∙ same of ∙ eq-eqb of of refl in cc))

of_none : (of : ℕ) → ((cpu : ℕ) → false ≡ nat_eq of cpu) → ⊥
of_none of same = let truth : false ≡ true = same of ∙ eq-eqb of of refl in cc

pub cpu_within : (cpus collectors : ℕ) (command : Command) (of : CpuId)
    → IsWriterOf command (Some of)
    → IsCommandWithin cpus collectors command
    → of.0 < cpus
cpu_within cpus collectors (begin_frame at moment payload) of is within =
    subst (λ (k : ℕ). k < cpus) (own_cpu at of.0 is) within.0
cpu_within cpus collectors (step_frame at count) of is within =
    subst (λ (k : ℕ). k < cpus) (own_cpu at of.0 is) within.0
cpu_within cpus collectors (finish_frame at) of is within = subst (λ (k : ℕ). k < cpus) (own_cpu at of.0 is) within
cpu_within cpus collectors (write at moment payload) of is within =
    subst (λ (k : ℕ). k < cpus) (own_cpu at of.0 is) within.0
cpu_within cpus collectors (close at) of is within = subst (λ (k : ℕ). k < cpus) (own_cpu at of.0 is) within
cpu_within cpus collectors (step_reader at count) of is within = absurd (of_none of.0 is)
cpu_within cpus collectors (take_page at) of is within = absurd (of_none of.0 is)
cpu_within cpus collectors (wish at) of is within = absurd (of_none of.0 is)
cpu_within cpus collectors (deliver collector at fill) of is within = absurd (of_none of.0 is)

-- ---- one line more

in_front : (b : Bool) (x : Command) (xs ys zs : List Command)
    → xs ≡ ys ++ zs
    → (if b then x ∷ xs else xs) ≡ (if b then x ∷ ys else ys) ++ zs
in_front true x xs ys zs e = ap (λ (l : List Command). x ∷ l) e
in_front false x xs ys zs e = e

abbrev own : (cpu : ℕ) → Command → List Command
own cpu command = if writer_line cpu command then command ∷ [] else []

lines_behind : (cpu : ℕ) (lines : List (ℕ × Command)) (line : ℕ × Command)
    → writer_lines cpu (commands_of (lines ++ line ∷ [])) ≡ writer_lines cpu (commands_of lines) ++ own cpu line.1
lines_behind cpu [] line = refl
lines_behind cpu (first ∷ lines) line =
    in_front (writer_line cpu first.1) first.1 (writer_lines cpu (commands_of (lines ++ line ∷ [])))
    (writer_lines cpu (commands_of lines)) (own cpu line.1) (lines_behind cpu lines line)

module _ (commands : List (ℕ × Command)) (index : ℕ) (line : ℕ × Command) (at : slice_get commands index ≡ Some line)
  where
    front : take (index + 1) commands ≡ take index commands ++ line ∷ []
    front = take_more commands index line (slice_get_within commands index line at)
        ∙ ap (λ (l : ℕ × Command). take index commands ++ l ∷ []) (get_or_from_slice_get commands index line line at)

    abbrev Lines : ℕ → List Command
    Lines cpu = writer_lines cpu (commands_of (take index commands))

    abbrev More : ℕ → List Command
    More cpu = writer_lines cpu (commands_of (take (index + 1) commands))

    more_is : (cpu : ℕ) → More cpu ≡ Lines cpu ++ own cpu line.1
    more_is cpu =
        ap (λ (l : List (ℕ × Command)). writer_lines cpu (commands_of l)) front
        ∙ lines_behind cpu (take index commands) line

    -- no line of this CPU's writer
    stays : (cpu : ℕ) (indexes : List ℕ)
        → writer_line cpu line.1 ≡ false
        → AllZip (IsLineAt commands) indexes (Lines cpu)
        → AllZip (IsLineAt commands) indexes (More cpu)
    stays cpu indexes not are =
        let same : More cpu ≡ Lines cpu = more_is cpu
        ∙ ap (λ (b : Bool). Lines cpu ++ (if b then line.1 ∷ [] else [])) not
        ∙ append-nil (Lines cpu) in
        subst (AllZip (IsLineAt commands) indexes) (sym same) are

    -- a line of it
    grows : (cpu : ℕ) (indexes : List ℕ)
        → writer_line cpu line.1 ≡ true
        → AllZip (IsLineAt commands) indexes (Lines cpu)
        → AllZip (IsLineAt commands) (indexes ++ index ∷ []) (More cpu)
    grows cpu indexes is are =
        let next : More cpu ≡ Lines cpu ++ line.1 ∷ [] = more_is cpu
        ∙ ap (λ (b : Bool). Lines cpu ++ (if b then line.1 ∷ [] else [])) is in
        subst (AllZip (IsLineAt commands) (indexes ++ index ∷ [])) (sym next)
        (all_zipped_more (IsLineAt commands) indexes (Lines cpu) index line.1 are (line.0, at))

    pub none_more : (lists : List (List ℕ))
        → IsWriterOf line.1 None
        → AreIndexed commands index lists
        → AreIndexed commands (index + 1) lists
    none_more lists of are = λ cpu indexes here. stays cpu indexes (of cpu) (are cpu indexes here)

    pub one_more : (lists : List (List ℕ)) (of : CpuId) (old new : List ℕ)
        → IsWriterOf line.1 (Some of)
        → slice_get lists of.0 ≡ Some old
        → new ≡ old ++ index ∷ []
        → AreIndexed commands index lists
        → AreIndexed commands (index + 1) (slice_set lists of.0 new)
    one_more lists of old new is there more are = λ cpu indexes here. dite (ℕ_discrete cpu of.0)
        (λ e. let now : new ≡ indexes = some_is new indexes
        (sym (get_set_here lists of.0 new (slice_get_within lists of.0 old there))
        ∙ subst (λ (k : ℕ). slice_get (slice_set lists of.0 new) k ≡ Some indexes) e here) in
        subst (λ (l : List ℕ). AllZip (IsLineAt commands) l (More cpu)) (sym more ∙ now)
        (grows cpu old (is cpu ∙ eq-eqb of.0 cpu (sym e))
        (are cpu old (ap (slice_get lists) e ∙ there))))
        (λ ne. stays cpu indexes (is cpu ∙ ne_eqb of.0 cpu (λ e. ne (sym e)))
        (are cpu indexes (sym (get_set_other lists of.0 cpu new ne) ∙ here)))
