use Rattle.std.proofs.Common.{◌≡◌, refl, ℕ, ◌+◌, ◌<◌, List, length, Some, sym, ap, ◌∙◌, subst, arith, vec_len}
use Rattle.std.specs.Prelude.{Vec}
use Rattle.std.specs.declared.alloc.Global.{Global}
use Rattle.std.specs.List.{slice_get}
use Rattle.std.proofs.lemmas.Option.{slice_get_read}
use Rattle.text_model.specs.Script.{Command, Script}
use Rattle.text_model.specs.ScriptLimits.{IsCommandWithin, IsWithinLimits}
use Rattle.trace_script.specs.ScriptTypes.{shown_command, shown_line}
use Rattle.trace_script.specs.declared.command.ScriptLine.{ScriptLine}
use Rattle.trace_model.specs.declared.numbers.CpuId.{CpuId}
use Rattle.trace_run.specs.writers.LineIndexes.{IsWriterOf, AreIndexed}
use Rattle.trace_run.proofs.LinesMade.{element}
use Rattle.trace_run.proofs.LineIndexesFound.{cpu_within, none_more, one_more}
use Rattle.trace_run.proofs.writers.lines.lines_by_cpu.Goals as goal
use Rattle.trace_run.proofs.writers.lines.lines_by_cpu.Goals.{in-Some+in_ok-push, in_default}

line_at : (commands seen : List (ℕ × Command)) (line_index : ℕ) (line : ScriptLine)
    → seen ≡ commands
    → slice_get seen line_index ≡ Some (shown_line line)
    → slice_get commands line_index ≡ Some (shown_line line)
line_at commands seen line_index line same at = ap (λ (l : List (ℕ × Command)). slice_get l line_index) (sym same) ∙ at

low_cpu : (script : Script) (seen : List (ℕ × Command)) (line_index : ℕ) (line : ScriptLine) (of : CpuId)
    → IsWithinLimits script
    → seen ≡ script.commands
    → slice_get seen line_index ≡ Some (shown_line line)
    → IsWriterOf (shown_command line.command) (Some of)
    → of.0 < script.cpus
low_cpu script seen line_index line of limits same at is =
    cpu_within script.cpus script.collectors (shown_command line.command) of is
    (element (λ (l : ℕ × Command). IsCommandWithin script.cpus script.collectors l.1) script.commands line_index
    (shown_line line) limits.each_command (line_at script.commands seen line_index line same at))

pub index_mut-requires : goal.index_mut-requires
index_mut-requires c =
    let low =
    low_cpu c.args.script.now c.commands-commands.result.now c.loop-line_index.line_index c.line.result
    c.in-Some.cpu
    c.commands-commands.ensures.limits c.commands-commands.ensures.commands c.line.ensures c.in-Some.ensures in
    let count = c.loop-line_index.invariant.count in
    omega arith

pub loop-line_index-preserved : goal.loop-line_index-preserved
loop-line_index-preserved c =
    let script : Script = c.args.script.now in
    let seen = c.commands-commands.result.now in
    let line_index : ℕ = c.loop-line_index.line_index in
    let at =
    line_at script.commands seen line_index c.line.result c.commands-commands.ensures.commands c.line.ensures in
    let count = c.loop-line_index.invariant.count in
    let was = c.loop-line_index.invariant.placed in
    elim c.match-writer_of.branch [
      | in-Some+in_ok-push w ↦ record {
        count = ap (λ (v : Vec (List ℕ) Global). vec_len v) w.lists-is ∙ count;
        placed = subst (λ (v : Vec (List ℕ) Global). AreIndexed script.commands (line_index + 1) v.items)
            (sym w.lists-is)
            (one_more script.commands line_index (shown_line c.line.result) at c.loop-line_index.lists.items
            w.in-Some.cpu
            w.index_mut.result.now w.push.new.self w.in-Some.ensures
            (slice_get_read c.loop-line_index.lists.items (length c.loop-line_index.lists.items) w.in-Some.cpu.0
            w.index_mut.result.now refl
            (let low = low_cpu script seen line_index c.line.result w.in-Some.cpu c.commands-commands.ensures.limits
            c.commands-commands.ensures.commands c.line.ensures w.in-Some.ensures in
            let ok = c.loop-line_index.lists.ok in
            omega (arith, ok.0, ok.1))
            w.index_mut.ensures.value)
            w.in_ok-push.ensures.pushed was);
      }
      | in_default w ↦ record {
        count = ap (λ (v : Vec (List ℕ) Global). vec_len v) w.lists-is ∙ count;
        placed = subst (λ (v : Vec (List ℕ) Global). AreIndexed script.commands (line_index + 1) v.items)
            (sym w.lists-is)
            (none_more script.commands line_index (shown_line c.line.result) at c.loop-line_index.lists.items
            w.in_default.ensures
            was);
      }
    ]
