use Rattle.std.proofs.Common.{arith, ◌≡◌, ◌+◌, ◌≤◌, ◌++◌, Err, length, vec_len, take, subst, sym, ⊎_elim, length-append}
use Rattle.std.proofs.lemmas.Bool.{cases_lt}
use Rattle.trace_model.specs.declared.limits.TheConstants.{MAX_INPUT}
use Rattle.std.proofs.lemmas.Grind.{common_steps}
use Rattle.std.specs.Io.KnownBytes.{Consumes}
use Rattle.std.proofs.KnownBytes.{Consumes-trans}
use Rattle.command_io.specs.declared.input.InputFault.TheVariants.{TooLong, NoMemory}
use Rattle.command_io.proofs.Counted.{counted_past}
use Rattle.command_io.proofs.input.read_all.Goals as goal

-- what was read before and the chunk that went past the limit
pub returns-in_err-add_chunk-in-Ok-clause-too_long : goal.returns-in_err-add_chunk-in-Ok-clause-too_long
returns-in_err-add_chunk-in-Ok-clause-too_long g c = λ refused.
    let reported : c.add_chunk.result ≡ Err TooLong = grind (arith, common_steps) in
    let over = c.add_chunk.ensures.too_long.0 reported in
    let same : take c.in-Ok.count c.deref.result.now ≡ take c.in-Ok.count c.read.new.buf =
    grind (arith, common_steps) in
    let len = c.loop-text.text.ok.0 in (
      c.loop-text.text.items ++ take c.in-Ok.count c.deref.result.now,
      Consumes-trans _ _ _ _ _ c.loop-text.invariant.taken (subst (Consumes _ _) (sym same) c.in-Ok.ensures.bytes.0),
      simp length-append (omega arith),
      rw c.in-Ok.ensures.counts (counted_past MAX_INPUT (vec_len c.loop-text.text)
          (g.R.Source.count c.loop-text.reader) c.in-Ok.count c.deref.result.now (omega arith)
          c.loop-text.invariant.at_least over),
    )

-- what was read before and the chunk for which there was no room
pub returns-in_err-add_chunk-in-Ok-clause-no_memory : goal.returns-in_err-add_chunk-in-Ok-clause-no_memory
returns-in_err-add_chunk-in-Ok-clause-no_memory g c = λ refused.
    let reported : c.add_chunk.result ≡ Err NoMemory = grind (arith, common_steps) in
    let len = c.loop-text.text.ok.0 in
    let within : vec_len c.loop-text.text + length (take c.in-Ok.count c.deref.result.now) ≤ MAX_INPUT = ⊎_elim
    (λ over. absurd (let long : c.add_chunk.result ≡ Err TooLong = c.add_chunk.ensures.too_long.1 over in cc))
    (λ fits. fits)
    (cases_lt MAX_INPUT (vec_len c.loop-text.text + length (take c.in-Ok.count c.deref.result.now))) in
    let same : take c.in-Ok.count c.deref.result.now ≡ take c.in-Ok.count c.read.new.buf =
    grind (arith, common_steps) in (
      c.loop-text.text.items ++ take c.in-Ok.count c.deref.result.now,
      Consumes-trans _ _ _ _ _ c.loop-text.invariant.taken (subst (Consumes _ _) (sym same) c.in-Ok.ensures.bytes.0),
      simp length-append (omega arith),
    )
