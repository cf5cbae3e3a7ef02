use Rattle.std.proofs.Common.{rules, arith, ℕ, List, take, sym, subst}
use Rattle.std.proofs.Math.Seq.{take-add}
use Rattle.std.proofs.lemmas.List.{take_rest}
use Rattle.std.proofs.lemmas.Grind.{common_steps}
use Rattle.std.specs.Io.KnownBytes.{Appends}
use Rattle.std.proofs.KnownBytes.{Appends-trans}
use Rattle.command_io.proofs.output.write_all.Goals as goal

pub loop-written-preserved : goal.loop-written-preserved
loop-written-preserved g c =
    let now = g.W.Sink.contents c.write.new.self in
    let more =
    subst (λ (rest : List ℕ). Appends (g.W.Sink.contents c.loop-written.writer) now (take c.in-Ok.count rest))
    (take_rest c.args.text.now c.loop-written.written) c.in-Ok.ensures.bytes in
    record {
      within = search rules;
      written =
          subst (Appends _ now) (sym (take-add c.loop-written.written c.in-Ok.count c.args.text.now))
          (Appends-trans _ _ _ _ _ c.loop-written.invariant.written more);
      sound = grind (arith, common_steps);
    }
