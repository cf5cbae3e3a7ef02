use Rattle.std.proofs.Common.{sym, ◌∙◌}
use Rattle.std.proofs.lemmas.Bool.{false≢true}
use Rattle.stream_collector.proofs.SameStreams.{all_is_same, same_on_own, same_back}
use Rattle.stream_collector.proofs.stream.StreamCollector.same.Goals as goal

pub returns-then-same_on_own : goal.returns-then-same_on_own
returns-then-same_on_own c =
    let s = c.args.self.now in
    let o = c.args.other.now in (
      λ e. all_is_same s o (c.same_on_own.ensures.0 c.if-same_on_own.true) (c.same_on_own-then-same_on_own.ensures.0 e),
      λ same. c.same_on_own-then-same_on_own.ensures.1 (same_on_own o s (same_back s o same)),
    )

pub returns-else-same_on_own : goal.returns-else-same_on_own
returns-else-same_on_own c = (
  λ e. absurd (false≢true (sym c.if-same_on_own.false ∙ e)),
  λ same. c.same_on_own.ensures.1 (same_on_own c.args.self.now c.args.other.now same),
)
