use Rattle.std.proofs.Common.{[], ◌∷◌, ◌++◌}
use Rattle.text_values.proofs.Chains.{put_as}
use Rattle.capture_text.proofs.Plain.{stretch_less, stretch_escaped}
use Rattle.capture_text.proofs.quoting.put_escaped_text.Goals as goal

pub loop-byte-preserved : goal.loop-byte-preserved
loop-byte-preserved g c =
    let before = c.loop-byte.invariant in
    let plain = c.split_at.result.0.now in
    let byte = c.in-Some.byte.now in (
      (before.0 ++ plain) ++ byte ∷ [],
      stretch_less before.0 plain c.split_at.result.1.now c.in-Some.more.now c.loop-byte.rest.now _ byte
          c.split_at.ensures.by_index.0 c.in-Some.ensures.cases.0 before.1,
      λ start text has. put_as start _ _ c.put_escaped.new.out
          (stretch_escaped c.args.is_text text before.0 plain byte
          (rw c.split_at.ensures.front c.plain_length.ensures.plain))
          (c.put_escaped.ensures start _ (c.put.ensures start _ (before.2 start text has))),
    )
