use Rattle.trace_script.proofs.PayloadLemmas.{put_then, pairs_then}
use Rattle.trace_script.proofs.payload.put_pairs.Goals as goal

pub returns : goal.returns
returns c =
    pairs_then c.put_each.result _ _ _ _ _
    (put_then _ _ _ _ _ _ c.put_many-behind_many.ensures
    (put_then _ _ _ _ _ _ c.put_eights-behind_eights.ensures c.put_fours-behind_fours.ensures)) c.put_each.ensures
