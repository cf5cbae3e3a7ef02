use Rattle.std.proofs.Common.{arith}
use Rattle.trace_dat.proofs.Resembling.{same_at, other_at}
use Rattle.trace_dat.proofs.read.places_differing.Goals as goal
use Rattle.trace_dat.proofs.read.places_differing.Goals.{then-file-at, then-file-at-via-then-file-at}
use Rattle.trace_dat.proofs.read.places_differing.Goals.{then-file-at-via-else-file-at+then-file-at-2}
use Rattle.trace_dat.proofs.read.places_differing.Goals.{else-file-at+else-file-at-2}

pub loop-at-preserved : goal.loop-at-preserved
loop-at-preserved c =
    let whole = c.loop-at.invariant.whole in
    let low = c.loop-at.invariant.low in
    elim c.if-file-at.branch [
      | then-file-at w ↦ (let other =
          other_at c.args.file.now c.args.word.now c.loop-at.at c.loop-at-test.true
          (elim w.then-file-at.branch [
            | then-file-at-via-then-file-at v ↦ λ inside. absurd (let past = v.if-file-at.true in omega
                (arith, inside, past))
            | then-file-at-via-else-file-at+then-file-at-2 v ↦ λ inside. v.if-file-at-2.true
          ]) in
          let count = w.count-is in
          record { whole = omega (arith, whole, other, count); low = omega (arith, low, count) })
      | else-file-at+else-file-at-2 w ↦ (let same =
          same_at c.args.file.now c.args.word.now c.loop-at.at c.loop-at-test.true w.if-file-at.false
          w.if-file-at-2.false in
          let count = w.count-is in
          record { whole = omega (arith, whole, same, count); low = omega (arith, low, count) })
    ]
