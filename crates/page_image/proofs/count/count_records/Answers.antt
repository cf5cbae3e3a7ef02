use Rattle.std.proofs.Common.{[], arith}
use Rattle.page_image.proofs.Counting.{read-start, counted-whole, whole-all}
use Rattle.page_image.proofs.count.count_records.Goals as goal

pub loop-reached-init : goal.loop-reached-init
loop-reached-init c = (
  omega arith,
  omega arith,
  (
    [],
    read-start c.args.data.now c.args.time c.start-reached.result c.start-reached.ensures.at
        c.start-reached.ensures.moment c.start-reached.ensures.count,
  ),
)

pub returns-clause-reads : goal.returns-clause-reads
returns-clause-reads c =
    let read = c.loop-reached.invariant.2 in
    counted-whole c.args.data.now c.args.time read.0 c.loop-reached.reached read.1
    (whole-all c.args.data.now c.args.time read.0 c.loop-reached.reached read.1 c.loop-reached-test.false)

pub returns-in_default-clause-reads : goal.returns-in_default-clause-reads
returns-in_default-clause-reads c =
    let read = c.loop-reached.invariant.2 in
    let whole = rw c.in_default.is at c.in_ok-passed.ensures.read c.args.time read.0 read.1 in
    counted-whole c.args.data.now c.args.time read.0 c.loop-reached.reached read.1 whole
