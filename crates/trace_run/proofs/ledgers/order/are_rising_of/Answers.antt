use Rattle.std.proofs.Common.{◌≡◌, ◌+◌, ◌-◌, ◌<◌, ℕ, Some, refl, sym, ap, ◌∙◌, subst, arith}
use Rattle.std.specs.List.{slice_get}
use Rattle.trace_model.specs.Parcel.{Parcel}
use Rattle.trace_model.proofs.collections.Elements.{some_is}
use Rattle.page_numbers.specs.Parcels.{as_parcel, as_parcels}
use Rattle.page_numbers.proofs.AsParcels.{as_many, parcel_read}
use Rattle.trace_run.proofs.Rising.{rise_none, rise_more, rise_all}
use Rattle.trace_run.proofs.ledgers.order.are_rising_of.Goals.{else-index-gt0-via-then-index-gt0+else-fill}
use Rattle.trace_run.proofs.ledgers.order.are_rising_of.Goals.{else-index-gt0-via-else-index-gt0}
use Rattle.trace_run.proofs.ledgers.order.are_rising_of.Goals as goal

pub loop-index-init : goal.loop-index-init
loop-index-init c = rise_none c.args.cpu (as_parcels c.args.parcels.now)

pub returns-then-cpu : goal.returns-then-cpu
returns-then-cpu c = (
  λ e. cc,
  λ (own, rising).
      let here =
      own c.loop-index.index _
      (parcel_read c.args.parcels.now c.loop-index.index c.index-parcels-index.result c.loop-index-test.true
      c.index-parcels-index.is) in
      let is = c.cpu.ensures.cpu in let not = c.if-cpu.true in absurd (omega arith),
)

pub returns-then-fill : goal.returns-then-fill
returns-then-fill c = (
  λ e. cc,
  λ (own, rising).
      let i = c.loop-index.index in
      let some = c.if-index-gt0.true in
      let before =
      parcel_read c.args.parcels.now (i - 1) c.index-parcels-index-then-index-gt0.result
      (let end = c.loop-index-test.true in omega arith) c.index-parcels-index-then-index-gt0.is in
      let here =
      parcel_read c.args.parcels.now i c.index-parcels-index.result c.loop-index-test.true
      c.index-parcels-index.is in
      let rises = rising (i - 1) i _ _ (omega arith) before here in
      let fill = c.fill.ensures in
      let other = c.fill-then-index-gt0.ensures in
      let not = c.if-fill.true in
      absurd (omega arith),
)

pub loop-index-preserved : goal.loop-index-preserved
loop-index-preserved c =
    let l = c.loop-index in
    let kept = c.args.parcels.now in
    let next = c.index-parcels-index.result in
    let at = parcel_read kept l.index next c.loop-index-test.true c.index-parcels-index.is in
    let own : next.cpu ≡ c.args.cpu = let is = c.cpu.ensures.cpu in let e = c.if-cpu.false in omega arith in
    let above : (before : ℕ) (previous : Parcel) → before + 1 ≡ l.index
    → slice_get (as_parcels kept) before ≡ Some previous → previous.fill < next.page.fill =
    λ before previous is there. elim c.else-index-gt0.branch [
      | else-index-gt0-via-then-index-gt0+else-fill w ↦
          let some = w.if-index-gt0.true in
          let item = w.index-parcels-index-then-index-gt0.result in
          let read =
          parcel_read kept (l.index - 1) item (let end = c.loop-index-test.true in omega arith)
          w.index-parcels-index-then-index-gt0.is in
          let e : l.index - 1 ≡ before = omega arith in
          let same : as_parcel item ≡ previous =
          some_is (as_parcel item) previous (sym read ∙ ap (slice_get (as_parcels kept)) e ∙ there) in
          let fill = w.fill.ensures in let other = w.fill-then-index-gt0.ensures in let rises = w.if-fill.false in
          let less : item.page.fill < next.page.fill = omega arith in
          subst (λ (p : Parcel). p.fill < next.page.fill) same less
      | else-index-gt0-via-else-index-gt0 w ↦ let none = w.if-index-gt0.false in absurd (omega arith)
    ] in
    rise_more c.args.cpu (as_parcels kept) l.index (as_parcel next) at own above l.invariant

pub returns : goal.returns
returns c = (
  λ e.
      rise_all c.args.cpu (as_parcels c.args.parcels.now) c.loop-index.index
      (let many = as_many c.args.parcels.now _ refl in let past = c.loop-index-test.false in omega arith)
      c.loop-index.invariant,
  λ all. refl,
)
