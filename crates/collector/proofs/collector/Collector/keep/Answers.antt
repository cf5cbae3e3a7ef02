use Rattle.std.proofs.Common.{◌∷◌, [], ◌++◌, refl, ap, subst, sym, ◌∙◌, arith, rules}
use Rattle.std.proofs.lemmas.List.{map-append}
use Rattle.trace_model.specs.Collection.{Agree}
use Rattle.page_numbers.specs.Parcels.{as_parcel, as_parcels}
use Rattle.collector.specs.Index.{IsIndexed}
use Rattle.page_numbers.proofs.AsParcels.{as_many}
use Rattle.collector.proofs.Indexing.{indexed_same, kept_indexed_at}
use Rattle.collector.proofs.collector.Collector.keep.Goals as goal

pub invariant_of-self-in_err-lay : goal.invariant_of-self-in_err-lay
invariant_of-self-in_err-lay c = indexed_same (as_parcels c.reserve.new.self.items) c.self.inside.index c.lay.new.self
    (subst (λ ps. IsIndexed (as_parcels ps) c.self.inside.index) (sym c.reserve.ensures.items) c.self.invariant)
    c.lay.ensures.apart c.lay.ensures.stated c.in_err-lay.ensures.refused

pub invariant_of-self-2 : goal.invariant_of-self-2
invariant_of-self-2 c =
    subst (λ ps. IsIndexed ps c.lay.new.self)
    (sym (ap as_parcels c.in_ok-push.ensures.items
    ∙ map-append as_parcel c.reserve.new.self.items (c.args.parcel ∷ [])))
    (kept_indexed_at (as_parcels c.reserve.new.self.items) (as_parcel c.args.parcel) c.self.inside.index c.lay.new.self
    (subst (λ ps. IsIndexed (as_parcels ps) c.self.inside.index) (sym c.reserve.ensures.items) c.self.invariant)
    record {
      cpu_known = rw (← c.cpu.ensures.cpu) c.cpu.ensures.known;
      numbers_fit = rw (← c.first-first.ensures.first) c.first-first.ensures.numbers;
      missed_fit = rw (← c.missed.ensures.missed) c.missed.ensures.in_front;
    }
    (subst (λ ps. Agree (ps ++ as_parcel c.args.parcel ∷ []))
    (sym (ap as_parcels c.reserve.ensures.items ∙ c.self.view_is)) c.requires.agree)
    c.cpu.result.0 _ c.first-first.result.0 _ c.len.result
    c.cpu.ensures.cpu c.first-first.ensures.first (omega arith) (omega arith)
    (let many = as_many c.reserve.new.self.items _ refl in search rules) c.lay.ensures.apart c.lay.ensures.stated
    c.in_ok-lay.ensures.laid c.lay.ensures.others)
