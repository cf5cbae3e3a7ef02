use Rattle.std.proofs.Common.{List, take, sym, ap, ◌∙◌, subst}
use Rattle.std.proofs.lemmas.List.{take-map}
use Rattle.trace_model.specs.Parcel.{Parcel}
use Rattle.page_numbers.specs.Parcels.{as_parcel, as_parcels}
use Rattle.collector.specs.Index.{IsIndexed}
use Rattle.collector.proofs.collector.Collector.go_back.Goals as goal

pub returns : goal.returns
returns c = ap as_parcels c.truncate.ensures.items
    ∙ sym (take-map as_parcel c.args.count c.self.inside.parcels.items)
    ∙ ap (take c.args.count) c.self.view_is

pub invariant_of-self : goal.invariant_of-self
invariant_of-self c = subst (λ (ps : List Parcel). IsIndexed ps c.args.index) (sym (returns c)) c.requires
