-- The four that a handle can hold, each found again under its name.
use Rattle.std.proofs.Common.{◌≡◌, Option, Some, None, refl, ap, is_some, inl, inr}
use Rattle.std.proofs.lemmas.Bool.{false≢true}
use Rattle.tracering_c.specs.declared.ends.HeldWriter.{HeldWriter}
use Rattle.tracering_c.specs.declared.ends.HeldReader.{HeldReader}
use Rattle.tracering_c.specs.declared.ends.HeldCollector.{HeldCollector}
use Rattle.tracering_c.specs.declared.ends.HeldFleet.{HeldFleet}
use Rattle.tracering_c.specs.contracts.ends.HeldWriter as writer
use Rattle.tracering_c.specs.contracts.ends.HeldReader as reader
use Rattle.tracering_c.specs.contracts.ends.HeldCollector as collector
use Rattle.tracering_c.specs.contracts.ends.HeldFleet as fleet
use Rattle.tracering_c.specs.Held.{End, writer_of, reader_of, collector_of, fleet_of}
use Rattle.tracering_c.proofs.HeldSteps.{Kept}

abbrev as_end : {X : Type 0} → (X → End) → Option X → Option End
as_end named None = None
as_end named (Some x) = Some (named x)

pub writer_named : (o : Option End) (x : HeldWriter) → writer_of o ≡ Some x → o ≡ Some (inl x)
writer_named None x is = absurd (false≢true (ap is_some is))
writer_named (Some (inl y)) x is = ap (λ (o : Option HeldWriter). as_end (λ z. inl z) o) is
writer_named (Some (inr (inl y))) x is = absurd (false≢true (ap is_some is))
writer_named (Some (inr (inr (inl y)))) x is = absurd (false≢true (ap is_some is))
writer_named (Some (inr (inr (inr y)))) x is = absurd (false≢true (ap is_some is))

pub reader_named : (o : Option End) (x : HeldReader) → reader_of o ≡ Some x → o ≡ Some (inr (inl x))
reader_named None x is = absurd (false≢true (ap is_some is))
reader_named (Some (inl y)) x is = absurd (false≢true (ap is_some is))
reader_named (Some (inr (inl y))) x is = ap (λ (o : Option HeldReader). as_end (λ z. inr (inl z)) o) is
reader_named (Some (inr (inr (inl y)))) x is = absurd (false≢true (ap is_some is))
reader_named (Some (inr (inr (inr y)))) x is = absurd (false≢true (ap is_some is))

pub collector_named : (o : Option End) (x : HeldCollector) → collector_of o ≡ Some x → o ≡ Some (inr (inr (inl x)))
collector_named None x is = absurd (false≢true (ap is_some is))
collector_named (Some (inl y)) x is = absurd (false≢true (ap is_some is))
collector_named (Some (inr (inl y))) x is = absurd (false≢true (ap is_some is))
collector_named (Some (inr (inr (inl y)))) x is =
    ap (λ (o : Option HeldCollector). as_end (λ z. inr (inr (inl z))) o) is
collector_named (Some (inr (inr (inr y)))) x is = absurd (false≢true (ap is_some is))

pub fleet_named : (o : Option End) (x : HeldFleet) → fleet_of o ≡ Some x → o ≡ Some (inr (inr (inr x)))
fleet_named None x is = absurd (false≢true (ap is_some is))
fleet_named (Some (inl y)) x is = absurd (false≢true (ap is_some is))
fleet_named (Some (inr (inl y))) x is = absurd (false≢true (ap is_some is))
fleet_named (Some (inr (inr (inl y)))) x is = absurd (false≢true (ap is_some is))
fleet_named (Some (inr (inr (inr y)))) x is = ap (λ (o : Option HeldFleet). as_end (λ z. inr (inr (inr z))) o) is

abbrev pub writers : Kept
writers =
    record {
      row = writer.the_row;
      named = λ x. inl x;
      of = writer_of;
      of_named = λ x. refl;
      named_of = writer_named;
      lies = λ p x. refl;
    }

abbrev pub readers : Kept
readers =
    record {
      row = reader.the_row;
      named = λ x. inr (inl x);
      of = reader_of;
      of_named = λ x. refl;
      named_of = reader_named;
      lies = λ p x. refl;
    }

abbrev pub collectors : Kept
collectors =
    record {
      row = collector.the_row;
      named = λ x. inr (inr (inl x));
      of = collector_of;
      of_named = λ x. refl;
      named_of = collector_named;
      lies = λ p x. refl;
    }

abbrev pub fleets : Kept
fleets =
    record {
      row = fleet.the_row;
      named = λ x. inr (inr (inr x));
      of = fleet_of;
      of_named = λ x. refl;
      named_of = fleet_named;
      lies = λ p x. refl;
    }
