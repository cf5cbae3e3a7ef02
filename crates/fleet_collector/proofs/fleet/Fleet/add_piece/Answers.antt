use Rattle.std.proofs.Common.{◌≡◌, ◌↔◌, ◌∙◌, ℕ, List, [], ◌∷◌, ◌++◌, Result, Some, Ok, Err, IfOk, rules, sym, ap, subst}
use Rattle.trace_model.specs.Parcel.{Parcel}
use Rattle.trace_model.specs.Collection.{Agree, IsBelow}
use Rattle.page_numbers.specs.Parcels.{as_parcel}
use Rattle.parcel_streams.specs.declared.piece.Piece.{Piece}
use Rattle.stream_collector.specs.Stream.{Stream}
use Rattle.stream_collector.specs.Faults.{IsForgotten, IsWithinEnd}
use Rattle.stream_collector.specs.declared.fault.AddFault.{AddFault}
use Rattle.stream_collector.specs.declared.added.Added.{Added}
use Rattle.stream_collector.specs.declared.added.Added.TheVariants.{New, Known, Forgotten}
use Rattle.stream_collector.specs.declared.added.Marked.{Marked}
use Rattle.stream_collector.specs.declared.added.Marked.TheVariants.{New as NewMark, Known as KnownMark}
use Rattle.fleet_collector.specs.Fleet.{known_of, stream_at, KeepsOthers}
use Rattle.fleet_collector.specs.Pieces.{AddsParcel, AddsPiece, IsRefusal}
use Rattle.fleet_collector.specs.declared.refusal.PieceRefusal.TheVariants.{Mark as MarkRefused}
use Rattle.fleet_collector.specs.declared.change.Change.{Change}
use Rattle.fleet_collector.specs.Changes.{IsChangedBy, change_of}
use Rattle.parcel_streams.specs.declared.piece.Mark.{Mark}
use Rattle.stream_collector.specs.declared.fault.MarkFault.{MarkFault}
use Rattle.fleet_collector.proofs.Adding.{piece_added, mark_new, mark_there, mark_refused}
use Rattle.fleet_collector.proofs.fleet.Fleet.add_piece.Goals as goal

-- what the clauses of `add` say, by what became of the parcel
module _ (old new : List (ℕ × Stream)) (stream : ℕ) (p : Parcel) (result : Result Added AddFault)
    (kept : result ≡ Ok New → known_of new stream
    ≡ Some record (stream_at old stream) { parcels = (stream_at old stream).parcels ++ p ∷ [] })
    (others : KeepsOthers old new stream)
    (unchanged : result ≡ Ok Known → new ≡ old)
    (there : result ≡ Ok Known → IsBelow (p ∷ []) (stream_at old stream).parcels)
    (not_there : result ≡ Ok New → IsBelow (p ∷ []) (stream_at old stream).parcels → ⊥)
    (forgotten : (result ≡ Ok Forgotten) ↔ IsForgotten (stream_at old stream) p)
    (forgotten_nothing : result ≡ Ok Forgotten → new ≡ old)
    (agree : result ≡ Ok New → Agree (stream_at new stream).parcels)
    (within : IfOk result (λ added. (added ≡ Forgotten → ⊥) → IsWithinEnd (stream_at old stream) p)) where
  within_if : (added : Added) → result ≡ Ok added → (added ≡ Forgotten → ⊥) → IsWithinEnd (stream_at old stream) p
  within_if added e = subst (λ (r : Result Added AddFault). IfOk r (λ added. (added ≡ Forgotten → ⊥)
      → IsWithinEnd (stream_at old stream) p)) e within

  adds_parcel : (added : Added) → result ≡ Ok added → AddsParcel old new stream p added
  adds_parcel New e = record {
    others = others;
    kept = kept e;
    agree = agree e;
    within = within_if New e (λ is. cc);
    not_there = not_there e;
    not_forgotten = λ f. let is = forgotten.1 f in cc;
  }
  adds_parcel Known e = record {
    unchanged = unchanged e;
    there = there e;
    within = within_if Known e (λ is. cc);
    not_forgotten = λ f. let is = forgotten.1 f in cc;
  }
  adds_parcel Forgotten e = (forgotten_nothing e, forgotten.0 e)

pub returns-in_ok-add-in-Parcel-clause-added : goal.returns-in_ok-add-in-Parcel-clause-added
returns-in_ok-add-in-Parcel-clause-added c =
    let a = c.add.ensures in
    subst (λ (p : Piece). AddsPiece c.args.self.now c.add.new.self p c.in_ok-add-in-Parcel.field-0) (sym c.in-Parcel.is)
    (adds_parcel c.args.self.now c.add.new.self c.in-Parcel.stream.0 (as_parcel c.in-Parcel.parcel) c.add.result
    a.new a.others a.known a.known_exactly a.new_exactly a.forgotten a.forgotten_nothing a.agree a.within
    c.in_ok-add-in-Parcel.field-0 c.in_ok-add-in-Parcel.was)

pub returns-in_ok-add-in-Parcel-clause-told : goal.returns-in_ok-add-in-Parcel-clause-told
returns-in_ok-add-in-Parcel-clause-told c pieces was =
    piece_added pieces c.args.self.now c.add.new.self c.args.piece c.in_ok-add-in-Parcel.field-0
    (returns-in_ok-add-in-Parcel-clause-added c) was

-- what the change of a mark made of its stream
module _ (mark : Mark) (cpu : ℕ) (old new : Stream) (change : Change) (result : Result Marked MarkFault)
    (is : change ≡ change_of mark) (changed : IsChangedBy change cpu old new result) where
  by_mark : (other : Result Marked MarkFault) → result ≡ other → IsChangedBy (change_of mark) cpu old new other
  by_mark other e = subst (λ (r : Result Marked MarkFault). IsChangedBy (change_of mark) cpu old new r) e
      (subst (λ (ch : Change). IsChangedBy ch cpu old new result) is changed)

pub returns-in-New-clause-added : goal.returns-in-New-clause-added
returns-in-New-clause-added c =
    let a = c.change.ensures in
    let e : c.change.result ≡ Ok NewMark = c.in_ok-change-in-Mark.was ∙ ap (λ (m : Marked). Ok m) c.in-New.is in
    let old = stream_at c.args.self.now c.in-Mark.stream.0 in
    let new = stream_at c.change.new.self c.in-Mark.stream.0 in
    subst (λ (p : Piece). AddsPiece c.args.self.now c.change.new.self p New) (sym c.in-Mark.is)
    record {
      others = a.others;
      there = a.there e;
      marked = mark_new c.in-Mark.mark c.in-Mark.cpu.0 old new
          (by_mark c.in-Mark.mark c.in-Mark.cpu.0 old new c.from.result c.change.result c.from.ensures a.changed
          (Ok NewMark) e);
    }

pub returns-in-New-clause-told : goal.returns-in-New-clause-told
returns-in-New-clause-told c pieces was =
    piece_added pieces c.args.self.now c.change.new.self c.args.piece New (returns-in-New-clause-added c) was

pub returns-in-Known-clause-added : goal.returns-in-Known-clause-added
returns-in-Known-clause-added c =
    let a = c.change.ensures in
    let e : c.change.result ≡ Ok KnownMark = c.in_ok-change-in-Mark.was ∙ ap (λ (m : Marked). Ok m) c.in-Known.is in
    let old = stream_at c.args.self.now c.in-Mark.stream.0 in
    let new = stream_at c.change.new.self c.in-Mark.stream.0 in
    subst (λ (p : Piece). AddsPiece c.args.self.now c.change.new.self p Known) (sym c.in-Mark.is) (
      a.unchanged e,
      mark_there c.in-Mark.mark c.in-Mark.cpu.0 old new
          (by_mark c.in-Mark.mark c.in-Mark.cpu.0 old new c.from.result c.change.result c.from.ensures a.changed
          (Ok KnownMark) e),
    )

pub returns-in-Known-clause-told : goal.returns-in-Known-clause-told
returns-in-Known-clause-told c pieces was =
    piece_added pieces c.args.self.now c.change.new.self c.args.piece Known (returns-in-Known-clause-added c) was

pub returns-in_err-change-in-Mark-clause-fault : goal.returns-in_err-change-in-Mark-clause-fault
returns-in_err-change-in-Mark-clause-fault c =
    let a = c.change.ensures in
    let old = stream_at c.args.self.now c.in-Mark.stream.0 in
    let new = stream_at c.change.new.self c.in-Mark.stream.0 in
    let reason = c.in_err-change-in-Mark.field-0.0 in
    let why : IsRefusal c.args.self.now c.args.piece (MarkRefused reason) =
    subst (λ (p : Piece). IsRefusal c.args.self.now p (MarkRefused reason)) (sym c.in-Mark.is)
    (mark_refused c.in-Mark.mark c.in-Mark.cpu.0 old new reason
    (by_mark c.in-Mark.mark c.in-Mark.cpu.0 old new c.from.result c.change.result c.from.ensures a.changed
    (Err reason) c.in_err-change-in-Mark.was)) in
    search rules
