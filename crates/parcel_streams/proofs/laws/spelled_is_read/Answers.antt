use Rattle.std.proofs.Common.{sym, subst, refl, List, ℕ}
use Rattle.trace_model.specs.ParcelBytes.{DecodesParcel}
use Rattle.parcel_streams.proofs.Readings.{one_piece, parcel_frame, decodes}
use Rattle.parcel_streams.proofs.laws.spelled_is_read.Goals as goal

pub returns-clause-piece : goal.returns-clause-piece
returns-clause-piece c = λ piece other rest sound b. one_piece _ other piece b
    (record { sound = sound; rest = rest; whole = refl })

pub returns-clause-parcel : goal.returns-clause-parcel
returns-clause-parcel c = λ bytes stream parcel time contents b.
    let frame = parcel_frame bytes stream parcel time contents b in (
      record { seal = frame.seal; kind_is = frame.kind_is },
      frame.stream_is,
      subst (λ (x : List ℕ). DecodesParcel x parcel) (sym frame.body_is)
          (decodes stream parcel time contents b.sound),
    )
