-- A page that was taken, when its parcel is appended to the others.
use Rattle.std.proofs.Common.{◌≡◌, ℕ, List, [], ◌∷◌, ◌++◌, Some, None, map, sym, ap, ◌∙◌}
use Rattle.std.proofs.lemmas.List.{map-append}
use Rattle.trace_model.specs.declared.numbers.FillNo.{FillNo}
use Rattle.trace_model.specs.Parcel.{Parcel}
use Rattle.trace_model.specs.Ring.{TakenFill}
use Rattle.world_model.specs.World.{parcel_of}
use Rattle.page_image.specs.Contents.{Contents}
use Rattle.page_numbers.specs.Parcels.{ParcelValue, as_parcel, as_parcels, fitted_parcel}
use Rattle.ring_frames.specs.Answers.{IsTakenPage}
use Rattle.ring_shared.specs.declared.take.Take.TheVariants.{Page, Empty, Moving}
use Rattle.ring_shared.specs.Takes.{IsPageTaken, IsEmptyFound, IsMovingFound, TakesSteps}
use Rattle.trace_run.specs.readers.Value.{ReaderEndValue}
use Rattle.trace_run.specs.readers.Takes.{IsPageFound, IsNoneFound, IsPutOff}

-- the page's parcel is that of what was taken
parcel_is : (cpu size : ℕ) (page : Contents) (missed : ℕ) (t : TakenFill) → IsTakenPage size page missed t
    → as_parcel (fitted_parcel cpu page missed) ≡ parcel_of cpu t
parcel_is cpu size page missed t is =
    let fill = is.written.fill_is in
    let first = is.written.first_is in
    let records = is.written.records_are in
    let skipped = is.missed_is in
    cc

-- one parcel more is that of what was taken
pub one_more : (cpu size : ℕ) (before after : List ParcelValue) (page : Contents) (missed : ℕ) (t : TakenFill)
    → IsTakenPage size page missed t → after ≡ before ++ fitted_parcel cpu page missed ∷ []
    → as_parcels after ≡ as_parcels before ++ parcel_of cpu t ∷ []
one_more cpu size before after page missed t is kept =
    ap as_parcels kept
    ∙ map-append as_parcel before (fitted_parcel cpu page missed ∷ [])
    ∙ ap (λ (parcel : Parcel). as_parcels before ++ parcel ∷ []) (parcel_is cpu size page missed t is)

-- so the parcels are still those of what was taken
pub page_parcels : (cpu size : ℕ) (before after : List ParcelValue) (was now : List TakenFill) (page : Contents)
    (missed : ℕ) (t : TakenFill)
    → IsTakenPage size page missed t
    → after ≡ before ++ fitted_parcel cpu page missed ∷ []
    → as_parcels before ≡ map (parcel_of cpu) was
    → now ≡ was ++ t ∷ []
    → as_parcels after ≡ map (parcel_of cpu) now
page_parcels cpu size before after was now page missed t is kept were now_is =
    one_more cpu size before after page missed t is kept
    ∙ ap (λ (l : List Parcel). l ++ parcel_of cpu t ∷ []) were
    ∙ sym (map-append (parcel_of cpu) was (t ∷ []))
    ∙ ap (map (parcel_of cpu)) (sym now_is)

pub none_parcels : (cpu : ℕ) (taken : List ParcelValue) (was now : List TakenFill)
    → as_parcels taken ≡ map (parcel_of cpu) was
    → now ≡ was
    → as_parcels taken ≡ map (parcel_of cpu) now
none_parcels cpu taken was now were now_is = were ∙ ap (map (parcel_of cpu)) (sym now_is)

pub page_found : (before after : ReaderEndValue) (page : Contents) (missed : ℕ)
    → TakesSteps before.reader.shape before.reader.part (Page page missed) after.reader.part
    → after.reader.empty_at ≡ None → IsPageTaken before.reader.shape before.reader.part page missed after.reader.part
    → after.taken ≡ before.taken ++ fitted_parcel before.cpu page missed ∷ []
    → (back : List ℕ) × (after.body ≡ Some back) → IsPageFound before after
page_found before after page missed steps empty_at is kept body = record {
  kept = body;
  page = page;
  missed = missed;
  answer = record { steps = steps; empty_at = empty_at };
  is = is;
  fitted = kept;
  one_more = one_more before.cpu before.reader.shape.size before.taken after.taken page missed is.taken is.is kept;
}

pub none_found : (before after : ReaderEndValue) (done : ℕ) (back : List ℕ)
    → TakesSteps before.reader.shape before.reader.part (Empty done back) after.reader.part
    → after.reader.empty_at ≡ Some done → IsEmptyFound before.reader.shape before.reader.part done after.reader.part
    → after.taken ≡ before.taken → after.body ≡ Some back → IsNoneFound before after
none_found before after done back steps empty_at is kept body =
    record {
      done = done;
      back = back;
      answer = record { steps = steps; empty_at = empty_at };
      is = is;
      kept = body;
      taken_are = kept;
    }

pub put_off : (before after : ReaderEndValue) (fill : FillNo) (back : List ℕ)
    → TakesSteps before.reader.shape before.reader.part (Moving fill back) after.reader.part
    → after.reader.empty_at ≡ None → IsMovingFound before.reader.shape before.reader.part fill.0 after.reader.part
    → after.taken ≡ before.taken → after.body ≡ Some back → IsPutOff before after
put_off before after fill back steps empty_at is kept body =
    record {
      fill = fill;
      back = back;
      answer = record { steps = steps; empty_at = empty_at };
      is = is;
      kept = body;
      taken_are = kept;
    }
