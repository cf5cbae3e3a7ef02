-- What is read of a piece's body, as its reading or its first fault.
use Rattle.std.proofs.Common.{◌≡◌, ◌≢◌, ◌⊎◌, inl, inr, ⊎_elim, ◌↔◌, ℕ, ◌^◌, ◌<◌, ◌≤◌, List, length, take, drop, Result}
use Rattle.std.proofs.Common.{Err, MatchResult, refl, sym, ap, ◌∙◌, subst, arith}
use Rattle.std.proofs.lemmas.List.{drop-drop, take_all}
use Rattle.trace_model.specs.FirstFault.{AreBytes}
use Rattle.trace_model.specs.Words.{Decodes}
use Rattle.trace_model.specs.Image.{DecodesImage}
use Rattle.trace_model.specs.Parcel.{Parcel as ParcelSeen}
use Rattle.trace_model.specs.ParcelBytes.{bytes_of_parcel, DecodesParcel, ParcelCause, bad_cpu, bad_image}
use Rattle.trace_model.specs.ParcelBytes.{number_overflow, missed_too_many, missed_differs, FirstParcelFault}
use Rattle.trace_model.proofs.images.Images.{DecodesImage-unique}
use Rattle.trace_model.proofs.images.ParcelParts.{HasNumbers-are}
use Rattle.trace_model.proofs.images.Parcels.{parcel_read_or_faulty}
use Rattle.page_image.specs.Contents.{Contents, records_of_page}
use Rattle.page_numbers.specs.declared.fault.ParcelFault.{ParcelFault}
use Rattle.page_numbers.specs.declared.fault.ParcelFault.TheVariants.{NoMemory as MemoryThere}
use Rattle.page_numbers.specs.Parcels.{ParcelValue, as_parcel}
use Rattle.page_numbers.specs.Faults.{parcel_fault, HasReading}
use Rattle.page_numbers.specs.Written.{IsPageRead}
use Rattle.parcel_streams.specs.declared.fault.PieceFault.{PieceFault}
use Rattle.parcel_streams.specs.declared.fault.PieceFault.TheVariants.{Parcel, Loose, NoMemory}
use Rattle.parcel_streams.specs.Faults.{IsFitted}
use Rattle.parcel_streams.specs.Answers.{fault_of_parcel, IsParcelBody, IsBodyFault}
use Rattle.parcel_streams.proofs.Fitted.{IsTight, fitted_from}

-- ---- a parcel's faults

-- what a fault that is reported says
pub Reported : List ℕ → ParcelFault → Type 0
Reported body fault = ((fault ≡ MemoryThere) × HasReading body)
    ⊎ ((cause : ParcelCause) × (fault ≡ parcel_fault cause) × FirstParcelFault body cause)

err_is : {A E : Type 0} (r : Result A E) (P : A → Type 0) (Q : E → Type 0) (e : E) → r ≡ Err e → MatchResult r P Q
    → Q e
err_is r P Q e is holds = let M : Result _ _ → Type 0 = λ x. MatchResult x P Q in subst M is holds

same_err : {A E : Type 0} (e f : E) → (let r : Result A E = Err e in r) ≡ Err f → e ≡ f
same_err e f is = cc

pub reported : (body : List ℕ) (r : Result ParcelValue ParcelFault) (fault : ParcelFault) → AreBytes body
    → r ≡ Err fault → ((cause : ParcelCause) → (r ≡ Err (parcel_fault cause)) ↔ FirstParcelFault body cause)
    → ((parcel : ParcelSeen) → DecodesParcel body parcel
    → MatchResult r (λ read. as_parcel read ≡ parcel) (λ f. f ≡ MemoryThere)) → Reported body fault
unfolding Reported
reported body r fault small is causes read_back = ⊎_elim
    (λ read. inl (err_is r _ _ fault is (read_back read.0 read.1), read))
    (λ faulty. inr (
      faulty.0,
      same_err {A = ParcelValue} fault (parcel_fault faulty.0)
          (sym is ∙ (causes faulty.0).1 faulty.1),
      faulty.1,
    ))
    (parcel_read_or_faulty body small)

no_memory : (cause : ParcelCause) → fault_of_parcel (parcel_fault cause) ≡ Parcel (parcel_fault cause)
no_memory bad_cpu = refl
no_memory (bad_image cause) = refl
no_memory number_overflow = refl
no_memory missed_too_many = refl
no_memory missed_differs = refl

of_cause : (body : List ℕ) (fault : ParcelFault) (cause : ParcelCause) → fault ≡ parcel_fault cause
    → FirstParcelFault body cause → IsBodyFault 0 body (fault_of_parcel fault)
of_cause body fault cause is first = subst (IsBodyFault 0 body) (sym (ap fault_of_parcel is ∙ no_memory cause))
    (refl, (cause, refl, first))

-- where each parcel would be one that is written
pub fitted_fault : (body : List ℕ) (fault : ParcelFault) → Reported body fault
    → ((parcel : ParcelSeen) → DecodesParcel body parcel → IsFitted body parcel)
    → IsBodyFault 0 body (fault_of_parcel fault)
unfolding Reported
fitted_fault body fault is fitted = ⊎_elim
    (λ refused. subst (λ (f : ParcelFault). IsBodyFault 0 body (fault_of_parcel f)) (sym refused.0)
    (refl, (refused.1.0, refused.1.1, fitted refused.1.0 refused.1.1)))
    (λ faulty. of_cause body fault faulty.0 faulty.1 faulty.2)
    is

-- where none would be
pub unfitted_fault : (body : List ℕ) (fault : ParcelFault) (answer : PieceFault) → Reported body fault
    → answer ≡ fault_of_parcel fault → answer ≢ NoMemory → IsBodyFault 0 body answer
unfolding Reported
unfitted_fault body fault answer is same not = ⊎_elim
    (λ refused. absurd (not (same ∙ ap fault_of_parcel refused.0)))
    (λ faulty. subst (IsBodyFault 0 body) (sym same) (of_cause body fault faulty.0 faulty.1 faulty.2))
    is

pub loose_fault : (body : List ℕ) (fault : ParcelFault) → Reported body fault → NoMemory ≡ fault_of_parcel fault
    → ((parcel : ParcelSeen) → DecodesParcel body parcel → IsFitted body parcel → ⊥) → IsBodyFault 0 body Loose
unfolding Reported
loose_fault body fault is same not = ⊎_elim
    (λ refused. (refl, record { parcel = refused.1.0; reads = refused.1.1; otherwise = not refused.1.0 refused.1.1 }))
    (λ faulty. let other : NoMemory ≡ Parcel (parcel_fault faulty.0) = same ∙ ap fault_of_parcel faulty.1
    ∙ no_memory faulty.0 in absurd (cc))
    is

-- ---- a parcel that is read

pub IsParcelBody-read : (body : List ℕ) (parcel : ParcelValue) → DecodesParcel body (as_parcel parcel)
    → IsPageRead body parcel.page → IsTight body → IsParcelBody body parcel
IsParcelBody-read body parcel d read tight =
    let fit = fitted_from body (as_parcel parcel) d tight in
    let page : Contents = parcel.page in
    let numbers = HasNumbers-are body parcel.cpu page.fill page.first parcel.missed d.image.image d.image.numbers in
    let own : List ℕ = drop 48 body in
    let long = fit.long in
    let size_is = fit.size_is in
    let one = DecodesImage-unique (drop 32 body)
    read.time d.image.time read.size d.image.size read.reported d.reported (records_of_page page)
    (records_of_page page) read.reads
    (subst (λ (b : List ℕ). DecodesImage b d.image.time d.image.size d.reported (records_of_page page))
    numbers.image_is d.image.reads) in
    let time_is : page.time ≡ d.image.time = ap (λ (p : Contents). p.time) read.page_is ∙ one.0 in
    let sizes = one.1 in
    let bytes_is : page.bytes ≡ own =
    ap (λ (p : Contents). p.bytes) read.page_is ∙ ap (take read.size) (drop-drop 16 32 body)
    ∙ take_all read.size own (omega arith) in
    record {
      body_is = fit.body_is ∙ (λ i. bytes_of_parcel (as_parcel parcel) (sym time_is i) (sym bytes_is i)
          (length (sym bytes_is i)));
      sound = λ stream fits. record {
        stream_fits = fits;
        sound = d.sound;
        fill_fits = fit.fill_fits;
        time_fits = subst (λ (n : ℕ). n < 2 ^ 64) (sym time_is) fit.time_fits;
        size_fits = subst (λ (b : List ℕ). length b ≤ 65520) (sym bytes_is) fit.size_fits;
        reads = subst (λ (t : ℕ). Decodes page.bytes t (records_of_page page)) (sym time_is)
            (subst (λ (b : List ℕ). Decodes b d.image.time (records_of_page page)) (sym bytes_is) fit.reads);
      };
    }
