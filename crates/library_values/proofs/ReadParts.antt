-- Bytes that read as a parcel, with more bytes after them.
use Rattle.std.proofs.Common.{◌≡◌, ℕ, ◌+◌, ◌≤◌, List, ◌++◌, length, Result, Err, ap, ◌∙◌, arith, append_assoc}
use Rattle.std.proofs.Common.{length-append, ◌↔◌}
use Rattle.trace_model.specs.Record.{Record}
use Rattle.trace_model.specs.Parcel.{Parcel}
use Rattle.trace_model.specs.Image.{le64, Missed, none, unknown, counted, Commit, commit_word, ReportsMissed}
use Rattle.trace_model.specs.Image.{DecodesImage}
use Rattle.trace_model.specs.ParcelBytes.{with_numbers, DecodesParcel, ParcelCause, FirstParcelFault}
use Rattle.trace_model.specs.declared.limits.TheConstants.{MAX_IMAGE}
use Rattle.trace_model.proofs.images.Parcels.{DecodesParcel-FirstParcelFault}
use Rattle.trace_model.proofs.images.ParcelParts.{length-with_numbers}
use Rattle.page_numbers.specs.declared.fault.ParcelFault.{ParcelFault}
use Rattle.page_numbers.specs.declared.fault.ParcelFault.TheVariants.{NoMemory}
use Rattle.page_numbers.specs.Faults.{parcel_fault, HasReading}
use Rattle.library_values.specs.CollectorAdding.{IsNoParcel}

-- with bytes after them, they state the same of missed records
reports_more : (commit : Commit) (behind more : List ℕ) (missed : Missed) → ReportsMissed commit behind missed
    → ReportsMissed commit (behind ++ more) missed
reports_more commit behind more none r = r
reports_more commit behind more unknown r = r
reports_more commit behind more (counted number) r =
    (r.0, r.1, r.2, (r.3.0 ++ more, ap (λ (l : List ℕ). l ++ more) r.3.1 ∙ append_assoc (le64 number) r.3.0 more))

-- a longer image that isn't too long reads the same
image_more : (image more : List ℕ) (time size : ℕ) (missed : Missed) (records : List Record)
    → length (image ++ more) ≤ MAX_IMAGE → DecodesImage image time size missed records
    → DecodesImage (image ++ more) time size missed records
image_more image more time size missed records fits d =
    let header = d.parts.header in
    let word : List ℕ = le64 (commit_word d.commit) in
    let whole : image ++ more ≡ le64 time ++ (word ++ (d.contents ++ (d.behind ++ more))) =
    ap (λ (l : List ℕ). l ++ more) header.whole
    ∙ append_assoc (le64 time) (word ++ (d.contents ++ d.behind)) more
    ∙ ap (λ (l : List ℕ). le64 time ++ l)
    (append_assoc word (d.contents ++ d.behind) more
    ∙ ap (λ (l : List ℕ). word ++ l) (append_assoc d.contents d.behind more)) in
    record {
      commit = d.commit;
      contents = d.contents;
      behind = d.behind ++ more;
      parts = record {
        header =
            record {
              whole = whole;
              time_fits = header.time_fits;
              size_fits = header.size_fits;
              ignored_fits = header.ignored_fits;
            };
        size_is = d.parts.size_is;
        length_fits = fits;
      };
      size_is = d.size_is;
      reports = reports_more d.commit d.behind more missed d.reports;
      reads = d.reads;
    }

-- so does a parcel
pub parcel_more : (short more bytes : List ℕ) (parcel : Parcel) → bytes ≡ short ++ more → length bytes ≤ 32 + MAX_IMAGE
    → DecodesParcel short parcel → DecodesParcel bytes parcel
parcel_more short more bytes parcel is fits d =
    let has = d.image in
    let image : List ℕ = has.image in
    let n = has.numbers in
    let whole : bytes ≡ with_numbers parcel.cpu parcel.fill parcel.first parcel.missed (image ++ more) =
    is
    ∙ ap (λ (l : List ℕ). l ++ more) n.whole
    ∙ append_assoc (le64 parcel.cpu) (le64 parcel.fill ++ (le64 parcel.first ++ (le64 parcel.missed ++ image))) more
    ∙ ap (λ (l : List ℕ). le64 parcel.cpu ++ l)
    (append_assoc (le64 parcel.fill) (le64 parcel.first ++ (le64 parcel.missed ++ image)) more
    ∙ ap (λ (l : List ℕ). le64 parcel.fill ++ l) (append_assoc (le64 parcel.first) (le64 parcel.missed ++ image) more
    ∙ ap (λ (l : List ℕ). le64 parcel.first ++ l) (append_assoc (le64 parcel.missed) image more))) in
    let len = ap length whole ∙ length-with_numbers parcel.cpu parcel.fill parcel.first parcel.missed (image ++ more) in
    let both = length-append image more in
    let long = n.long in
    record {
      reported = d.reported;
      image = record {
        image = image ++ more;
        numbers = record {
          whole = whole;
          cpu_fits = n.cpu_fits;
          fill_fits = n.fill_fits;
          first_fits = n.first_fits;
          missed_fits = n.missed_fits;
          long = omega (arith, both, long);
        };
        cpu_known = has.cpu_known;
        time = has.time;
        size = has.size;
        reads = image_more image more has.time has.size d.reported parcel.records (omega (arith, len, fits)) has.reads;
      };
      sound = d.sound;
      agrees = d.agrees;
    }

-- memory that is refused for the front is refused for all
pub no_memory_for : {X : Type 0} (short more bytes : List ℕ) (answer : Result X ParcelFault) → bytes ≡ short ++ more
    → length bytes ≤ 32 + MAX_IMAGE → HasReading short → answer ≡ Err NoMemory
    → ((cause : ParcelCause) → (answer ≡ Err (parcel_fault cause)) ↔ FirstParcelFault short cause)
    → IsNoParcel bytes NoMemory
no_memory_for {X} short more bytes answer is fits has refused fault =
    let reads = parcel_more short more bytes has.0 is fits has.1 in
    record {
      first = λ cause. (
        (λ e.
            absurd (DecodesParcel-FirstParcelFault short has.0 cause has.1
            ((fault cause).0 (refused ∙ ap (λ (f : ParcelFault). Err f) e)))),
        (λ f. absurd (DecodesParcel-FirstParcelFault bytes has.0 cause reads f)),
      );
      no_memory = λ same. (has.0, reads);
    }
