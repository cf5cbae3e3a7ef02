-- The tail page of a writer without a frame, and the parcel of its newest records.
use Rattle.std.proofs.Common.{◌≡◌, ℕ, ◌+◌, ◌^◌, ◌<◌, drop, ap, ◌∙◌, subst, arith}
use Rattle.trace_model.specs.declared.limits.TheConstants.{MAX_CPUS}
use Rattle.trace_model.specs.ParcelBytes.{IsParcel, DecodesParcel}
use Rattle.trace_model.specs.History.{committed_records}
use Rattle.page_image.specs.Contents.{Contents, records_of_page, IsPage}
use Rattle.page_numbers.specs.Parcels.{parcel_of_page}
use Rattle.page_numbers.specs.Written.{bytes_of_page}
use Rattle.library_values.specs.Used.{used_page}
use Rattle.ring_shared.specs.Value.{WriterValue}
use Rattle.tracering_c.specs.Calls.{ReadsAs}
use Rattle.tracering_c.specs.Peeks.{IsTailOf, newest_records, newest_parcel}

module _ (cpu : ℕ) (writer : WriterValue) (page : Contents) (tail : IsTailOf writer page) where
  records_are : records_of_page page ≡ newest_records writer
  records_are = tail.newest ∙ ap (λ (n : ℕ). drop n (committed_records writer.part.history)) tail.written.first_is

  parcel_is : parcel_of_page cpu page 0 ≡ newest_parcel cpu writer
  parcel_is = λ i. record {
    cpu = cpu;
    fill = tail.written.fill_is i;
    first = tail.written.first_is i;
    missed = 0;
    records = records_are i;
  }

  pub reads_newest : cpu < MAX_CPUS → page.first + page.count < 2 ^ 64
      → (IsPage page → IsParcel (parcel_of_page cpu page 0)
      → DecodesParcel (bytes_of_page cpu page 0) (parcel_of_page cpu page 0))
      → (IsPage page → IsParcel (parcel_of_page cpu page 0)
      → DecodesParcel (bytes_of_page cpu (used_page page 0) 0) (parcel_of_page cpu page 0))
      → ReadsAs cpu page 0 (newest_parcel cpu writer)
  reads_newest known fit reads used_reads =
      let counted = tail.written.page_reads.counted in
      let sound : IsParcel (parcel_of_page cpu page 0) =
      record { cpu_known = known; numbers_fit = omega arith; missed_fit = omega arith } in
      subst (ReadsAs cpu page 0) parcel_is record {
        whole = reads tail.written.page_reads sound;
        used = used_reads tail.written.page_reads sound;
      }
