-- A text has one output of the command `dump`: the same bytes, with the same exit status.
use Rattle.std.proofs.Common.{◌≡◌, ℕ, List, inl, inr, sym, ap, ◌∙◌}
use Rattle.trace_model.proofs.images.Images.{DecodesImage-FirstImageFault, DecodesImage-unique, FirstImageFault-unique}
use Rattle.text_model.specs.Printing.{printed_image, printed_image_fault}
use Rattle.dump_command.specs.Dumps.{PrintsImage, PrintsImageFault, DumpGives}

same_images : (text bytes others : List ℕ) (status other : ℕ) → PrintsImage text bytes status
    → PrintsImage text others other → (bytes ≡ others) × (status ≡ other)
same_images text bytes others status other a b =
    let same =
    DecodesImage-unique text a.time b.time a.size b.size a.missed b.missed a.records b.records a.reads b.reads in (
      a.printed
          ∙ (λ i. printed_image (same.0 i) (same.1 i) (same.2 i) (same.3 i))
          ∙ sym b.printed,
      a.done ∙ sym b.done,
    )

same_image_faults : (text bytes others : List ℕ) (status other : ℕ) → PrintsImageFault text bytes status
    → PrintsImageFault text others other → (bytes ≡ others) × (status ≡ other)
same_image_faults text bytes others status other a b = (
  a.printed
      ∙ ap printed_image_fault (FirstImageFault-unique text a.cause b.cause a.first b.first)
      ∙ sym b.printed,
  a.refused ∙ sym b.refused,
)

pub one_dump : (text bytes others : List ℕ) (status other : ℕ) → DumpGives text bytes status
    → DumpGives text others other → (bytes ≡ others) × (status ≡ other)
one_dump text bytes others status other (inl a) (inl b) = same_images text bytes others status other a b
one_dump text bytes others status other (inl a) (inr b) =
    absurd (DecodesImage-FirstImageFault text a.time a.size a.missed a.records b.cause a.reads b.first)
one_dump text bytes others status other (inr a) (inl b) =
    absurd (DecodesImage-FirstImageFault text b.time b.size b.missed b.records a.cause b.reads a.first)
one_dump text bytes others status other (inr a) (inr b) = same_image_faults text bytes others status other a b
