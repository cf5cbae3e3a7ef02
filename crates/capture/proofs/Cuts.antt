-- The pages of parts, and of one part more.
use Rattle.std.proofs.Common.{◌≡◌, ◌∙◌, ◌+◌, List, [], ◌∷◌, ◌++◌, length, refl, sym, ap, subst, arith, append-nil}
use Rattle.std.proofs.Common.{append_assoc}
use Rattle.capture.specs.Pages.{Page, AreCut}
use Rattle.capture.specs.files.Files.{ModelPart, bytes_in}
use Rattle.capture.specs.files.Captures.{CutsOf}

pub cuts-append : (parts : List ModelPart) (pages : List Page) (part : ModelPart) (own : List Page) → CutsOf parts pages
    → AreCut part.size part.bytes own → CutsOf (parts ++ part ∷ []) (pages ++ own)
cuts-append [] pages part own none cut = (
  own,
  [],
  subst (λ (ps : List Page). ps ++ own ≡ own ++ []) (sym none) (sym (append-nil own)),
  cut,
  refl,
)
cuts-append (first ∷ parts) pages part own (front, others, is, here, more) cut = (
  front,
  others ++ own,
  ap (λ (ps : List Page). ps ++ own) is ∙ append_assoc front others own,
  here,
  cuts-append parts others part own more cut,
)

pub bytes-append : (parts : List ModelPart) (part : ModelPart)
    → bytes_in (parts ++ part ∷ []) ≡ bytes_in parts + length part.bytes
bytes-append [] part = omega arith
bytes-append (first ∷ parts) part = omega (arith, bytes-append parts part)
