-- The bytes of a field are a piece of the payload.
use Rattle.std.proofs.Common.{◌≡◌, ℕ, ◌+◌, ◌≤◌, ltb, List, length, take, drop, Some, None, sym}
use Rattle.std.proofs.Common.{◌∙◌, ap, inl, inr, arith, length-take, length-drop}
use Rattle.std.proofs.lemmas.Bool.{ltb-false, cases_Bool, cond-true, cond-false}
use Rattle.std.proofs.lemmas.List.{take_all}
use Rattle.std.proofs.lemmas.Option.{same_Some, none-some}
use Rattle.event_fields.specs.declared.field.Layout.{Layout}
use Rattle.event_fields.specs.declared.field.Place.{Place}
use Rattle.event_fields.specs.declared.field.Place.TheVariants.{Here, Rest, Located, Relative}
use Rattle.event_fields.specs.Cutting.{piece, placed, bytes_of, own_size}
use Rattle.event_fields.specs.Laws.{IsPiece}

-- this number of bytes from an offset on
is_piece : (at count : ℕ) (bytes found : List ℕ) → at + count ≤ length bytes → take count (drop at bytes) ≡ found
    → IsPiece found bytes
is_piece at count bytes found within is =
    let len : length found ≡ count =
    ap length (sym is) ∙ simp (length-take, length-drop) (omega arith) in
    record { at = at; within = omega arith; same = sym is ∙ ap (λ n. take n (drop at bytes)) (sym len) }

piece_found : (at count : ℕ) (bytes found : List ℕ) → piece at count bytes ≡ Some found → IsPiece found bytes
unfolding piece
piece_found at count bytes found h =
    elim (cases_Bool (ltb (length bytes) (at + count))) [
      | inl beyond ↦ absurd (none-some found (sym (cond-true _ None (Some (take count (drop at bytes))) beyond) ∙ h))
      | inr within ↦ is_piece at count bytes found (ltb-false _ _ within)
          (same_Some _ _ (sym (cond-false _ None (Some (take count (drop at bytes))) within) ∙ h))
    ]

placed_found : (place : Place) (at : ℕ) (bytes found : List ℕ) → at + own_size place ≤ length bytes
    → placed place at bytes ≡ Some found → IsPiece found bytes
placed_found (Here size) at bytes found own h = piece_found at size bytes found h
placed_found Rest at bytes found own h =
    let is : drop at bytes ≡ found = same_Some _ _ h in
    is_piece at (length found) bytes found
    (omega (arith, ap length (sym is) ∙ length-drop at bytes))
    (ap (λ b. take (length found) b) is ∙ take_all (length found) found (omega arith))
placed_found Located at bytes found own h = piece_found _ _ bytes found h
placed_found Relative at bytes found own h = piece_found _ _ bytes found h

pub bytes_found : (layout : Layout) (payload found : List ℕ) → bytes_of layout payload ≡ Some found
    → IsPiece found payload
unfolding bytes_of
bytes_found layout payload found h =
    elim (cases_Bool (ltb (length payload) (layout.at + own_size layout.place))) [
      | inl beyond ↦ absurd (none-some found (sym (cond-true _ None _ beyond) ∙ h))
      | inr within ↦ placed_found layout.place layout.at payload found (ltb-false _ _ within)
          (sym (cond-false _ None _ within) ∙ h)
    ]
