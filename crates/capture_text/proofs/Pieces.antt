-- Lines, piece by piece.
use Rattle.std.proofs.Common.{◌≡◌, ℕ, List, [], ◌∷◌, ◌++◌, append_assoc, sym, ap, ◌∙◌}
use Rattle.std.specs.Prelude.{codes}
use Rattle.text_model.specs.Text.{line_feed, space}

pub json_run : (text cpu first last : List ℕ)
    → ((text ++ (codes "{\"cpu\":" ++ cpu ++ codes ",\"missing\":[")) ++ first)
    ++ (codes "," ++ last ++ (codes "]}" ++ line_feed ∷ []))
    ≡ text ++ (codes "{\"cpu\":" ++ cpu ++ codes ",\"missing\":[" ++ first ++ codes "," ++ last ++ codes "]}"
    ++ line_feed ∷ [])
json_run text cpu first last = simp append_assoc

pub page_text : (text cpu number index offset fault : List ℕ)
    → ((((((text ++ (codes "damaged " ++ cpu ++ codes " ")) ++ (number ++ codes " page "))
    ++ (index ++ codes " byte ")) ++ offset) ++ codes ": ") ++ fault) ++ line_feed ∷ []
    ≡ text ++ (codes "damaged " ++ cpu ++ space ∷ number ++ codes " page " ++ index ++ codes " byte " ++ offset
    ++ codes ": " ++ fault ++ line_feed ∷ [])
page_text text cpu number index offset fault = simp append_assoc

pub json_page : (text cpu number index offset fault : List ℕ)
    → ((((((text ++ (codes "{\"cpu\":" ++ cpu ++ codes ",\"damaged\":")) ++ (number ++ codes ",\"page\":"))
    ++ (index ++ codes ",\"byte\":")) ++ offset) ++ codes ",\"fault\":\"") ++ fault) ++ (codes "\"}" ++ line_feed ∷ [])
    ≡ text ++ (codes "{\"cpu\":" ++ cpu ++ codes ",\"damaged\":" ++ number ++ codes ",\"page\":" ++ index
    ++ codes ",\"byte\":" ++ offset ++ codes ",\"fault\":\"" ++ fault ++ codes "\"}" ++ line_feed ∷ [])
json_page text cpu number index offset fault = simp append_assoc

known_pieces : (text pid event print : List ℕ)
    → (((text ++ pid) ++ space ∷ []) ++ event) ++ print ≡ text ++ (pid ++ space ∷ event ++ print)
known_pieces text pid event print = simp append_assoc

pub known : (text pid pid' event event' print print' : List ℕ) → pid ≡ pid' → event ≡ event' → print ≡ print'
    → (((text ++ pid) ++ space ∷ []) ++ event) ++ print ≡ text ++ (pid' ++ space ∷ event' ++ print')
known text pid pid' event event' print print' same_pid same_event same_print =
    known_pieces text pid event print
    ∙ ap (λ (n : List ℕ). text ++ (n ++ space ∷ event ++ print)) same_pid
    ∙ ap (λ (e : List ℕ). text ++ (pid' ++ space ∷ e ++ print)) same_event
    ∙ ap (λ (p : List ℕ). text ++ (pid' ++ space ∷ event' ++ p)) same_print

json_known_pieces : (text pid event print : List ℕ)
    → (((text ++ pid) ++ codes ",\"event\":") ++ event) ++ print
    ≡ text ++ (pid ++ codes ",\"event\":" ++ event ++ print)
json_known_pieces text pid event print = simp append_assoc

pub json_known : (text pid pid' event event' print print' : List ℕ) → pid ≡ pid' → event ≡ event' → print ≡ print'
    → (((text ++ pid) ++ codes ",\"event\":") ++ event) ++ print
    ≡ text ++ (pid' ++ codes ",\"event\":" ++ event' ++ print')
json_known text pid pid' event event' print print' same_pid same_event same_print =
    json_known_pieces text pid event print
    ∙ ap (λ (n : List ℕ). text ++ (n ++ codes ",\"event\":" ++ event ++ print)) same_pid
    ∙ ap (λ (e : List ℕ). text ++ (pid' ++ codes ",\"event\":" ++ e ++ print)) same_event
    ∙ ap (λ (p : List ℕ). text ++ (pid' ++ codes ",\"event\":" ++ event' ++ p)) same_print

five : (a b c d e : List ℕ) → (((a ++ b) ++ c) ++ d) ++ e ≡ a ++ (b ++ (c ++ (d ++ e)))
five a b c d e = simp append_assoc

six : (a b c d e f : List ℕ) → ((((a ++ b) ++ c) ++ d) ++ e) ++ f ≡ a ++ (b ++ (c ++ (d ++ (e ++ f))))
six a b c d e f = simp append_assoc

pub named_pieces : (text cpu number moment named payload : List ℕ)
    → ((((text ++ (cpu ++ space ∷ number ++ space ∷ moment ++ space ∷ [])) ++ named) ++ space ∷ []) ++ payload)
    ++ line_feed ∷ []
    ≡ text ++ (cpu ++ space ∷ number ++ space ∷ moment ++ space ∷ named ++ space ∷ payload ++ line_feed ∷ [])
named_pieces text cpu number moment named payload =
    six text (cpu ++ space ∷ number ++ space ∷ moment ++ space ∷ []) named (space ∷ []) payload (line_feed ∷ [])
    ∙ ap (λ (t : List ℕ). text ++ t)
    (five cpu (space ∷ number) (space ∷ moment) (space ∷ []) (named ++ (space ∷ payload ++ line_feed ∷ []))
    ∙ sym (six cpu (space ∷ number) (space ∷ moment) (space ∷ named) (space ∷ payload) (line_feed ∷ [])))

pub numbers_and_payload : (cpu number moment payload : List ℕ)
    → (cpu ++ space ∷ number ++ space ∷ moment ++ space ∷ []) ++ payload ++ line_feed ∷ []
    ≡ cpu ++ space ∷ number ++ space ∷ moment ++ space ∷ payload ++ line_feed ∷ []
numbers_and_payload cpu number moment payload =
    ap (λ (front : List ℕ). front ++ line_feed ∷ [])
    (append_assoc (cpu ++ space ∷ number ++ space ∷ moment) (space ∷ []) payload)

-- two last parts are put together
pub two_last : (front before last : List ℕ) → front ++ (before ++ last) ≡ front ++ before ++ last
two_last front before last = sym (append_assoc front before last)
