-- What is found to be the same is one.
use Rattle.std.proofs.Common.{◌≡◌, ℕ, true, ◌&&◌, ◌==◌, refl, ap}
use Rattle.std.proofs.lemmas.Bool.{false≢true, eqb-true, and_parts}
use Rattle.trace_model.specs.Frames.{Progress, waiting, left, reserved, Role, owner, helper, Phase, idle, looking}
use Rattle.trace_model.specs.Frames.{claiming, looking_next, marking, clearing, opening, releasing, wishing}
use Rattle.trace_model.specs.Ring.{ReaderPhase, loading_head, loading_done, storing_spare_link, swapping}
use Rattle.step_model.specs.Seen.{ReaderSeen}
use Rattle.step_model.specs.Changes.{same_role, same_state, same_phase, same_reader_phase, same_reader}

role_is : (a b : Role) → same_role a b ≡ true → a ≡ b
role_is owner owner e = refl
role_is helper helper e = refl
role_is _ _ e = absurd (false≢true e)

pub state_is : (a b : Progress) → same_state a b ≡ true → a ≡ b
state_is waiting waiting e = refl
state_is left left e = refl
state_is (reserved number) (reserved other) e = ap reserved (eqb-true number other e)
state_is _ _ e = absurd (false≢true e)

two : (a b c d : ℕ) → (a == c && b == d) ≡ true → (a ≡ c) × (b ≡ d)
two a b c d e = let (x, y) = and_parts (a == c) (b == d) e in (eqb-true a c x, eqb-true b d y)

pub phase_is_one : (a b : Phase) → same_phase a b ≡ true → a ≡ b
phase_is_one idle idle e = refl
phase_is_one (looking noted) (looking o) e = ap looking (eqb-true noted o e)
phase_is_one (claiming noted page) (claiming o p) e = let (x, y) = two noted page o p e in (λ i. claiming (x i) (y i))
phase_is_one (looking_next role noted page) (looking_next r o p) e =
    let (rn, y) = and_parts (same_role role r && noted == o) (page == p) e in
    let (z, x) = and_parts (same_role role r) (noted == o) rn in
    (λ i. looking_next (role_is role r z i) (eqb-true noted o x i) (eqb-true page p y i))
phase_is_one (marking role noted page next) (marking r o p x) e =
    let (rnp, w) = and_parts (same_role role r && noted == o && page == p) (next == x) e in
    let (rn, y) = and_parts (same_role role r && noted == o) (page == p) rnp in
    let (z, v) = and_parts (same_role role r) (noted == o) rn in
    (λ i. marking (role_is role r z i) (eqb-true noted o v i) (eqb-true page p y i) (eqb-true next x w i))
phase_is_one (clearing noted page) (clearing o p) e = let (x, y) = two noted page o p e in (λ i. clearing (x i) (y i))
phase_is_one (opening noted page) (opening o p) e = let (x, y) = two noted page o p e in (λ i. opening (x i) (y i))
phase_is_one releasing releasing e = refl
phase_is_one wishing wishing e = refl
phase_is_one _ _ e = absurd (false≢true e)

reader_phase_is : (a b : ReaderPhase) → same_reader_phase a b ≡ true → a ≡ b
reader_phase_is loading_head loading_head e = refl
reader_phase_is (loading_done page fill) (loading_done p f) e = let (x, y) = two page fill p f e in
    (λ i. loading_done (x i) (y i))
reader_phase_is (storing_spare_link page fill) (storing_spare_link p f) e = let (x, y) = two page fill p f e in
    (λ i. storing_spare_link (x i) (y i))
reader_phase_is (swapping page fill) (swapping p f) e = let (x, y) = two page fill p f e in (λ i. swapping (x i) (y i))
reader_phase_is _ _ e = absurd (false≢true e)

pub reader_is_one : (a b : ReaderSeen) → same_reader a b ≡ true → a ≡ b
reader_is_one a b e =
    let (phs, x) =
    and_parts (same_reader_phase a.phase b.phase && a.hint == b.hint && a.seen == b.seen) (a.expected == b.expected)
    e in
    let (ph, s) = and_parts (same_reader_phase a.phase b.phase && a.hint == b.hint) (a.seen == b.seen) phs in
    let (p, h) = and_parts (same_reader_phase a.phase b.phase) (a.hint == b.hint) ph in
    (λ i. record {
      phase = reader_phase_is a.phase b.phase p i;
      hint = eqb-true a.hint b.hint h i;
      seen = eqb-true a.seen b.seen s i;
      expected = eqb-true a.expected b.expected x i;
    })
