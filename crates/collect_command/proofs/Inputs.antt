-- All inputs, one after the other.
use Rattle.std.proofs.Common.{◌≡◌, ℕ, suc, ◌+◌, ◌<◌, ◌≤◌, Bool, List, [], ◌∷◌, ◌++◌, length, get_or, append_assoc}
use Rattle.std.proofs.Common.{append-nil, length-append, Option, refl, sym, ap, ◌∙◌, subst, arith}
use Rattle.std.proofs.Math.ListN.{set}
use Rattle.std.proofs.Math.Seq.{get_or-append_seam, set-append_seam}
use Rattle.fleet_collector.specs.declared.refusal.PieceRefusal.{PieceRefusal}
use Rattle.parcel_streams.specs.declared.piece.Piece.{Piece}
use Rattle.parcel_streams.specs.declared.source.reader.PieceReader.{PieceReader}
use Rattle.collect_command.specs.declared.streams.read.Stop.{Stop}
use Rattle.collect_command.specs.streams.Reading.{Placed, placed, TakesAll, IsWhole, AreWhole, TakesInput, StopsInput}
use Rattle.collect_command.specs.streams.Reading.{TakesInputs, StopsInputs}
use Rattle.collect_command.proofs.Readings.{takes_both}

module _ {R : Type 0} (remaining : R → Option (List ℕ)) (has_failed : R → Bool) where
  abbrev Reader : Type 0
  Reader = PieceReader R

  -- one input more is whole
  whole_more : (input : ℕ) (olds news : List Reader) (pieces : List Placed) (old new : Reader) (own : List Piece)
      → AreWhole remaining has_failed input olds news pieces → IsWhole remaining has_failed old new own
      → AreWhole remaining has_failed input (olds ++ old ∷ []) (news ++ new ∷ [])
      (pieces ++ placed (input + length olds) 0 own)
  whole_more input [] [] pieces old new own none whole = (
    own,
    [],
    ap (λ ps. ps ++ placed (input + 0) 0 own) none ∙ ap (λ n. placed n 0 own)
        (let e : input + 0 ≡ input = omega arith in e)
        ∙ sym (append-nil (placed input 0 own)),
    whole,
    refl,
  )
  whole_more input [] (n ∷ news) pieces old new own none whole = absurd none
  whole_more input (o ∷ olds) [] pieces old new own none whole = absurd none
  whole_more input (o ∷ olds) (n ∷ news) pieces old new own (first, others, is, one, more) whole = (
    first,
    others ++ placed (suc input + length olds) 0 own,
    ap (λ ps. ps ++ placed (input + suc (length olds)) 0 own) is
        ∙ append_assoc (placed input 0 first) others (placed (input + suc (length olds)) 0 own)
        ∙ ap (λ k. placed input 0 first ++ (others ++ placed k 0 own))
        (let e : input + suc (length olds) ≡ suc input + length olds = omega arith in e),
    one,
    whole_more (suc input) olds news others old new own more whole,
  )

  module _ {S : Type 0} (takes : S → Placed → S → Type 0) (refuses : S → Placed → PieceRefusal → S → Type 0) where
    -- The first inputs, up to this place, were read to their ends, and the others are untouched.
    pub record AreReadSoFar (old now : List Reader) (at : ℕ) (before after : S) : Type 0 where
      pub front : List Reader
      pub front_now : List Reader
      pub behind : List Reader
      pub old_is : old ≡ front ++ behind
      pub now_is : now ≡ front_now ++ behind
      pub at_is : at ≡ length front
      pub at_now_is : at ≡ length front_now
      pub pieces : List Placed
      pub are_whole : AreWhole remaining has_failed 0 front front_now pieces
      pub taken : TakesAll takes before pieces after

    pub none_read : (inputs : List Reader) (state : S) → AreReadSoFar inputs inputs 0 state state
    none_read inputs state = record {
      front = [];
      front_now = [];
      behind = inputs;
      old_is = refl;
      now_is = refl;
      at_is = refl;
      at_now_is = refl;
      pieces = [];
      are_whole = refl;
      taken = refl;
    }

    -- what is at the place: an input of which nothing was read
    pub record IsNext (old now : List Reader) (at : ℕ) (before after : S) (this : Reader)
        (so_far : AreReadSoFar old now at before after) : Type 0 where
      pub rest : List Reader
      pub behind_is : so_far.behind ≡ this ∷ rest

    pub next_input : (old now : List Reader) (at : ℕ) (before after : S) (this : Reader)
        (so_far : AreReadSoFar old now at before after) → at < length now → this ≡ get_or now at this
        → IsNext old now at before after this so_far
    next_input old now at before after this so_far within is = by so_far.behind so_far.now_is refl
      where
        by : (behind : List Reader) → now ≡ so_far.front_now ++ behind → so_far.behind ≡ behind
            → IsNext old now at before after this so_far
        by [] now_is same =
            let long = ap length now_is in
            let none : List Reader = [] in
            let joined = length-append so_far.front_now none in
            let here = so_far.at_now_is in
            absurd (omega arith)
        by (x ∷ rest) now_is same =
            let first : get_or now at this ≡ x =
            ap (λ xs. get_or xs at this) now_is ∙ ap (λ n. get_or (so_far.front_now ++ x ∷ rest) n this)
            so_far.at_now_is
            ∙ get_or-append_seam so_far.front_now x rest this in
            record { rest = rest; behind_is = same ∙ ap (λ y. y ∷ rest) (sym (is ∙ first)) }

    -- it is as it was at first
    pub as_first : (old now : List Reader) (at : ℕ) (before after : S) (this : Reader)
        (so_far : AreReadSoFar old now at before after) → IsNext old now at before after this so_far
        → (get_or old at this ≡ this) × (at < length old)
    as_first old now at before after this so_far next =
        let old_is : old ≡ so_far.front ++ this ∷ next.rest = so_far.old_is ∙ ap (λ xs. so_far.front ++ xs)
        next.behind_is in
        let long = ap length old_is in
        let joined = length-append so_far.front (this ∷ next.rest) in
        let here = so_far.at_is in (
          ap (λ xs. get_or xs at this) old_is ∙ ap (λ n. get_or (so_far.front ++ this ∷ next.rest) n this) so_far.at_is
              ∙ get_or-append_seam so_far.front this next.rest this,
          omega arith,
        )

    new_list : (old now : List Reader) (at : ℕ) (before after : S) (this new : Reader)
        (so_far : AreReadSoFar old now at before after) (next : IsNext old now at before after this so_far)
        → set now at new ≡ so_far.front_now ++ new ∷ next.rest
    new_list old now at before after this new so_far next =
        ap (λ xs. set xs at new) (so_far.now_is ∙ ap (λ xs. so_far.front_now ++ xs) next.behind_is)
        ∙ ap (λ n. set (so_far.front_now ++ this ∷ next.rest) n new) so_far.at_now_is
        ∙ set-append_seam so_far.front_now this next.rest new

    pub one_read : (old now : List Reader) (at : ℕ) (before between after : S) (this new : Reader)
        (so_far : AreReadSoFar old now at before between) → IsNext old now at before between this so_far
        → TakesInput remaining has_failed takes refuses at this new between after
        → AreReadSoFar old (set now at new) (at + 1) before after
    one_read old now at before between after this new so_far next one =
        let n = so_far.at_is in
        let m = so_far.at_now_is in
        let long = length-append so_far.front (this ∷ []) in
        let long_now = length-append so_far.front_now (new ∷ []) in
        let places : placed at 0 one.pieces ≡ placed (0 + length so_far.front) 0 one.pieces =
        ap (λ k. placed k 0 one.pieces) (let e : at ≡ 0 + length so_far.front = omega arith in e) in
        record {
          front = so_far.front ++ this ∷ [];
          front_now = so_far.front_now ++ new ∷ [];
          behind = next.rest;
          old_is = so_far.old_is ∙ ap (λ xs. so_far.front ++ xs) next.behind_is ∙ sym
              (append_assoc so_far.front (this ∷ []) next.rest);
          now_is = new_list old now at before between this new so_far next
              ∙ sym (append_assoc so_far.front_now (new ∷ []) next.rest);
          at_is = omega arith;
          at_now_is = omega arith;
          pieces = so_far.pieces ++ placed (0 + length so_far.front) 0 one.pieces;
          are_whole = whole_more 0 so_far.front so_far.front_now so_far.pieces this new one.pieces so_far.are_whole
              one.whole;
          taken = takes_both takes before so_far.pieces between (placed (0 + length so_far.front) 0 one.pieces) after
              so_far.taken
              (subst (λ xs. TakesAll takes between xs after) places one.taken);
        }

    pub stops_here : (old now : List Reader) (at : ℕ) (before between after : S) (this new : Reader) (stop : Stop)
        (so_far : AreReadSoFar old now at before between) → IsNext old now at before between this so_far
        → StopsInput remaining has_failed takes refuses at this new between after stop
        → StopsInputs remaining has_failed takes refuses old (set now at new) before after record
        { input = at; stop = stop }
    stops_here old now at before between after this new stop so_far next one = record {
      front = so_far.front;
      front_new = so_far.front_now;
      this = this;
      this_new = new;
      behind = next.rest;
      old_is = so_far.old_is ∙ ap (λ xs. so_far.front ++ xs) next.behind_is;
      new_is = new_list old now at before between this new so_far next;
      input_is = so_far.at_is;
      pieces = so_far.pieces;
      are_whole = so_far.are_whole;
      between = between;
      taken = so_far.taken;
      here = one;
    }

    pub all_read : (old now : List Reader) (at : ℕ) (before after : S) → length old ≤ at
        → AreReadSoFar old now at before after → TakesInputs remaining has_failed takes refuses old now before after
    all_read old now at before after all so_far = by so_far.behind so_far.old_is so_far.now_is
      where
        by : (behind : List Reader) → old ≡ so_far.front ++ behind → now ≡ so_far.front_now ++ behind
            → TakesInputs remaining has_failed takes refuses old now before after
        by [] old_is now_is = record {
          pieces = so_far.pieces;
          are_whole = subst (λ xs. AreWhole remaining has_failed 0 xs now so_far.pieces)
              (sym (old_is ∙ append-nil so_far.front))
              (subst (λ xs. AreWhole remaining has_failed 0 so_far.front xs so_far.pieces)
              (sym (now_is ∙ append-nil so_far.front_now)) so_far.are_whole);
          taken = so_far.taken;
        }
        by (x ∷ rest) old_is now_is =
            let long = ap length old_is in
            let joined = length-append so_far.front (x ∷ rest) in
            let here = so_far.at_is in
            absurd (omega arith)
