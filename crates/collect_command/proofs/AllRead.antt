-- All inputs, one after the other, each read as a region.
use Rattle.std.proofs.Common.{◌≡◌, ◌↔◌, ℕ, ◌+◌, ◌<◌, Bool, true, false, All, List, [], ◌∷◌, ◌++◌}
use Rattle.std.proofs.Common.{length, get_or, append_assoc, length-append, Option, refl, sym, ap, ◌∙◌}
use Rattle.std.proofs.Common.{subst, arith}
use Rattle.std.proofs.Math.ListN.{set}
use Rattle.std.proofs.Math.Seq.{get_or-append_seam, set-append_seam}
use Rattle.command_io.specs.CommandRun.{TakesAtMost}
use Rattle.std.proofs.lemmas.List.Elements.{All-nil, All-cons}
use Rattle.trace_model.specs.declared.limits.TheConstants.{MAX_CPUS, MAX_INPUT}
use Rattle.ring_region.specs.declared.headers.Header.{Header}
use Rattle.ring_region.specs.declared.regions.Region.{Region}
use Rattle.collect_command.specs.declared.recovery.read.Unread.{Unread}
use Rattle.collect_command.specs.recovery.Reading.{ReadsRegion, AreRead, IsWhy, StopsReading}

-- what holds only if a flag is set doesn't hold if it can't be
pub not_set : {A : Type 0} (b : Bool) → ((b ≡ true) ↔ A) → (A → ⊥) → b ≡ false
not_set true both none = absurd (none (both.0 refl))
not_set false both none = refl

module _ {R : Type 0} (remaining : R → Option (List ℕ)) (count : R → ℕ) (has_failed : R → Bool) where
  -- one input more was read
  read_more : (olds news : List R) (regions : List Region) (old new : R) (region : Region)
      → AreRead remaining count has_failed olds news regions → ReadsRegion remaining count has_failed old new region
      → AreRead remaining count has_failed (olds ++ old ∷ []) (news ++ new ∷ []) (regions ++ region ∷ [])
  read_more [] [] [] old new region none one = (one, tt)
  read_more [] [] (x ∷ xs) old new region none one = absurd none
  read_more [] (n ∷ news) regions old new region none one = absurd none
  read_more (o ∷ olds) [] regions old new region none one = absurd none
  read_more (o ∷ olds) (n ∷ news) [] old new region none one = absurd none
  read_more (o ∷ olds) (n ∷ news) (r ∷ regions) old new region (first, more) one =
      (first, read_more olds news regions old new region more one)

  -- The first inputs, up to this place, were read, and the others are untouched.
  pub record AreReadSoFar (old now : List R) (at : ℕ) (regions : List Region) : Type 0 where
    pub front : List R
    pub front_now : List R
    pub behind : List R
    pub old_is : old ≡ front ++ behind
    pub now_is : now ≡ front_now ++ behind
    pub at_is : at ≡ length front
    pub at_now_is : at ≡ length front_now
    pub are_read : AreRead remaining count has_failed front front_now regions

  pub none_read : (inputs : List R) → AreReadSoFar inputs inputs 0 []
  none_read inputs = record {
    front = [];
    front_now = [];
    behind = inputs;
    old_is = refl;
    now_is = refl;
    at_is = refl;
    at_now_is = refl;
    are_read = tt;
  }

  -- what is at the place: an input of which nothing was read
  pub record IsNext (old now : List R) (at : ℕ) (regions : List Region) (this : R)
      (so_far : AreReadSoFar old now at regions) : Type 0 where
    pub rest : List R
    pub behind_is : so_far.behind ≡ this ∷ rest

  pub next_input : (old now : List R) (at : ℕ) (regions : List Region) (this : R)
      (so_far : AreReadSoFar old now at regions) → at < length now → this ≡ get_or now at this
      → IsNext old now at regions this so_far
  next_input old now at regions this so_far within is = by so_far.behind so_far.now_is refl
    where
      by : (behind : List R) → now ≡ so_far.front_now ++ behind → so_far.behind ≡ behind
          → IsNext old now at regions this so_far
      by [] now_is same =
          let long = ap length now_is in
          let none : List R = [] in
          let joined = length-append so_far.front_now none in
          let here = so_far.at_now_is in
          absurd (omega arith)
      by (x ∷ rest) now_is same =
          let first : get_or now at this ≡ x =
          ap (λ xs. get_or xs at this) now_is ∙ ap (λ n. get_or (so_far.front_now ++ x ∷ rest) n this)
          so_far.at_now_is
          ∙ get_or-append_seam so_far.front_now x rest this in
          record { rest = rest; behind_is = same ∙ ap (λ y. y ∷ rest) (sym (is ∙ first)) }

  -- it is as it was at first
  pub as_first : (old now : List R) (at : ℕ) (regions : List Region) (this : R)
      (so_far : AreReadSoFar old now at regions) → IsNext old now at regions this so_far
      → (get_or old at this ≡ this) × (at < length old)
  as_first old now at regions this so_far next =
      let old_is : old ≡ so_far.front ++ this ∷ next.rest = so_far.old_is ∙ ap (λ xs. so_far.front ++ xs)
      next.behind_is in
      let long = ap length old_is in
      let joined = length-append so_far.front (this ∷ next.rest) in
      let here = so_far.at_is in (
        ap (λ xs. get_or xs at this) old_is ∙ ap (λ n. get_or (so_far.front ++ this ∷ next.rest) n this) so_far.at_is
            ∙ get_or-append_seam so_far.front this next.rest this,
        omega arith,
      )

  new_list : (old now : List R) (at : ℕ) (regions : List Region) (this new : R)
      (so_far : AreReadSoFar old now at regions) (next : IsNext old now at regions this so_far)
      → set now at new ≡ so_far.front_now ++ new ∷ next.rest
  new_list old now at regions this new so_far next =
      ap (λ xs. set xs at new) (so_far.now_is ∙ ap (λ xs. so_far.front_now ++ xs) next.behind_is)
      ∙ ap (λ n. set (so_far.front_now ++ this ∷ next.rest) n new) so_far.at_now_is
      ∙ set-append_seam so_far.front_now this next.rest new

  pub one_read : (old now : List R) (at : ℕ) (regions : List Region) (this new : R) (region : Region)
      (so_far : AreReadSoFar old now at regions) → IsNext old now at regions this so_far
      → ReadsRegion remaining count has_failed this new region
      → AreReadSoFar old (set now at new) (at + 1) (regions ++ region ∷ [])
  one_read old now at regions this new region so_far next one =
      let n = so_far.at_is in
      let m = so_far.at_now_is in
      let long = length-append so_far.front (this ∷ []) in
      let long_now = length-append so_far.front_now (new ∷ []) in
      record {
        front = so_far.front ++ this ∷ [];
        front_now = so_far.front_now ++ new ∷ [];
        behind = next.rest;
        old_is = so_far.old_is ∙ ap (λ xs. so_far.front ++ xs) next.behind_is ∙ sym
            (append_assoc so_far.front (this ∷ []) next.rest);
        now_is = new_list old now at regions this new so_far next
            ∙ sym (append_assoc so_far.front_now (new ∷ []) next.rest);
        at_is = omega arith;
        at_now_is = omega arith;
        are_read = read_more so_far.front so_far.front_now regions this new region so_far.are_read one;
      }

  pub stops_here : (old now : List R) (at : ℕ) (regions : List Region) (this new : R) (why : Unread)
      (so_far : AreReadSoFar old now at regions) → IsNext old now at regions this so_far
      → IsWhy remaining count has_failed this new why
      → StopsReading remaining count has_failed old (set now at new) record { input = at; why = why }
  stops_here old now at regions this new why so_far next is = record {
    front = so_far.front;
    front_new = so_far.front_now;
    this = this;
    this_new = new;
    behind = next.rest;
    old_is = so_far.old_is ∙ ap (λ xs. so_far.front ++ xs) next.behind_is;
    new_is = new_list old now at regions this new so_far next;
    input_is = so_far.at_is;
    regions = regions;
    are_read = so_far.are_read;
    why = is;
  }

  -- a region that was read is one for which memory can be refused
  pub taken_whole : (old new : R) (region : Region) → ReadsRegion remaining count has_failed old new region
      → TakesAtMost MAX_INPUT (remaining old) (remaining new)
  taken_whole old new region read = (read.bytes, read.whole.taken, read.whole.short)

  -- each region's CPU is one that there is
  pub all_known : (olds news : List R) (regions : List Region) → AreRead remaining count has_failed olds news regions
      → All (λ region. region.header.cpu.0 < MAX_CPUS) regions
  all_known [] [] [] read = All-nil (λ (region : Region). region.header.cpu.0 < MAX_CPUS)
  all_known [] [] (x ∷ xs) read = absurd read
  all_known [] (n ∷ news) regions read = absurd read
  all_known (o ∷ olds) [] regions read = absurd read
  all_known (o ∷ olds) (n ∷ news) [] read = absurd read
  all_known (o ∷ olds) (n ∷ news) (r ∷ regions) (one, more) =
      All-cons (λ (region : Region). region.header.cpu.0 < MAX_CPUS) r regions
      (subst (λ (header : Header). header.cpu.0 < MAX_CPUS) (sym one.is_region.header_is)
      one.is_region.whole.stated.cpu.known)
      (all_known olds news regions more)
