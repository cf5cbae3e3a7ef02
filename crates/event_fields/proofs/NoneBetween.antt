-- Numbers between which no event is: they add nothing to what is listed.
use Rattle.std.proofs.Common.{◌≡◌, ℕ, zero, suc, ◌<◌, ◌≤◌, ◌++◌, List, [], Option, Some, None, inl, inr, refl, sym, ap}
use Rattle.std.proofs.Common.{◌∙◌, arith, append-nil}
use Rattle.std.proofs.lemmas.Bool.{cases_lt}
use Rattle.trace_dat.specs.kernel_texts.Names.{Event}
use Rattle.event_fields.specs.Events.{Listed, fields_of_event}
use Rattle.event_fields.specs.Malformed.{Malformed, malformed_in, malformed_of, malformed_below}

-- no event has a number from the first one on and below the second
abbrev pub NoneBetween : (ℕ → Option Event) → ℕ → ℕ → Type 0
NoneBetween event_by from to = (id : ℕ) → from ≤ id → id < to → event_by id ≡ None

pub none_malformed : (event_by : ℕ → Option Event) (from to : ℕ) → from ≤ to → NoneBetween event_by from to
    → malformed_below event_by to ≡ malformed_below event_by from
unfolding malformed_below
none_malformed event_by from zero forward none =
    let same : zero ≡ from = omega (arith, forward) in
    ap (malformed_below event_by) same
none_malformed event_by from (suc last) forward none =
    elim (cases_lt last from) [
      | inl at_last ↦ let same : suc last ≡ from = omega (arith, forward, at_last) in
          ap (malformed_below event_by) same
      | inr before ↦ ap (λ event. malformed_below event_by last ++ malformed_of event) (none last before (omega arith))
          ∙ append-nil (malformed_below event_by last)
          ∙ none_malformed event_by from last before (λ id above below. none id above (omega (arith, below)))
    ]

pub none_below : (event_by : ℕ → Option Event) → malformed_below event_by 0 ≡ []
unfolding malformed_below
none_below event_by = refl

-- the next event, if it is malformed, after those below
pub one_more : (event_by : ℕ → Option Event) (from id next : ℕ) (event : Event) (said : Option Listed)
    (front all : List Malformed) → all ≡ front ++ malformed_in event said → front ≡ malformed_below event_by from
    → from ≤ id → NoneBetween event_by from id → event_by id ≡ Some event → said ≡ fields_of_event (event_by id)
    → next ≡ suc id → all ≡ malformed_below event_by next
unfolding malformed_below
one_more event_by from id next event said front all is before forward none there known follows =
    let kept : front ≡ malformed_below event_by id = before ∙ sym (none_malformed event_by from id forward none) in
    let saying : said ≡ fields_of_event (Some event) = known ∙ ap fields_of_event there in
    is ∙ ap (λ list. list ++ malformed_in event said) kept
    ∙ ap (λ list. malformed_below event_by id ++ malformed_in event list) saying
    ∙ ap (λ found. malformed_below event_by id ++ malformed_of found) (sym there)
    ∙ ap (malformed_below event_by) (sym follows)
