-- Events by their numbers, as formats come one after the other.
use Rattle.std.proofs.Common.{◌≡◌, ℕ, ◌+◌, ◌<◌, List, [], ◌∷◌, ◌++◌, length, get_or, take, map, Option, Some, None}
use Rattle.std.proofs.Common.{refl, sym, ap, ◌∙◌, append_assoc}
use Rattle.std.proofs.lemmas.List.{map-append, length-map, take-map, take_more}
use Rattle.std.specs.Prelude.{Result, Ok, Err, OnErr}
use Rattle.trace_dat.specs.declared.contents.Format.{Format}
use Rattle.trace_dat.specs.Contents.{EventFormat, format_seen}
use Rattle.trace_dat.specs.declared.kernel_texts.names.EventNames.{EventNames}
use Rattle.trace_dat.specs.kernel_texts.Names.{Event, described_in, event_under, first_of, event_of, events_of}
use Rattle.trace_dat.specs.kernel_texts.Names.{HasEvents}
use Rattle.trace_dat.specs.kernel_texts.Names.{HasEventsOfSome}

regroup : (a b c : Option Event) → first_of (first_of a b) c ≡ first_of a (first_of b c)
regroup (Some x) b c = refl
regroup None b c = refl

before_none : (a : Option Event) → a ≡ first_of a None
before_none (Some x) = refl
before_none None = refl

-- the event of a number, by a format more
event_of_more : (id : ℕ) (formats : List EventFormat) (format : EventFormat)
    → event_of id (formats ++ format ∷ []) ≡ first_of (event_under id (described_in format)) (event_of id formats)
event_of_more id [] format = before_none (event_under id (described_in format))
event_of_more id (f ∷ formats) format =
    ap (λ e. first_of e (event_under id (described_in f))) (event_of_more id formats format)
    ∙ regroup (event_under id (described_in format)) (event_of id formats) (event_under id (described_in f))

-- the formats so far, and one more
one_more : (known : List EventFormat) (formats : List Format) (i : ℕ) (d : Format) → i < length formats
    → known ++ map format_seen (take (i + 1) formats)
    ≡ (known ++ map format_seen (take i formats)) ++ format_seen (get_or formats i d) ∷ []
one_more known formats i d below =
    ap (λ fs. known ++ map format_seen fs) (take_more formats i d below)
    ∙ ap (λ fs. known ++ fs) (map-append format_seen (take i formats) (get_or formats i d ∷ []))
    ∙ sym (append_assoc known (map format_seen (take i formats)) (format_seen (get_or formats i d) ∷ []))

-- the event of a number, if one more of the formats is known
pub event_goes_on : (id : ℕ) (known : List EventFormat) (formats : List Format) (i : ℕ) (d : Format)
    (old new : Option Event) → i < length formats
    → new ≡ first_of (event_under id (described_in (format_seen (get_or formats i d)))) old
    → old ≡ event_of id (known ++ map format_seen (take i formats))
    → new ≡ event_of id (known ++ map format_seen (take (i + 1) formats))
event_goes_on id known formats i d old new below step so_far =
    step
    ∙ ap (λ e. first_of (event_under id (described_in (format_seen (get_or formats i d)))) e) so_far
    ∙ sym (event_of_more id (known ++ map format_seen (take i formats)) (format_seen (get_or formats i d)))
    ∙ sym (ap (λ fs. event_of id fs) (one_more known formats i d below))

-- if the events are those of the formats before an index, they are those of some of the formats
pub events_of_some : (names names' : EventNames) (known : List EventFormat) (formats : List Format) (i : ℕ)
    → i < length formats → ((id : ℕ) → events_of names' id ≡ events_of names id)
    → HasEvents names (known ++ map format_seen (take i formats))
    → HasEventsOfSome names' known (map format_seen formats)
events_of_some names names' known formats i below same has = (
  i,
  rw length-map below,
  λ id. same id ∙ has id ∙ sym (ap (λ fs. event_of id (known ++ fs)) (take-map format_seen i formats)),
)

pub on_err : {A E P : Type 0} (result : Result A E) → P → OnErr result P
on_err (Ok x) p = tt
on_err (Err e) p = p
