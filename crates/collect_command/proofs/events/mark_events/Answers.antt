use Rattle.std.proofs.Common.{◌≡◌, ◌++◌, ◌∷◌, ℕ, suc, Bool, List, [], Option, refl, sym, ap, ap₂, ◌∙◌, arith}
use Rattle.trace_dat.specs.kernel_texts.Names.{Event, events_of}
use Rattle.collect_command.specs.Patterns.{is_named_event, marks_below}
use Rattle.collect_command.proofs.events.mark_events.Goals as goal

none_below : (pattern : List ℕ) (event_by : ℕ → Option Event) → marks_below pattern event_by 0 ≡ []
unfolding marks_below
none_below pattern event_by = refl

one_more : (pattern : List ℕ) (event_by : ℕ → Option Event) (id next : ℕ) (event : Option Event) (mark : Bool)
    (front all : List Bool) → all ≡ front ++ mark ∷ [] → front ≡ marks_below pattern event_by id
    → mark ≡ is_named_event pattern event → event ≡ event_by id → next ≡ suc id
    → all ≡ marks_below pattern event_by next
unfolding marks_below
one_more pattern event_by id next event mark front all is before marked found follows =
    is ∙ ap₂ (λ (first : List Bool) (last : Bool). first ++ last ∷ []) before
    (marked ∙ ap (is_named_event pattern) found)
    ∙ ap (marks_below pattern event_by) (sym follows)

pub loop-id-init : goal.loop-id-init
loop-id-init c = c.new-marks.ensures.items ∙ sym (none_below c.args.pattern.now (events_of c.args.names.now))

pub loop-id-preserved : goal.loop-id-preserved
loop-id-preserved c =
    one_more c.args.pattern.now (events_of c.args.names.now) c.loop-id.id _ _ _ _ _ c.in_ok-push.ensures.items
    c.loop-id.invariant c.in_ok-mark.ensures c.event.ensures (omega arith)
