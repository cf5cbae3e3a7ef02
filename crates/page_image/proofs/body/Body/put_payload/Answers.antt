use Rattle.std.proofs.Common.{◌≡◌, ◌+◌, ◌-◌, List, ℕ, length, drop, sym, subst, ap, ◌∙◌, arith, length-drop}
use Rattle.std.proofs.lemmas.List.{with_items_is}
use Rattle.std.specs.Vec.{with_items}
use Rattle.trace_model.specs.Words.{padded}
use Rattle.record_words.specs.declared.put.Place.{Place}
use Rattle.page_image.specs.Putting.{PutsBehind}
use Rattle.page_image.proofs.Bodies.{slot_len_is, puts_in_data}
use Rattle.page_image.proofs.body.Body.put_payload.Goals as goal

pub overflow_add-end : goal.overflow_add-end
overflow_add-end c =
    let long = slot_len_is c.self.inside.slot.items c.args.self.now c.self.view_is c.self.invariant.0 in
    let limit = c.self.invariant.1 in
    omega (arith, c.requires.fits.room)

pub put_payload_behind-place-requires : goal.put_payload_behind-place-requires
put_payload_behind-place-requires c =
    let long = slot_len_is c.self.inside.slot.items c.args.self.now c.self.view_is c.self.invariant.0 in
    let same = ap length c.deref_mut.ensures.value in record {
      short = c.requires.fits.short;
      in_time = c.requires.fits.in_time;
      room = omega (arith, c.requires.fits.room);
    }

pub returns-clause-put : goal.returns-clause-put
returns-clause-put c =
    let slot = c.self.inside.slot in
    let new = c.put_payload_behind-place.new.body in
    let long = slot_len_is slot.items c.args.self.now c.self.view_is c.self.invariant.0 in
    let items_are : (with_items slot new).items ≡ new = with_items_is slot new (omega arith) in
    let put =
    subst
    (λ (was : List ℕ).
    PutsBehind was new (48 + c.args.end) c.args.delta c.args.first (length c.args.payload.now)
    (padded c.args.payload.now) c.put_payload_behind-place.result) c.deref_mut.ensures.value
    c.put_payload_behind-place.ensures in
    let place : Place =
    record { start = c.put_payload_behind-place.result.start - 48; len = c.put_payload_behind-place.result.len } in
    subst
    (λ (was : List ℕ).
    PutsBehind was (drop 48 (with_items slot new).items) c.args.end c.args.delta c.args.first
    (length c.args.payload.now) (padded c.args.payload.now) place) c.self.view_is
    (subst
    (λ (is : List ℕ).
    PutsBehind (drop 48 slot.items) (drop 48 is) c.args.end c.args.delta c.args.first (length c.args.payload.now)
    (padded c.args.payload.now) place) (sym items_are)
    (puts_in_data slot.items new c.args.end c.args.delta c.args.first (length c.args.payload.now)
    (padded c.args.payload.now) c.put_payload_behind-place.result (omega (arith, c.requires.fits.room)) put))

pub returns-clause-size : goal.returns-clause-size
returns-clause-size c =
    let slot = c.self.inside.slot in
    let new = c.put_payload_behind-place.new.body in
    let items_are : (with_items slot new).items ≡ new = with_items_is slot new (omega arith) in
    let same : length new ≡ length slot.items = omega (arith, slot.ok.0) in
    ap (λ (is : List ℕ). length (drop 48 is)) items_are ∙ length-drop 48 new ∙ ap (λ (n : ℕ). n - 48) same
    ∙ sym (length-drop 48 slot.items) ∙ ap length c.self.view_is
