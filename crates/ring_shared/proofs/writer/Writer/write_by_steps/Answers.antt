use Rattle.std.specs.Prelude.{Result, Err, ◌-◌, ◌++◌, replicate}
use Rattle.std.proofs.Common.{rules, ◌≡◌, ℕ, List, length, sym, ap, ◌∙◌, arith}
use Rattle.trace_model.specs.Words.{slot_len, padded}
use Rattle.trace_model.proofs.words.Lengths.{slot_len_ge, length-padded}
use Rattle.std.proofs.lemmas.Result.{err_from_is_err_and}
use Rattle.nested_writer.specs.declared.fault.WriteFault.{WriteFault}
use Rattle.nested_writer.specs.declared.frame.Slot.{Slot}
use Rattle.nested_writer.specs.Lent.{Lent, lent_bytes}
use Rattle.nested_writer.specs.Lending.{IsLent}
use Rattle.ring_shared.specs.Value.{WriterValue}
use Rattle.ring_shared.specs.Lending.{with_slot_payload}
use Rattle.ring_shared.proofs.WholeWrites.{record_room, written_top, written_whole}
use Rattle.ring_shared.proofs.Covered.{kept_under}
use Rattle.ring_shared.proofs.TopLent.{lent_len, written_is, ends_is, covered_is}
use Rattle.ring_shared.proofs.writer.Writer.write_by_steps.Goals as goal

one_fault : (a b : WriteFault) → ◌≡◌ {A = Result (Unit {0}) WriteFault} (Err a) (Err b) → a ≡ b
one_fault a b e = cc

pub write_padded-requires : goal.write_padded-requires
write_padded-requires c =
    let len : ℕ = length c.args.payload.now in
    let two : WriterValue = c.reserve_record.new.self in
    let lent : IsLent two.frames.stack c.in_ok-top_mut.field-0.now = c.in_ok-top_mut.ensures.slot.lent in
    let room =
    record_room c.args.self.now.shape c.args.self.now.part c.args.moment len two lent.slot
    (c.reserve_record.ensures.reserved c.in_ok-slot.slot c.in_ok-slot.was)
    (c.in_ok-top_mut.ensures.fits lent.slot lent.on_top) in
    let wide =
    ap (length {A = ℕ}) c.deref_mut.ensures.value ∙ lent_len two.frames.stack c.in_ok-top_mut.field-0.now lent in
    let enough = slot_len_ge len in omega arith

pub returns-in_err-slot-clause-refused : goal.returns-in_err-slot-clause-refused
returns-in_err-slot-clause-refused c = λ fault e.
    let (reported, is, back) = err_from_is_err_and c.from_residual.result c.from_residual.ensures.1 in
    let same : reported ≡ fault = one_fault reported fault (sym is ∙ e) in
    c.reserve_record.ensures.refused fault (c.in_err-slot.was ∙ ap Err (sym back ∙ same))

-- the record's slot is on top, so that it is lent
pub returns-in_err-top_mut-clause-refused : goal.returns-in_err-top_mut-clause-refused
returns-in_err-top_mut-clause-refused c = λ fault e.
    absurd (let held =
    c.in_err-top_mut.ensures.held c.in_ok-slot.slot
    (c.reserve_record.ensures.slot c.in_ok-slot.slot c.in_ok-slot.was) in
    cc)

pub returns-clause-written : goal.returns-clause-written
returns-clause-written c = λ _.
    let payload : List ℕ = c.args.payload.now in
    let x : WriterValue = c.args.self.now in
    let two : WriterValue = c.reserve_record.new.self in
    let p : Lent = c.in_ok-top_mut.field-0.now in
    let lent : IsLent two.frames.stack p = c.in_ok-top_mut.ensures.slot.lent in
    let slot : Slot = lent.slot in
    let part : List ℕ = c.write_padded.new.slot in
    let r = c.reserve_record.ensures.reserved c.in_ok-slot.slot c.in_ok-slot.was in
    let room : slot.place.len ≡ slot_len (length payload) =
    record_room x.shape x.part c.args.moment (length payload) two slot r
    (c.in_ok-top_mut.ensures.fits slot lent.on_top) in
    let wide : length c.deref_mut.result.now ≡ slot.place.len =
    ap (length {A = ℕ}) c.deref_mut.ensures.value ∙ lent_len two.frames.stack p lent in
    let same : part ≡ padded payload =
    c.write_padded.ensures ∙ ap (λ (k : ℕ). payload ++ replicate (k - length payload) 0) (wide ∙ room) in
    let long : length part ≡ length (lent_bytes p) =
    ap (length {A = ℕ}) same ∙ length-padded payload ∙ sym room ∙ sym (lent_len two.frames.stack p lent) in
    written_whole x.shape x.part c.args.moment payload (with_slot_payload two slot part) c.end_record.new.self r
    c.reserve_record.ensures.ring.0
    (written_top two slot part (written_is two p lent part (c.in_ok-top_mut.ensures.slot.written part long)) ∙ same)
    (ends_is two p lent part c.end_record.new.self c.end_record.ensures.ends)

pub returns-clause-keeps : goal.returns-clause-keeps
returns-clause-keeps c = record {
  payloads = let x : WriterValue = c.args.self.now in
      let two : WriterValue = c.reserve_record.new.self in
      let p : Lent = c.in_ok-top_mut.field-0.now in
      let lent : IsLent two.frames.stack p = c.in_ok-top_mut.ensures.slot.lent in
      kept_under x.frames.stack two.frames.stack c.end_record.new.self.frames.stack lent.slot c.write_padded.new.slot
      (c.reserve_record.ensures.covers c.in_ok-slot.slot c.in_ok-slot.was)
      (c.in_ok-top_mut.ensures.slot.others lent.slot lent.on_top)
      (covered_is two p lent c.write_padded.new.slot c.end_record.new.self.frames.stack c.end_record.ensures.covered);
  ring = search rules;
  writer = search rules;
}
