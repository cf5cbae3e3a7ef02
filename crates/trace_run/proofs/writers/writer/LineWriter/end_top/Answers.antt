use Rattle.std.specs.Prelude.{Result, Ok, Err, OnErr}
use Rattle.std.proofs.Common.{ℕ, ◌-◌, ◌≤◌, ◌++◌, List, [], Bor, get_or, length, replicate, sym, ap, ◌∙◌, subst, arith}
use Rattle.trace_model.specs.Steps.{ends}
use Rattle.nested_writer.specs.Lent.{Lent}
use Rattle.nested_writer.specs.Lending.{IsLent}
use Rattle.ring_frames.specs.Answers.{top_bytes}
use Rattle.ring_shared.specs.Value.{WriterValue}
use Rattle.ring_shared.specs.Calls.{MakesSome}
use Rattle.ring_shared.proofs.TopLent.{lent_len, lent_is, written_is}
use Rattle.trace_run.proofs.TopCalls.{some_frames, few_frames, is_top_payload, has_room, end_called}
use Rattle.trace_run.proofs.writers.writer.LineWriter.end_top.Goals as goal

on_err : {A E P : Type 0} (result : Result A E) → P → OnErr result P
on_err (Ok a) p = tt
on_err (Err e) p = p

abbrev put_payload : List (Bor (List ℕ)) → ℕ → List ℕ
put_payload payloads depth = (get_or payloads (depth - 1) record { ref_ptr = (0, 0); now = [] }).now

pub offset_bounds-self-depth : goal.offset_bounds-self-depth
offset_bounds-self-depth c =
    let few = few_frames c.args.self.now c.requires.is in
    let room = c.requires.is.room in
    let deep = c.depth.ensures in
    omega arith

pub bounds-self-depth : goal.bounds-self-depth
bounds-self-depth c =
    let some = some_frames c.args.self.now.writer.part.frames c.requires.top in
    let few = few_frames c.args.self.now c.requires.is in
    let room = c.requires.is.room in
    let deep = c.depth.ensures in
    omega arith

pub write_padded-requires : goal.write_padded-requires
write_padded-requires c =
    let p : Lent = c.in_ok-top_mut.field-0.now in
    let lent : IsLent c.args.self.now.writer.frames.stack p = c.in_ok-top_mut.ensures.slot.lent in
    let wide = ap (length {A = ℕ}) c.deref_mut.ensures.value ∙ lent_len c.args.self.now.writer.frames.stack p lent in
    subst (λ (k : ℕ). length (put_payload c.args.self.now.payloads c.depth.result) ≤ k) (sym wide)
    (has_room c.args.self.now lent.slot (put_payload c.args.self.now.payloads c.depth.result)
    (is_top_payload c.args.self.now c.requires.is lent.slot lent.on_top c.depth.result _ c.depth.ensures
    (c.in_ok-top_mut.ensures.fits lent.slot lent.on_top)))

pub returns-clause-ended : goal.returns-clause-ended
returns-clause-ended c =
    let item = put_payload c.args.self.now.payloads c.depth.result in
    let w : WriterValue = c.args.self.now.writer in
    let p : Lent = c.in_ok-top_mut.field-0.now in
    let lent : IsLent w.frames.stack p = c.in_ok-top_mut.ensures.slot.lent in
    let part : List ℕ = c.write_padded.new.slot in
    let wide = ap (length {A = ℕ}) c.deref_mut.ensures.value ∙ lent_len w.frames.stack p lent in
    end_called c.args.self.now c.requires.is lent.slot lent.on_top c.end-answer.new.self item
    part c.end-answer.result
    (is_top_payload c.args.self.now c.requires.is lent.slot lent.on_top c.depth.result _ c.depth.ensures
    (c.in_ok-top_mut.ensures.fits lent.slot lent.on_top))
    (c.write_padded.ensures
    ∙ ap (λ (k : ℕ). item ++ replicate (k - length item) 0) wide)
    (λ long.
    written_is w p lent part
    (c.in_ok-top_mut.ensures.slot.written part (long ∙ sym (lent_len w.frames.stack p lent))))
    (subst
    (λ (x : WriterValue).
    MakesSome x (ends (top_bytes x.frames.stack x.frames.stack.frames)) c.end-answer.result c.end-answer.new.self)
    (lent_is w p lent part) c.end-answer.ensures.makes)

pub returns-in_err-top_mut-clause-none : goal.returns-in_err-top_mut-clause-none
returns-in_err-top_mut-clause-none c =
    on_err c.from_residual.result (λ slot is. let held = c.in_err-top_mut.ensures.held slot is in cc)
