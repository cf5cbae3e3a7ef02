-- What was asked first, and what was asked then.
use Rattle.std.specs.Prelude.{Result, Ok, Err}
use Rattle.std.proofs.Common.{◌≡◌, ℕ, suc, ◌≤◌, Bool, List, [], ◌∷◌, refl, sym, ap, subst, arith}
use mathlib.Core.Logic.{dite}
use native.Mathlib.Decide.{dec_le}
use Rattle.trace_model.specs.declared.numbers.FillNo.{FillNo}
use Rattle.trace_model.specs.Steps.{Event, Exchange}
use Rattle.ring_model.proofs.histories.StepsAsEvents.{counts_rise}
use Rattle.ring_model.proofs.partition.RingsKept.{reached_kept}
use Rattle.line_model.specs.WriterCalls.{LineWriting, IsWriterCall, TopCalls, FinishCalls, none_to_finish, finishes_top}
use Rattle.line_model.specs.WriterCalls.{WholeCalls, writes_frame, writes_none}
use Rattle.ring_shared.specs.Value.{WriterValue}
use Rattle.trace_run.specs.declared.writers.gate.Who.{Who}
use Rattle.trace_run.specs.declared.writers.writer.LineWriter.{LineWriter}
use Rattle.trace_run.specs.writers.LineWriters.{writer_in, payloads_of, IsLineWriter, CallsTop, WritesWhole}
use Rattle.trace_run.specs.writers.Asking.{HavePassed, IsShutAt, HasAsked, Asks, IsShut}
use Rattle.trace_run.proofs.LineRuns.{same_then}

-- ---- closed fills grow in number

module _ (n size start : ℕ) where
  call_rises : (s : LineWriting) (x : Exchange) (t : LineWriting) → IsWriterCall n size start s x t → s.done ≤ t.done
  call_rises s x t call =
      let rise = counts_rise n size start call.core call.next (x ∷ [])
      (reached_kept n size start call.core call.reached) (call.next, call.step, refl) in
      let was = ap (λ (w : LineWriting). w.done) call.before_is in
      let is = ap (λ (w : LineWriting). w.done) call.after_is in
      omega (arith, rise.1, was, is)

  top_rises : (depth : ℕ) (s : LineWriting) (payloads : List (List ℕ)) (calls : List Exchange) (t : LineWriting)
      (lefts : List (List ℕ))
      → TopCalls n size start depth s payloads calls t lefts
      → s.done ≤ t.done
  top_rises depth s payloads [] t lefts (same, all) = let e = ap (λ (w : LineWriting). w.done) same in omega (arith, e)
  top_rises depth s payloads (x ∷ calls) t lefts (count, event, between, call, rest) =
      let first = call_rises s x between call in
      let then = top_rises depth between _ calls t lefts rest in omega (arith, first, then)

  finish_rises : (s : LineWriting) (payloads : List (List ℕ)) (made : List Exchange) (t : LineWriting)
      (lefts : List (List ℕ))
      → FinishCalls n size start s payloads made t lefts
      → s.done ≤ t.done
  finish_rises s payloads made t lefts (none_to_finish none empty same all) =
      let e = ap (λ (w : LineWriting). w.done) same in omega (arith, e)
  finish_rises s payloads made t lefts (finishes_top depth count calls low) =
      top_rises depth s payloads made t lefts calls

  whole_rises : (event : Event) (payload : List ℕ) (s : LineWriting) (payloads : List (List ℕ)) (made : List Exchange)
      (t : LineWriting) (lefts : List (List ℕ))
      → WholeCalls n size start event payload s payloads made t lefts
      → s.done ≤ t.done
  whole_rises event payload s payloads made t lefts (writes_frame between finishing cut call finished) =
      let first = call_rises s _ between call in
      let then = finish_rises between _ finishing t lefts finished in omega (arith, first, then)
  whole_rises event payload s payloads made t lefts (writes_none why is call all) = call_rises s _ t call

pub top_forward : (old new : LineWriter) → CallsTop old new → old.writer.part.done ≤ new.writer.part.done
top_forward old new c =
    call_rises old.writer.shape.pages old.writer.shape.size old.writer.shape.start (writer_in old.writer.part) c.x
    (writer_in new.writer.part) c.call

pub whole_forward : (moment : ℕ) (payload : List ℕ) (old new : LineWriter)
    → WritesWhole moment payload old new
    → old.writer.part.done ≤ new.writer.part.done
whole_forward moment payload old new w =
    whole_rises old.writer.shape.pages old.writer.shape.size old.writer.shape.start _ payload
    (writer_in old.writer.part) (payloads_of old) w.exchanges (writer_in new.writer.part) (payloads_of new) w.made

-- ---- what was asked

module _ {Gate : Type 0} (answers : Gate → Who → (cpu fill : ℕ) → Bool → Type 0) (gate : Gate) (cpu : ℕ) where
  pub passed_none : (done : ℕ) → HavePassed answers gate cpu done done
  passed_none done =
      record { forward = omega arith; each = λ closed low high. absurd (let no : ⊥ = omega (arith, low, high) in no) }

  pub passed_then : (from mid to : ℕ)
      → HavePassed answers gate cpu from mid
      → HavePassed answers gate cpu mid to
      → HavePassed answers gate cpu from to
  passed_then from mid to first then = record {
    forward = let low = first.forward in let high = then.forward in omega (arith, low, high);
    each = λ closed low high. dite (dec_le (suc closed) mid)
        (λ before. first.each closed low before)
        (λ past. then.each closed (omega (arith, past)) high);
  }

  pub shut_then : (from mid to asked : ℕ)
      → HavePassed answers gate cpu from mid
      → IsShutAt answers gate cpu mid to asked
      → IsShutAt answers gate cpu from to asked
  shut_then from mid to asked first then = record {
    closed = then.closed;
    asked_is = then.asked_is;
    below = then.below;
    before = passed_then from mid then.closed first then.before;
    shut = then.shut;
  }

  pub asked_then : (from mid to : ℕ) (result : Result Unit FillNo)
      → HavePassed answers gate cpu from mid
      → HasAsked answers gate cpu mid to result
      → HasAsked answers gate cpu from to result
  asked_then from mid to (Ok done) first then = passed_then from mid to first then
  asked_then from mid to (Err asked) first then = shut_then from mid to asked.0 first then

  pub asks_then : (old now next : LineWriter) (result : Result Unit FillNo)
      → Asks answers gate cpu old now (Ok tt)
      → Asks answers gate cpu now next result
      → Asks answers gate cpu old next result
  asks_then old now next result first then = record {
    is = then.is;
    same = same_then old.writer now.writer next.writer first.same then.same;
    asked = asked_then old.writer.part.done now.writer.part.done next.writer.part.done result first.asked then.asked;
  }

  -- nothing was closed, and nothing asked
  pub asks_none : (old : LineWriter) → IsLineWriter old → Asks answers gate cpu old old (Ok tt)
  asks_none old is = record { is = is; same = (refl, refl); asked = passed_none old.writer.part.done }

  pub asks_nothing : (old new : LineWriter)
      → IsLineWriter new
      → (new.writer.shape ≡ old.writer.shape) × (new.writer.table ≡ old.writer.table)
      → new.writer.part.done ≡ old.writer.part.done
      → Asks answers gate cpu old new (Ok tt)
  asks_nothing old new is same done = record {
    is = is;
    same = same;
    asked = subst (λ (k : ℕ). HavePassed answers gate cpu old.writer.part.done k) (sym done)
        (passed_none old.writer.part.done);
  }

  -- ---- all lines, from the first state of the ring's writer

  module _ (before : WriterValue) (first mid : LineWriter) (first_is : first.writer ≡ before) where
    pub whole_passed : (last : LineWriter)
        → Asks answers gate cpu first mid (Ok tt)
        → Asks answers gate cpu mid last (Ok tt)
        → HavePassed answers gate cpu before.part.done last.writer.part.done
    whole_passed last lines rest =
        subst (λ (v : WriterValue). HavePassed answers gate cpu v.part.done last.writer.part.done) first_is
        (passed_then first.writer.part.done mid.writer.part.done last.writer.part.done lines.asked rest.asked)

    pub shut_on_lines : (asked : FillNo)
        → Asks answers gate cpu first mid (Err asked)
        → IsShut answers gate cpu before asked
    shut_on_lines asked lines =
        subst (λ (v : WriterValue). IsShut answers gate cpu v asked) first_is
        record { after = mid.writer; is = lines.is.writer; same = lines.same; at = lines.asked }

    pub shut_on_rest : (last : LineWriter) (asked : FillNo)
        → Asks answers gate cpu first mid (Ok tt)
        → Asks answers gate cpu mid last (Err asked)
        → IsShut answers gate cpu before asked
    shut_on_rest last asked lines rest =
        let all = asks_then first mid last (Err asked) lines rest in
        subst (λ (v : WriterValue). IsShut answers gate cpu v asked) first_is
        record { after = last.writer; is = all.is.writer; same = all.same; at = all.asked }
