-- What calls answer, as numbers of C; and what a handle held, if its end was taken out.
use Rattle.std.proofs.Common.{◌≡◌, ℕ, ℤ, List, length, Option, Some, None, Result, Ok, Err, is_some, IsSomeAnd}
use Rattle.std.proofs.Common.{refl, sym, ap, ◌∙◌, subst, w32, to_z, of_z}
use Rattle.std.proofs.lemmas.Bool.{false≢true}
use Rattle.nested_writer.specs.declared.fault.WriteFault.{WriteFault}
use Rattle.ring_shared.specs.Value.{WriterValue}
use Rattle.ring_shared.specs.WholeWrites.{IsWritten, IsRefusedWrite}
use Rattle.ring_shared.specs.Rooms.{rooms}
use Rattle.ring_frames.specs.Answers.{KeepsPayloads}
use Rattle.tracering_c.specs.declared.codes.TheConstants.{DONE, EMPTY, NO_ROOM, NOT_AT_REST}
use Rattle.tracering_c.specs.declared.ends.HeldReader.{HeldReader}
use Rattle.tracering_c.specs.declared.taken.Taken.{Taken}
use Rattle.collector.specs.declared.added.Added.{Added}
use Rattle.collector.specs.declared.added.Added.TheVariants.{New, Known}
use Rattle.collector.specs.declared.fault.AddFault.{AddFault}
use Rattle.collector.specs.declared.fault.AddFault.TheVariants.{Clash, TakenAndMissing, NoMemory}
use Rattle.library_values.specs.declared.listed_collector.listed.ListedCollector.{ListedCollector}
use Rattle.tracering_c.specs.declared.collected.FaultAt.{FaultAt}
use Rattle.tracering_c.specs.Codes.{fault_code, add_code, page_answer}
use Rattle.tracering_c.specs.Calls.{WritesSo, TakesSo, is_page, is_none, has_no_room, HasNoNext, is_empty, is_moving}
use Rattle.tracering_c.specs.CollectorCalls.{CollectsSo, adds_page, adds_none}
use Rattle.tracering_c.specs.Peeks.{AnswersPeek, not_at_rest, no_room, empty, peeks}

abbrev fault_or : WriteFault → Option WriteFault → WriteFault
fault_or fault None = fault
fault_or fault (Some other) = other

pub written_so : (old : WriterValue) (moment : ℕ) (payload : List ℕ) (new : WriterValue)
    → IsWritten old.shape old.part moment payload new.part → KeepsPayloads old.frames.stack new.frames.stack
    → rooms new ≡ rooms old → WritesSo old moment payload DONE new
written_so old moment payload new is payloads same = record {
  refusal = None;
  written = λ none. (refl, is);
  refused = λ fault some. absurd (false≢true (ap is_some some));
  payloads = payloads;
  rooms_are = same;
}

pub refused_so : (old : WriterValue) (moment : ℕ) (payload : List ℕ) (code : ℤ) (new : WriterValue) (fault : WriteFault)
    → code ≡ fault_code fault → IsRefusedWrite old.shape old.part moment (length payload) fault new.part
    → KeepsPayloads old.frames.stack new.frames.stack → rooms new ≡ rooms old → WritesSo old moment payload code new
refused_so old moment payload code new fault code_is is payloads same = record {
  refusal = Some fault;
  written = λ none. absurd (false≢true (sym (ap is_some none)));
  refused =
      λ other equal.
      subst
      (λ (f : WriteFault).
      (code ≡ fault_code f) × IsRefusedWrite old.shape old.part moment (length payload) f new.part)
      (ap (fault_or fault) equal) (code_is, is);
  payloads = payloads;
  rooms_are = same;
}

-- the number of an answer without a page fits its type
none_so : (old : HeldReader) (code : ℤ) (new : HeldReader) → HasNoNext old code new
    → HasNoNext old (to_z w32 (of_z w32 code)) new
none_so old code new (is_empty done back c n e a) = is_empty done back (ap (λ (k : ℤ). to_z w32 (of_z w32 k)) c) n e a
none_so old code new (is_moving fill back c n m a) = is_moving fill back (ap (λ (k : ℤ). to_z w32 (of_z w32 k)) c) n m a

-- so does the number of a page that is to be added
pub add_fits : (answer : Result Added AddFault)
    → to_z w32 (of_z w32 (add_code (page_answer answer))) ≡ add_code (page_answer answer)
add_fits (Ok New) = refl
add_fits (Ok Known) = refl
add_fits (Err (Clash cpu number)) = refl
add_fits (Err (TakenAndMissing cpu number)) = refl
add_fits (Err NoMemory) = refl

-- so does that of what a collector takes
pub collects_so : (old : HeldReader) (listed : ListedCollector) (was : Taken) (was_at : FaultAt) (code : ℤ)
    (reported : Taken) (at : FaultAt) (new : HeldReader) (left : ListedCollector)
    → CollectsSo old listed was was_at code reported at new left
    → CollectsSo old listed was was_at (to_z w32 (of_z w32 code)) reported at new left
collects_so old listed was was_at code reported at new left (adds_page page missed answer c n a l t r) =
    adds_page page missed answer (ap (λ (k : ℤ). to_z w32 (of_z w32 k)) c ∙ add_fits answer) n a l t r
collects_so old listed was was_at code reported at new left (adds_none n u l t r) =
    adds_none (none_so old code new n) u l t r

-- the number of a take's answer fits its type
pub takes_so : (old : HeldReader) (out : List ℕ) (was : Taken) (code : ℤ) (left : List ℕ) (reported : Taken)
    (new : HeldReader) → TakesSo old out was code left reported new
    → TakesSo old out was (to_z w32 (of_z w32 code)) left reported new
takes_so old out was code left reported new (is_page page missed c n u g d) =
    is_page page missed (ap (λ (n : ℤ). to_z w32 (of_z w32 n)) c) n u g d
takes_so old out was code left reported new (is_none n u o w) = is_none (none_so old code new n) u o w
takes_so old out was code left reported new (has_no_room c s n o w) =
    has_no_room (ap (λ (k : ℤ). to_z w32 (of_z w32 k)) c) s n o w

-- so does a number that is one which fits
fits_by : (code number : ℤ) → code ≡ number → to_z w32 (of_z w32 number) ≡ number → to_z w32 (of_z w32 code) ≡ code
fits_by code number is fits = subst (λ (n : ℤ). to_z w32 (of_z w32 n) ≡ n) (sym is) fits

-- and that of a peek's answer
pub peek_fits : (writer : WriterValue) (room : ℕ) (code : ℤ) → AnswersPeek writer room code
    → to_z w32 (of_z w32 code) ≡ code
peek_fits writer room code (not_at_rest is frames) = fits_by code NOT_AT_REST is refl
peek_fits writer room code (no_room is none short) = fits_by code NO_ROOM is refl
peek_fits writer room code (empty is none long nothing) = fits_by code EMPTY is refl
peek_fits writer room code (peeks is none long some) = fits_by code DONE is refl

-- an end that was taken out is what the handle held
pub held_is : {V B : Type 0} (value : B → V) (held : Option V) (result : Option B) (end : B) → result ≡ Some end
    → (held ≡ None → result ≡ None) → ((x : V) → held ≡ Some x → IsSomeAnd result (λ (b : B). value b ≡ x))
    → held ≡ Some (value end)
held_is value None result end is none some = absurd (false≢true (sym (ap is_some (sym is ∙ none refl))))
held_is {V} {B} value (Some x) result end is none some =
    ap (λ (v : V). Some v) (sym (subst (λ (o : Option B). IsSomeAnd o (λ (b : B). value b ≡ x)) is (some x refl)))

abbrev there_or : {X : Type 0} → X → Option X → X
there_or x None = x
there_or x (Some y) = y

-- what is there is one value
pub one_is_there : {X : Type 0} (held : Option X) (x y : X) → held ≡ Some x → held ≡ Some y → x ≡ y
one_is_there {X} held x y is also = ap (λ (o : Option X). there_or x o) (sym is ∙ also)
