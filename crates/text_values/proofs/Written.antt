-- What was put stays put when the buffer is written out, and when more is added.
use Rattle.std.proofs.Common.{◌≡◌, ℕ, ◌+◌, Bool, true, false, List, [], ◌++◌, length, take, drop, refl, sym, ap, ◌∙◌}
use Rattle.std.proofs.Common.{subst, arith, append-nil, append_assoc, length-append}
use Rattle.std.specs.Prelude.{Option, Result, Ok, Err, OnOk, OnErr, IsOk, IsErr, ◌↔◌}
use Rattle.std.specs.Io.KnownBytes.{Appends}
use Rattle.std.proofs.Math.Seq.{take-append-add}
use Rattle.std.proofs.lemmas.List.{take-append-le, take-append-drop}
use Rattle.std.proofs.lemmas.Grind.{flat_map-append}
use Rattle.std.proofs.KnownBytes.{Appends-trans}
use Rattle.command_io.specs.CommandRun.{AppendsPrefix}
use Rattle.text_values.specs.Digits.{pair_of, pairs_of}
use Rattle.text_values.specs.declared.buffer.TextBuffer.{TextBuffer}
use Rattle.command_io.specs.declared.ends.Sink.{Ghosts}
use Rattle.text_values.specs.declared.output.Out.{Out}
use Rattle.text_values.specs.Waiting.{waiting, HasSent}
use Rattle.text_values.specs.Putting.{Start, writer_of, contents_of, has_failed, HasPut}

if_done : {E P : Type 0} (result : Result (Unit {0}) E) (failed : Bool) → OnOk result P
    → (failed ≡ true) ↔ IsErr result → failed ≡ false → P
if_done (Ok _) failed all fault sound = all
if_done (Err e) failed all fault sound = absurd (let cut = fault.1 refl in cc)

if_cut : {E P : Type 0} (result : Result (Unit {0}) E) (failed : Bool) → OnErr result P
    → (failed ≡ true) ↔ IsErr result → failed ≡ true → P
if_cut (Ok _) failed part fault cut = absurd (let no = fault.0 cut in cc)
if_cut (Err e) failed part fault cut = part

-- what waited is written, or a beginning of it
pub written_out : {E : Type 0} (result : Result (Unit {0}) E) (start before after : Option (List ℕ)) (was failed : Bool)
    (text sent : List ℕ) (old new : TextBuffer) → was ≡ false → waiting new ≡ [] → sent ≡ waiting old
    → OnOk result (Appends before after sent) → OnErr result (AppendsPrefix before after sent)
    → (failed ≡ true) ↔ IsErr result → HasSent start before was text old → HasSent start after failed text new
written_out result start before after was failed text sent old new going none same done not_done fault has =
    let all : failed ≡ false → Appends before after (waiting old) =
    λ sound. subst (Appends before after) same (if_done result failed done fault sound) in
    let part : failed ≡ true → AppendsPrefix before after (waiting old) =
    λ cut. subst (AppendsPrefix before after) same (if_cut result failed not_done fault cut) in
    let so_far = has.going_on going in record {
      going_on = λ sound. (
        text,
        sym (append-nil text) ∙ ap (λ (more : List ℕ). text ++ more) (sym none),
        subst (Appends start after) (sym so_far.1)
            (Appends-trans start before after so_far.0 (waiting old) so_far.2 (all sound)),
      );
      cut_off = λ cut. let part_is = part cut in (
        length so_far.0 + part_is.0,
        rw so_far.1 (rw length-append (omega (arith, part_is.1))),
        subst (Appends start after)
            (sym (ap (take (length so_far.0 + part_is.0)) so_far.1 ∙ take-append-add so_far.0 (waiting old) part_is.0))
            (Appends-trans start before after so_far.0 (take part_is.0 (waiting old)) so_far.2 part_is.2),
      );
    }

-- nothing is written any more
pub still_failed : (start contents : Option (List ℕ)) (failed : Bool) (text : List ℕ) (old new : TextBuffer)
    → failed ≡ true → HasSent start contents failed text old → HasSent start contents failed text new
still_failed start contents failed text old new cut has = record {
  going_on = λ sound. absurd (let no : true ≡ false = sym cut ∙ sound in cc);
  cut_off = has.cut_off;
}

-- more is added to what waits
added : (start contents : Option (List ℕ)) (failed : Bool) (text bytes : List ℕ) (old new : TextBuffer)
    → waiting new ≡ waiting old ++ bytes → HasSent start contents failed text old
    → HasSent start contents failed (text ++ bytes) new
added start contents failed text bytes old new more has = record {
  going_on = λ sound. let so_far = has.going_on sound in (
    so_far.0,
    ap (λ (put : List ℕ). put ++ bytes) so_far.1 ∙ append_assoc so_far.0 (waiting old) bytes
        ∙ ap (λ (rest : List ℕ). so_far.0 ++ rest) (sym more),
    so_far.2,
  );
  cut_off = λ cut. let part = has.cut_off cut in (
    part.0,
    rw length-append (omega (arith, part.1)),
    subst (Appends start contents) (sym (take-append-le part.0 text bytes (omega (arith, part.1)))) part.2,
  );
}

-- one piece more of what is left is put
pub piece_more : (so_far piece more rest all : List ℕ) (n : ℕ) → piece ≡ take n rest → more ≡ drop n rest
    → so_far ++ rest ≡ all → (so_far ++ piece) ++ more ≡ all
piece_more so_far piece more rest all n front back is =
    append_assoc so_far piece more
    ∙ ap (λ (text : List ℕ). so_far ++ text)
    (ap (λ (text : List ℕ). text ++ more) front ∙ ap (λ (text : List ℕ). take n rest ++ text) back
    ∙ take-append-drop n rest)
    ∙ is

-- one piece more, as digits
pub digits_more : (so_far piece more rest all : List ℕ) (n : ℕ) → piece ≡ take n rest → more ≡ drop n rest
    → so_far ++ pairs_of rest ≡ all → (so_far ++ pairs_of piece) ++ pairs_of more ≡ all
digits_more so_far piece more rest all n front back is =
    append_assoc so_far (pairs_of piece) (pairs_of more)
    ∙ ap (λ (text : List ℕ). so_far ++ text)
    (sym (flat_map-append pair_of piece more)
    ∙ ap pairs_of
    (ap (λ (text : List ℕ). text ++ more) front ∙ ap (λ (text : List ℕ). take n rest ++ text) back
    ∙ take-append-drop n rest))
    ∙ is

pub ok_fact : {A E P : Type 0} (result : Result A E) → IsOk result → OnOk result P → P
ok_fact (Ok x) is p = p
ok_fact (Err e) is p = absurd (let no = is in cc)

-- ---- through a writer with a buffer

-- bytes more wait
pub more_waits : {W : Type 0} {g : Ghosts W} (start : Start) (text bytes : List ℕ) (old new : Out W g)
    → new.writer.ghost_name ≡ old.writer.ghost_name → writer_of new ≡ writer_of old
    → waiting new.buffer.now ≡ waiting old.buffer.now ++ bytes → HasPut start text old
    → HasPut start (text ++ bytes) new
more_waits {W} {g} start text bytes old new same_writer same more has = record {
  writer_is = same_writer ∙ has.writer_is;
  sent = subst (λ (w : W). HasSent start.contents (g.contents w) (g.failed w) (text ++ bytes) new.buffer.now) (sym same)
      (added start.contents (contents_of old) (has_failed old) text bytes old.buffer.now new.buffer.now more has.sent);
}
