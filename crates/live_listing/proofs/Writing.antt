-- What is written, one text after the other.
use Rattle.std.proofs.Common.{◌≡◌, ℕ, ◌+◌, Bool, true, false, List, [], ◌++◌, length, take, Option, refl, sym, ◌∙◌}
use Rattle.std.proofs.Common.{subst, arith, append-nil, length-append}
use Rattle.std.specs.Io.KnownBytes.{Appends}
use Rattle.std.proofs.Math.Seq.{take-append-add}
use Rattle.std.proofs.KnownBytes.{Appends-nil, Appends-trans}
use Rattle.command_io.specs.CommandRun.{AppendsPrefix}
use Rattle.live_listing.specs.Following.{IsWritten, PrintsAll}
use Rattle.live_listing.specs.Printing.{HasPrinted}
use Rattle.trace_model.specs.Listing.{Line}
use Rattle.capture_text.specs.declared.printer.Printer.{Printer}

-- a text is written after another one
pub written_then : (start before after : Option (List ℕ)) (was failed : Bool) (text more : List ℕ) → was ≡ false
    → IsWritten start before was text
    → IsWritten before after failed more
    → IsWritten start after failed (text ++ more)
written_then start before after was failed text more sound first second = record {
  all = λ going. Appends-trans start before after text more (first.all sound) (second.all going);
  cut_off = λ cut. let part = second.cut_off cut in (
    length text + part.0,
    rw length-append (omega (arith, part.1)),
    subst (Appends start after) (sym (take-append-add text more part.0))
        (Appends-trans start before after text (take part.0 more) (first.all sound) part.2),
  );
}

pub going_on : (failed : Bool) → (failed ≡ true → ⊥) → failed ≡ false
going_on false never = refl
going_on true never = absurd (never refl)

-- all of a text is written, or a part of it
pub all_written : (contents after : Option (List ℕ)) (failed : Bool) (text : List ℕ) → failed ≡ false
    → Appends contents after text → IsWritten contents after failed text
all_written contents after failed text sound all = record {
  all = λ going. all;
  cut_off = λ cut. absurd (let no : true ≡ false = sym cut ∙ sound in cc);
}

pub part_written : (contents after : Option (List ℕ)) (failed : Bool) (text : List ℕ) → failed ≡ true
    → AppendsPrefix contents after text → IsWritten contents after failed text
part_written contents after failed text cut part = record {
  all = λ going. absurd (let no : true ≡ false = sym cut ∙ going in cc);
  cut_off = λ _. part;
}

-- nothing is printed
pub nothing_printed : (size : ℕ) (printer : Printer) (contents : Option (List ℕ)) (failed : Bool) → failed ≡ false
    → PrintsAll size [] printer contents printer contents failed
nothing_printed size printer contents failed sound = λ form detail selected before has. (
  subst (λ (lines : List Line). HasPrinted form detail selected lines printer) (sym (append-nil before)) has,
  all_written contents contents failed [] sound (Appends-nil contents),
)
