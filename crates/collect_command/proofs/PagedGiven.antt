-- Pages that are listed as it is asked for.
use Rattle.std.proofs.Common.{◌≡◌, ◌++◌, ℕ, Bool, List, Option, [], flat_map, inl, inr, refl, subst, sym, ap}
use Rattle.trace_model.specs.Listing.{Line as ModelLine}
use Rattle.command_io.specs.declared.command.TheConstants.{MEMORY_LINE}
use Rattle.command_io.specs.Written.{IsTextWritten}
use Rattle.capture_text.specs.declared.form.Form.{Form}
use Rattle.capture_text.specs.Listed.{listed_line}
use Rattle.capture_text.specs.Printing.{Detail as LineDetail}
use Rattle.capture_text.specs.Selection.{Selected}
use Rattle.page_lines.specs.declared.source.Halt.{Halt}
use Rattle.page_lines.specs.Sources.{Reading}
use Rattle.collect_command.specs.declared.collect.Collecting.{Collecting}
use Rattle.collect_command.specs.declared.ending.Listed.{Listed}
use Rattle.collect_command.specs.declared.ending.Ending.{Ending}
use Rattle.collect_command.specs.declared.ending.Ending.TheVariants.{NoMemory, NotWritten}
use Rattle.collect_command.specs.Following.{formats_given}
use Rattle.collect_command.specs.Listings.{is_unnamed}
use Rattle.collect_command.specs.Paged.{AreLeft, GoFirst, first_halt, halt_ending, said_behind}
use Rattle.collect_command.specs.Paged.{ListsPages, ListsPagesSo, ListsPart, ListsRaw, detail_given, selected_given}
use Rattle.collect_command.specs.Runs.{IsMemoryLine, marks_for}
use Rattle.collect_command.proofs.PagedParts.{ends_early, halts_early, none_first}

module _ {R : Type 0} (remaining : R → Option (List ℕ)) (has_failed : R → Bool) (collecting : Collecting)
    (sources : List (Reading R)) (contents after : Option (List ℕ)) (failed : Bool) where
  -- what is said of the pattern is besides
  pub given_of : (listed : Listed) (unnamed : Bool) (selected : Selected) → selected ≡ selected_given collecting
      → unnamed ≡ is_unnamed (marks_for collecting (formats_given collecting))
      → ListsPages remaining has_failed collecting.form (detail_given collecting) selected collecting.page sources
      contents after failed listed
      → ListsPagesSo remaining has_failed collecting sources contents after failed
      (record listed { is_unnamed = unnamed })
  given_of listed unnamed selected same unnamed_is (inl whole) = inl (λ inputs opened.
      let raw = whole inputs opened in
      let all : Listed = record listed { is_unnamed = unnamed } in
      record {
        lists = subst (λ (s : Selected).
            ListsRaw remaining has_failed collecting.form (detail_given collecting) s collecting.page inputs contents
            after failed all) same
            (record {
              new = raw.new;
              raws = raw.raws;
              read = raw.read;
              rise = raw.rise;
              are_raw = raw.are_raw;
              are_plain = raw.are_plain;
              is_listed = record {
                shown = raw.is_listed.shown;
                is_print = raw.is_listed.is_print;
                written = raw.is_listed.written;
                cut_is = raw.is_listed.cut_is;
                malformed_are = raw.is_listed.malformed_are;
              };
            });
        unnamed_is = unnamed_is;
      })
  given_of listed unnamed selected same unnamed_is (inr part) = inr (
      let all : Listed = record listed { is_unnamed = unnamed } in
      subst (λ (s : Selected).
      ListsPart remaining collecting.form (detail_given collecting) s sources contents after failed all) same
      (record {
        early = part.early;
        front = part.front;
        goes_first = part.goes_first;
        ended = part.ended;
        are_left = part.are_left;
        wanted = part.wanted;
        why = part.why;
        written = part.written;
      }))

  -- nothing but the line for refused memory is written
  pub memory_told : (listed : Listed) (ending : Ending) → listed.ending ≡ ending
      → IsMemoryLine contents after failed ending
      → ListsPagesSo remaining has_failed collecting sources contents after failed listed
  unfolding none_first
  memory_told listed ending same line =
      let own = subst (λ (e : Ending). IsMemoryLine contents after failed e) (sym same) line in
      inr (record {
        early = ends_early contents after failed MEMORY_LINE NoMemory listed.ending own (λ to_end. to_end);
        front = [];
        goes_first = none_first remaining sources;
        ended = sources;
        are_left = inl refl;
        wanted = NoMemory;
        why = inr refl;
        written = own;
      })

-- lines that go first are written, and what is said at an early end
pub partly_listed : {R : Type 0} (remaining : R → Option (List ℕ)) (form : Form) (detail : LineDetail) (selected : Selected)
    (sources ended : List (Reading R)) (contents after : Option (List ℕ)) (failed : Bool) (listed : Listed)
    (ending : Ending) (halt : Option (ℕ × Halt)) (front : List ModelLine) (goes : GoFirst remaining sources front)
    → AreLeft goes.between ended → listed.ending ≡ ending → halt ≡ first_halt 0 ended
    → IsTextWritten NotWritten contents after failed
    (flat_map (listed_line form detail selected) front ++ said_behind (halt_ending halt)) (halt_ending halt) ending
    → ListsPart remaining form detail selected sources contents after failed listed
partly_listed remaining form detail selected sources ended contents after failed listed ending halt front goes left same
    halts written =
    let wanted = halt_ending halt in
    let text = flat_map (listed_line form detail selected) front ++ said_behind wanted in
    let own = subst (λ (e : Ending). IsTextWritten NotWritten contents after failed text wanted e) (sym same) written in
    record {
      early = ends_early contents after failed text wanted listed.ending own (halts_early halt);
      front = front;
      goes_first = goes;
      ended = ended;
      are_left = left;
      wanted = wanted;
      why = inl (ap halt_ending halts);
      written = own;
    }
