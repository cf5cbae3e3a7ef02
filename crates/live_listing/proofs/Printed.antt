-- What a printer has printed, with one line more.
use Rattle.std.proofs.Common.{◌≡◌, ℕ, ◌+◌, ◌-◌, ◌^◌, min, Bool, List, [], ◌∷◌, ◌++◌, refl}
use Rattle.std.proofs.Common.{sym, ap, ap₂, ◌∙◌, subst, append_assoc, append-nil, arith}
use Rattle.std.specs.Prelude.{cond, count_by}
use Rattle.std.proofs.Common.{sum_by}
use Rattle.std.proofs.lemmas.List.Sums.{fold-append, sum_by-append, sum_by-cons}
use Rattle.command_io.specs.declared.ends.Sink.{Ghosts}
use Rattle.trace_model.specs.Listing.{Line}
use Rattle.text_values.specs.declared.output.Out.{Out}
use Rattle.capture_text.specs.declared.form.Form.{Form}
use Rattle.capture_text.specs.declared.naming.Naming.{Naming}
use Rattle.capture_text.specs.declared.printer.Printer.{Printer}
use Rattle.capture_text.specs.Printing.{Detail}
use Rattle.capture_text.specs.Printed.{IsDetail, PrintsRecord, bounds_of}
use Rattle.capture_text.specs.Selection.{Selected, selection_seen}
use Rattle.capture_text.specs.Window.{KnownBound, listed_bound, noted_of, unbounded}
use Rattle.capture_text.specs.Listed.{is_listed_cut}
use Rattle.live_listing.specs.Printing.{HasPrinted, bound_after, listed_of, listed_all, line_text, said_texts, is_late}
use Rattle.live_listing.specs.declared.pages.Content.{Content}
use Rattle.line_follower.specs.declared.lines.Said.{Said}
use Rattle.line_follower.specs.Order.{line_of}

-- what is known of a CPU that is listed
pub same_bound : (form : Form) (detail : Detail) (selected : Selected) (before : List Line) (printer : Printer)
    (cpu : ℕ) → HasPrinted form detail selected before printer → bounds_of printer cpu ≡ bound_after selected before cpu
same_bound form detail selected before printer cpu has =
    ap₂ (λ (s : Selected) (bound : KnownBound). listed_bound s (λ _. bound) cpu) has.selected_is (has.bounds_are cpu)

one_counted : {A : Type 0} (is_cut : A → Bool) (before : List A) (line : A)
    → count_by is_cut before + cond (is_cut line) 1 0 ≡ count_by is_cut (before ++ line ∷ [])
one_counted {A} is_cut before line =
    let one : A → ℕ = λ l. cond (is_cut l) 1 0 in
    let last = sum_by-cons one line [] in
    let all = sum_by-append one before (line ∷ []) in
    let none : sum_by one [] ≡ 0 = refl in
    omega (arith, last, all, none)

counted_more : (n one part_way end : ℕ) → part_way ≡ min n (2 ^ 64 - 1) → end ≡ min (part_way + one) (2 ^ 64 - 1)
    → end ≡ min (n + one) (2 ^ 64 - 1)
counted_more n one part_way end first more = omega (arith, first, more)

module _ {W : Type 0} {g : Ghosts W} where
  pub one_printed : (form : Form) (detail : Detail) (selected : Selected) (before : List Line) (line : Line)
      (printer after : Printer) (old new : Out W g)
      → HasPrinted form detail selected before printer
      → PrintsRecord line printer old after new
      → HasPrinted form detail selected (before ++ line ∷ []) after
  one_printed form detail selected before line printer after old new has prints = record {
    form_is = prints.same_form ∙ has.form_is;
    detail_is = subst (λ (n : Naming). IsDetail n detail) (sym prints.same_naming) has.detail_is;
    selected_is = ap selection_seen prints.same_selection ∙ has.selected_is;
    bounds_are = λ cpu. prints.noted cpu
        ∙ ap₂ (λ (s : Selected) (bound : KnownBound). noted_of s cpu bound line) has.selected_is (has.bounds_are cpu)
        ∙ sym (fold-append (noted_of selected cpu) unbounded before (line ∷ []));
    cut_is =
        let is_cut : Line → Bool = is_listed_cut detail selected in
        counted_more (count_by is_cut before) (cond (is_cut line) 1 0) printer.cut after.cut has.cut_is
        (prints.cut detail has.detail_is
        ∙ ap (λ (s : Selected). min (printer.cut + cond (is_listed_cut detail s line) 1 0) (2 ^ 64 - 1))
        has.selected_is)
        ∙ ap (λ (n : ℕ). min n (2 ^ 64 - 1))
        (one_counted is_cut before line);
  }

-- the text of one more
pub one_more_text : (form : Form) (detail : Detail) (selected : Selected) (size : ℕ) (before : List Line)
    (given : List (Said Content)) (said : Said Content)
    → said_texts form detail selected size before (given ++ said ∷ [])
    ≡ said_texts form detail selected size before given
    ++ line_text form detail selected size (before ++ listed_all given) (line_of said) (is_late said)
one_more_text form detail selected size before [] said =
    append-nil (line_text form detail selected size before (line_of said) (is_late said))
    ∙ ap (λ (b : List Line). line_text form detail selected size b (line_of said) (is_late said))
    (sym (append-nil before))
one_more_text form detail selected size before (first ∷ given) said =
    let line = listed_of (line_of first) in
    ap (λ (rest : List ℕ). line_text form detail selected size before (line_of first) (is_late first) ++ rest)
    (one_more_text form detail selected size (before ++ line ∷ []) given said
    ∙ ap (λ (b : List Line).
    said_texts form detail selected size (before ++ line ∷ []) given
    ++ line_text form detail selected size b (line_of said) (is_late said))
    (append_assoc before (line ∷ []) (listed_all given)))
    ∙ sym (append_assoc (line_text form detail selected size before (line_of first) (is_late first))
    (said_texts form detail selected size (before ++ line ∷ []) given)
    (line_text form detail selected size (before ++ line ∷ listed_all given) (line_of said) (is_late said)))

-- one more that may be late
pub one_late : (given : List (Said Content)) (said : Said Content) (late : ℕ) → late ≡ count_by is_late given
    → late + cond (is_late said) 1 0 ≡ count_by is_late (given ++ said ∷ [])
one_late given said late is =
    ap (λ (n : ℕ). n + cond (is_late said) 1 0) is ∙ one_counted is_late given said
