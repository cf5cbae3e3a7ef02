-- What a printer prints, one text after the other.
use Rattle.std.proofs.Common.{◌≡◌, ℕ, zero, suc, ◌+◌, ◌-◌, ◌^◌, ◌<◌, min, Bool, true, false, true≢false}
use Rattle.std.proofs.Common.{◌&&◌, ◌==◌, ◌↔◌, List, [], ◌∷◌}
use Rattle.std.proofs.Common.{◌++◌, length, flat_map, map, append_assoc, append-nil, Option, Some, None, Result, Ok}
use Rattle.std.proofs.Common.{Err, OnOk, OnErr, IsErr, refl, sym, ap, ap₂, ◌∙◌, subst, arith}
use Rattle.std.specs.Prelude.{cond, count_by, fold, if◌then◌else◌}
use Rattle.std.specs.Result.{is_ok}
use Rattle.std.specs.List.{slice_get}
use Rattle.std.specs.Io.KnownBytes.{Appends}
use Rattle.std.proofs.lemmas.List.Sums.{sum_by-cons}
use Rattle.std.proofs.lemmas.Option.{none-some}
use Rattle.std.proofs.lemmas.Bool.Decides.{nat_tests}
use Rattle.trace_model.specs.Listing.{Line}
use Rattle.trace_model.specs.Parcel.{Parcel}
use Rattle.trace_model.specs.Collection.{IsSame}
use Rattle.trace_model.proofs.collections.Elements.{some_is}
use Rattle.world_model.specs.Printing.{Shown}
use Rattle.command_io.specs.CommandRun.{AppendsPrefix}
use Rattle.collector_text.specs.Prints.{IsPrintOf}
use Rattle.time_merge.specs.Walks.{TakesAll}
use Rattle.capture.specs.Pages.{Page, intact, damaged, behind, unknown_from, damages_from}
use Rattle.capture.specs.Captures.{AreDamages}
use Rattle.capture.specs.declared.pages.Damaged.{Damaged}
use Rattle.capture.specs.declared.files.captured.CpuCapture.{CpuCapture}
use Rattle.capture.specs.declared.files.captured.CutFile.{CutFile}
use Rattle.capture.specs.files.Files.{ModelPart, parts_of_cpu}
use Rattle.capture.specs.files.Captures.{measured}
use Rattle.capture.specs.files.Losses.{are_intact}
use Rattle.capture_text.specs.declared.form.Form.{Form}
use Rattle.capture_text.specs.declared.printer.Printer.{Printer}
use Rattle.capture_text.specs.declared.naming.Naming.{Naming}
use Rattle.capture_text.specs.declared.selection.Selection.{Selection}
use Rattle.capture_text.specs.Printing.{Detail}
use Rattle.capture_text.specs.Selection.{selection_seen}
use Rattle.capture_text.specs.Window.{KnownBound, bound_at, noted_of}
use Rattle.capture_text.specs.Listed.{listed_line, is_listed_cut, listed_losses, listed_damages}
use Rattle.capture_text.specs.Printed.{IsDetail, PrintsRecord}
use Rattle.command_io.specs.declared.ends.Sink.{Ghosts}
use Rattle.text_values.specs.declared.output.Out.{Out}
use Rattle.text_values.specs.Putting.{Start, HasPut, Puts}
use Rattle.text_values.proofs.Chains.{put_none, put_then}
use Rattle.collect_command.specs.Gathered.{AreReadFrom}
use Rattle.command_io.specs.Written.{IsTextWritten}
use Rattle.collect_command.specs.declared.ending.Ending.{Ending}
use Rattle.collect_command.specs.declared.ending.Ending.TheVariants.{NotWritten}
use Rattle.collect_command.specs.Listings.{cut_line, with_cut}
use Rattle.collect_command.specs.Listings.{all_unknown, all_damaged, are_all_intact, ending_of}

-- ---- a count that stops at the greatest number

none_counted : (n : ℕ) → n < 2 ^ 64 → n ≡ min (n + 0) (2 ^ 64 - 1)
none_counted n fits = omega (arith, fits)

one_counted : (n one more part_way end all : ℕ) → part_way ≡ min (n + one) (2 ^ 64 - 1)
    → end ≡ min (part_way + more) (2 ^ 64 - 1) → all ≡ one + more → end ≡ min (n + all) (2 ^ 64 - 1)
one_counted n one more part_way end all first others is = omega (arith, first, others, is)

-- ---- the lines that are walked over

module _ {W : Type 0} {g : Ghosts W} where
  abbrev pub PrintsLine : (Printer × Out W g) → Line → (Printer × Out W g) → Type 0
  PrintsLine p line q = PrintsRecord line p.0 p.1 q.0 q.1

  pub walked : (detail : Detail) (lines : List Line) (p q : Printer × Out W g)
      → IsDetail p.0.naming detail → TakesAll PrintsLine p lines q
      → Puts (flat_map (listed_line p.0.form detail (selection_seen p.0.selection)) lines) p.1 q.1
  walked detail [] p q is same = subst (λ (z : Printer × Out W g). Puts [] p.1 z.1) same (put_none p.1)
  walked detail (line ∷ lines) p q is (mid, first, rest) =
      let others = walked detail lines mid q
      (subst (λ (n : Naming). IsDetail n detail) (sym first.same_naming) is) rest in
      let formed : Puts (flat_map (listed_line p.0.form detail (selection_seen mid.0.selection)) lines) mid.1 q.1 =
      subst (λ (f : Form). Puts (flat_map (listed_line f detail (selection_seen mid.0.selection)) lines) mid.1 q.1)
      first.same_form others in
      put_then _ _ (first.put detail is)
      (subst (λ (s : Selection). Puts (flat_map (listed_line p.0.form detail (selection_seen s)) lines) mid.1 q.1)
      first.same_selection formed)

  -- form and selection stay as they are
  pub walked_form : (lines : List Line) (p q : Printer × Out W g) → TakesAll PrintsLine p lines q
      → q.0.form ≡ p.0.form
  walked_form [] p q same = sym (ap (λ (z : Printer × Out W g). z.0.form) same)
  walked_form (line ∷ lines) p q (mid, first, rest) = walked_form lines mid q rest ∙ first.same_form

  pub walked_selection : (lines : List Line) (p q : Printer × Out W g) → TakesAll PrintsLine p lines q
      → q.0.selection ≡ p.0.selection
  walked_selection [] p q same = sym (ap (λ (z : Printer × Out W g). z.0.selection) same)
  walked_selection (line ∷ lines) p q (mid, first, rest) =
      walked_selection lines mid q rest ∙ first.same_selection

  -- the lines that have a field without a value are counted
  pub walked_cut : (detail : Detail) (lines : List Line) (p q : Printer × Out W g)
      → IsDetail p.0.naming detail → TakesAll PrintsLine p lines q → p.0.cut < 2 ^ 64
      → q.0.cut ≡ min (p.0.cut + count_by (is_listed_cut detail (selection_seen p.0.selection)) lines) (2 ^ 64 - 1)
  walked_cut detail [] p q is same fits =
      sym (ap (λ (z : Printer × Out W g). z.0.cut) same) ∙ none_counted p.0.cut fits
  walked_cut detail (line ∷ lines) p q is (mid, first, rest) fits =
      let is_cut : Line → Bool = is_listed_cut detail (selection_seen p.0.selection) in
      let one = first.cut detail is in
      let others = walked_cut detail lines mid q
      (subst (λ (n : Naming). IsDetail n detail) (sym first.same_naming) is) rest (omega (arith, one)) in
      let counted = others
      ∙ ap (λ (s : Selection). min (mid.0.cut + count_by (is_listed_cut detail (selection_seen s)) lines) (2 ^ 64 - 1))
      first.same_selection in
      let more = sum_by-cons (λ l. cond (is_cut l) 1 0) line lines in
      one_counted p.0.cut (cond (is_cut line) 1 0) (count_by is_cut lines) mid.0.cut q.0.cut
      (count_by is_cut (line ∷ lines)) one counted more

  -- all of them are known
  pub walked_bound : (cpu : ℕ) (lines : List Line) (p q : Printer × Out W g) → TakesAll PrintsLine p lines q
      → bound_at q.0.window cpu ≡ fold (noted_of (selection_seen p.0.selection) cpu) (bound_at p.0.window cpu) lines
  walked_bound cpu [] p q same = sym (ap (λ (z : Printer × Out W g). bound_at z.0.window cpu) same)
  walked_bound cpu (line ∷ lines) p q (mid, first, rest) =
      walked_bound cpu lines mid q rest
      ∙ ap₂ (λ (s : Selection) (bound : KnownBound). fold (noted_of (selection_seen s) cpu) bound lines)
      first.same_selection (first.noted cpu)

  -- what was put is the same text
  pub same_put : {one other : List ℕ} (start : Start) (out : Out W g) → one ≡ other → HasPut start one out
      → HasPut start other out
  same_put start out same put = subst (λ (text : List ℕ). HasPut start text out) same put

-- ---- the losses and damaged pages of one CPU more

pub unknown_more : (form : Form) (bounds : ℕ → Option KnownBound) (cpu : ℕ) (captures : List (List Page))
    (own : List Page) → all_unknown form bounds cpu (captures ++ own ∷ [])
    ≡ all_unknown form bounds cpu captures
    ++ listed_losses form (bounds (cpu + length captures)) (cpu + length captures) (unknown_from 0 own)
unknown_more form bounds cpu [] own =
    let losses : ℕ → List ℕ = λ n. listed_losses form (bounds n) n (unknown_from 0 own) in
    append-nil (losses cpu) ∙ ap losses (let e : cpu ≡ cpu + 0 = omega arith in e)
unknown_more form bounds cpu (pages ∷ captures) own =
    let losses : ℕ → List ℕ = λ n. listed_losses form (bounds n) n (unknown_from 0 own) in
    let first = listed_losses form (bounds cpu) cpu (unknown_from 0 pages) in
    let others = all_unknown form bounds (suc cpu) captures in
    ap (λ (t : List ℕ). first ++ t) (unknown_more form bounds (suc cpu) captures own)
    ∙ sym (append_assoc first others (losses (suc cpu + length captures)))
    ∙ ap (λ (n : ℕ). (first ++ others) ++ losses n)
    (let e : suc cpu + length captures ≡ cpu + suc (length captures) = omega arith in e)

abbrev own_damaged : Form → (ℕ → Option KnownBound) → List ModelPart → ℕ → List Page → List ℕ
own_damaged form bounds parts cpu own =
    listed_damages form (bounds cpu) (map measured (parts_of_cpu cpu parts)) cpu (damages_from 0 0 own)

pub damaged_more : (form : Form) (bounds : ℕ → Option KnownBound) (parts : List ModelPart) (cpu : ℕ)
    (captures : List (List Page)) (own : List Page) → all_damaged form bounds parts cpu (captures ++ own ∷ [])
    ≡ all_damaged form bounds parts cpu captures ++ own_damaged form bounds parts (cpu + length captures) own
damaged_more form bounds parts cpu [] own =
    append-nil (own_damaged form bounds parts cpu own)
    ∙ ap (λ (n : ℕ). own_damaged form bounds parts n own) (let e : cpu ≡ cpu + 0 = omega arith in e)
damaged_more form bounds parts cpu (pages ∷ captures) own =
    let first = own_damaged form bounds parts cpu pages in
    let others = all_damaged form bounds parts (suc cpu) captures in
    ap (λ (t : List ℕ). first ++ t) (damaged_more form bounds parts (suc cpu) captures own)
    ∙ sym (append_assoc first others (own_damaged form bounds parts (suc cpu + length captures) own))
    ∙ ap (λ (n : ℕ). (first ++ others) ++ own_damaged form bounds parts n own)
    (let e : suc cpu + length captures ≡ cpu + suc (length captures) = omega arith in e)

-- ---- whether all pages are intact

none_damaged : (index next : ℕ) (own : List Page) → AreDamages [] (damages_from index next own) → are_intact own ≡ true
none_damaged index next [] none = refl
none_damaged index next (intact read ∷ own) none = none_damaged (suc index) (behind next (intact read)) own none
none_damaged index next (damaged cause ∷ own) none = absurd none

some_damaged : (index next : ℕ) (own : List Page) (x : Damaged) (xs : List Damaged)
    → AreDamages (x ∷ xs) (damages_from index next own) → are_intact own ≡ false
some_damaged index next [] x xs some = absurd some
some_damaged index next (intact read ∷ own) x xs some =
    some_damaged (suc index) (behind next (intact read)) own x xs some
some_damaged index next (damaged cause ∷ own) x xs some = refl

not_none : (n : ℕ) → (suc n == 0) ≡ false
not_none n = grind (arith, nat_tests)

pub own_intact : (own : List Page) (items : List Damaged) → AreDamages items (damages_from 0 0 own)
    → are_intact own ≡ (length items == 0)
own_intact own [] are = none_damaged 0 0 own are
own_intact own (x ∷ xs) are = some_damaged 0 0 own x xs are ∙ sym (not_none (length xs))

and_true : (a b : Bool) → a ≡ true → b ≡ true → (a && b) ≡ true
and_true a b p q = ap (λ (x : Bool). x && b) p ∙ q

pub intact_more : (captures : List (List Page)) (own : List Page) → are_all_intact captures ≡ true
    → are_intact own ≡ true
    → are_all_intact (captures ++ own ∷ []) ≡ true
intact_more [] own before last = and_true (are_intact own) true last refl
intact_more (pages ∷ captures) own before last = by_first (are_intact pages) refl
    (λ rest. intact_more captures own rest last)
  where
    by_first : (a : Bool) → are_intact pages ≡ a
        → (are_all_intact captures ≡ true → are_all_intact (captures ++ own ∷ []) ≡ true)
        → (are_intact pages && are_all_intact (captures ++ own ∷ [])) ≡ true
    by_first true is more = and_true (are_intact pages) (are_all_intact (captures ++ own ∷ [])) is
        (more (sym (ap (λ (x : Bool). x && are_all_intact captures) is) ∙ before))
    by_first false is more = absurd (true≢false (sym before ∙ ap (λ (x : Bool). x && are_all_intact captures) is))

and_false : (a : Bool) → (a && false) ≡ false
and_false true = refl
and_false false = refl

pub not_intact : (parts : List ModelPart) (cpu : ℕ) (cpus : List CpuCapture) (captures : List (List Page)) (k : ℕ)
    (found : CpuCapture)
    → AreReadFrom parts cpu cpus captures → slice_get cpus k ≡ Some found
    → (length found.capture.damaged.items == 0) ≡ false
    → are_all_intact captures ≡ false
not_intact parts cpu [] captures k found read at none = absurd (none-some found at)
not_intact parts cpu (first ∷ cpus) [] k found read at none = absurd read
not_intact parts cpu (first ∷ cpus) (own ∷ captures) zero found read at none =
    ap (λ (x : Bool). x && are_all_intact captures)
    (own_intact own first.capture.damaged.items read.0.capture_is.damaged_are
    ∙ ap (λ (x : CpuCapture). length x.capture.damaged.items == 0) (some_is first found at) ∙ none)
not_intact parts cpu (first ∷ cpus) (own ∷ captures) (suc k) found read at none =
    ap (λ (x : Bool). are_intact own && x) (not_intact parts (suc cpu) cpus captures k found read.1 at none)
    ∙ and_false (are_intact own)

-- ---- a print of a collector is one of each that is the same

pub same_print : (joined parcels : List Parcel) (shown : Shown) → IsSame joined parcels → IsPrintOf joined shown
    → IsPrintOf parcels shown
same_print joined parcels shown same is = record {
  lines = record {
    ordered = is.lines.ordered;
    of_them = λ k line at. same.below.has line.cpu line.number _ (is.lines.of_them k line at);
    whole = λ cpu number r has. is.lines.whole cpu number r (same.above.has cpu number r has);
  };
  runs = λ cpu. let of_cpu = is.runs cpu in record {
    forward = of_cpu.forward;
    apart = of_cpu.apart;
    of_them = λ number inside. same.below.misses cpu number (of_cpu.of_them number inside);
    whole = λ number misses. of_cpu.whole number (same.above.misses cpu number misses);
  };
}

-- ---- how the writing ends

pub ended_so : {T F : Type 0} (result : Result T F) (failed : Bool) (wanted : Ending)
    (contents after : Option (List ℕ)) (text : List ℕ)
    → OnOk result (Appends contents after text) → OnErr result (AppendsPrefix contents after text)
    → ((failed ≡ true) ↔ IsErr result)
    → IsTextWritten NotWritten contents after failed text wanted (if is_ok result then wanted else NotWritten)
ended_so (Ok x) failed wanted contents after text all prefix fault = record {
  all = λ sound. (all, refl);
  cut_off = λ broken. absurd (true≢false (sym (fault.0 broken)));
}
ended_so (Err e) failed wanted contents after text all prefix fault = record {
  all = λ sound. absurd (true≢false (sym (fault.1 refl) ∙ sound));
  cut_off = λ broken. (prefix, refl);
}

pub ended : {T F : Type 0} (result : Result T F) (failed is_intact : Bool) (contents after : Option (List ℕ))
    (text : List ℕ)
    → OnOk result (Appends contents after text) → OnErr result (AppendsPrefix contents after text)
    → ((failed ≡ true) ↔ IsErr result)
    → IsTextWritten NotWritten contents after failed text (ending_of true is_intact)
    (ending_of (is_ok result) is_intact)
ended result failed is_intact contents after text all prefix fault =
    ended_so result failed (ending_of true is_intact) contents after text all prefix fault

-- ---- the line of a file that was cut short

pub with_line : (cut : Option CutFile) (text : List ℕ) → text ++ cut_line cut ≡ with_cut cut text
with_line None text = append-nil text
with_line (Some cut) text = refl
