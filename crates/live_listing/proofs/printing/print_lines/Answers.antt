use Rattle.std.proofs.Common.{◌≡◌, ◌∷◌, [], ◌++◌, ◌+◌, ◌∙◌, ap, sym, subst, List, ℕ, take}
use Rattle.std.proofs.Common.{length, append_assoc, rules, arith}
use Rattle.std.proofs.Math.Seq.{take-length}
use Rattle.std.specs.Prelude.{cond, count_by}
use Rattle.std.proofs.lemmas.List.{take_more, map-append}
use Rattle.trace_model.specs.Listing.{Line}
use Rattle.text_values.specs.Putting.{Puts}
use Rattle.text_values.proofs.Chains.{put_then, put_same}
use Rattle.line_follower.specs.declared.lines.Said.{Said}
use Rattle.line_follower.specs.Order.{line_of}
use Rattle.live_listing.specs.declared.pages.Content.{Content}
use Rattle.live_listing.specs.Printing.{said_texts, listed_of, listed_all, is_late, HasPrinted}
use Rattle.live_listing.proofs.Printed.{one_more_text, one_late}
use Rattle.live_listing.proofs.printing.print_lines.Goals as goal

pub loop-said-preserved : goal.loop-said-preserved
loop-said-preserved g c =
    let l = c.loop-said in
    let given = c.args.given.now in
    let said = c.said-item.result in
    let front = take l.said-index given in
    let more : front ++ said ∷ [] ≡ take (l.said-index + 1) given =
    ap (λ (s : Said Content). front ++ s ∷ []) c.said-item.is
    ∙ sym (take_more given l.said-index said c.loop-said-test.true) in
    let step : c.from-late.result ≡ cond (is_late said) 1 0 =
    search (rules, c.from-late.ensures, c.print_said.ensures.late) in
    let late =
    ap (λ (n : ℕ). l.late + n) step
    ∙ one_late front said l.late l.invariant.1 in (
      c.print_said.ensures.sound,
      late ∙ ap (λ (all : List (Said Content)). count_by is_late all) more,
      λ form detail selected before has.
          let was = l.invariant.2 form detail selected before has in
          let now = c.print_said.ensures.printed form detail selected (before ++ listed_all front) was.0 in
          let lines : (before ++ listed_all front) ++ listed_of (line_of said) ∷ []
          ≡ before ++ listed_all (front ++ said ∷ []) =
          append_assoc before (listed_all front) (listed_of (line_of said) ∷ [])
          ∙ ap (λ (back : List Line). before ++ back)
          (sym (map-append (λ (s : Said Content). listed_of (line_of s)) front (said ∷ []))) in
          subst
          (λ (all : List (Said Content)).
          HasPrinted form detail selected (before ++ listed_all all) c.print_said.new.printer
          × Puts (said_texts form detail selected c.args.size before all) c.args.out.now c.print_said.new.out)
          more (
            subst (λ (ls : List Line). HasPrinted form detail selected ls c.print_said.new.printer) lines now.0,
            put_same _ _ (sym (one_more_text form detail selected c.args.size before front said))
                (put_then _ _ was.1 now.1),
          ),
    )

pub returns-clause-printed : goal.returns-clause-printed
returns-clause-printed g c = λ form detail selected before has.
    let l = c.loop-said in
    let given = c.args.given.now in
    let all : l.said-index ≡ length given = omega (arith, c.loop-said-test.false, l.auto.said-index-end) in
    subst
    (λ (all : List (Said Content)).
    HasPrinted form detail selected (before ++ listed_all all) l.printer
    × Puts (said_texts form detail selected c.args.size before all) c.args.out.now l.out)
    (ap (λ (n : ℕ). take n given) all ∙ take-length given)
    (l.invariant.2 form detail selected before has)
