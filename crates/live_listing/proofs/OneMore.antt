-- One thing more that happens.
use Rattle.std.proofs.Common.{◌≡◌, ◌⊎◌, ℕ, ◌+◌, Bool, false, ◌&&◌, List, [], ◌∷◌, ◌++◌, map, Option, None}
use Rattle.std.proofs.Common.{refl, sym, ap, ap₂, ◌∙◌, subst, append_assoc, append-nil, arith}
use Rattle.std.specs.Prelude.{cond, count_by}
use Rattle.std.specs.Option.{option_or}
use Rattle.std.proofs.lemmas.List.{map-append}
use Rattle.std.proofs.lemmas.List.Sums.{sum_by-append}
use Rattle.trace_model.specs.Listing.{Line}
use Rattle.trace_model.specs.declared.numbers.CpuId.{CpuId}
use Rattle.line_follower.specs.declared.lines.Said.{Said}
use Rattle.line_follower.specs.Order.{line_of}
use Rattle.capture_text.specs.declared.form.Form.{Form}
use Rattle.capture_text.specs.declared.printer.Printer.{Printer}
use Rattle.capture_text.specs.Printing.{Detail}
use Rattle.capture_text.specs.Selection.{Selected}
use Rattle.live_listing.specs.declared.pages.Content.{Content}
use Rattle.live_listing.specs.declared.following.Happening.{Happening as Happens}
use Rattle.live_listing.specs.declared.following.Happening.TheVariants.{Page, Quiet, Ended, NotRead}
use Rattle.line_follower.specs.Known.{is_any_open}
use Rattle.live_listing.specs.Pages.{Reached}
use Rattle.live_listing.specs.Live.{Live, Happening, Step, Run, GivesRest, nothing_live}
use Rattle.live_listing.specs.Printing.{said_texts, line_text, listed_of, listed_all, is_late, HasPrinted}
use Rattle.live_listing.specs.Following.{happening_seen, Happened, IsOther, IsWritten, PrintsAll, Follows, counted}
use Rattle.live_listing.specs.Following.{FollowsAll, last_gaps, are_intact, whole_text, first_not_read}
use Rattle.live_listing.specs.declared.following.Followed.{Followed}
use Rattle.live_listing.specs.Printing.{bound_after}
use Rattle.live_listing.proofs.Printed.{same_bound}
use Rattle.live_listing.proofs.Writing.{written_then, nothing_printed}
use Rattle.capture_text.specs.Printed.{bounds_of}
use Rattle.capture_text.specs.Window.{KnownBound}
use Rattle.std.specs.List.{list_all}

-- the text of lines, and then of others
texts_append : (form : Form) (detail : Detail) (selected : Selected) (size : ℕ) (before : List Line)
    (given others : List (Said Content))
    → said_texts form detail selected size before (given ++ others)
    ≡ said_texts form detail selected size before given
    ++ said_texts form detail selected size (before ++ listed_all given) others
texts_append form detail selected size before [] others =
    ap (λ (b : List Line). said_texts form detail selected size b others) (sym (append-nil before))
texts_append form detail selected size before (said ∷ given) others =
    let line = listed_of (line_of said) in
    let own = line_text form detail selected size before (line_of said) (is_late said) in
    ap (λ (rest : List ℕ). own ++ rest)
    (texts_append form detail selected size (before ++ line ∷ []) given others
    ∙ ap (λ (b : List Line).
    said_texts form detail selected size (before ++ line ∷ []) given ++ said_texts form detail selected size b others)
    (append_assoc before (line ∷ []) (listed_all given)))
    ∙ sym (append_assoc own (said_texts form detail selected size (before ++ line ∷ []) given)
    (said_texts form detail selected size (before ++ line ∷ listed_all given) others))

all_append : (before : List Line) (given others : List (Said Content))
    → (before ++ listed_all given) ++ listed_all others ≡ before ++ listed_all (given ++ others)
all_append before given others =
    append_assoc before (listed_all given) (listed_all others)
    ∙ ap (λ (back : List Line). before ++ back)
    (sym (map-append (λ (s : Said Content). listed_of (line_of s)) given others))

-- lines are printed, and then others
pub prints_then : (size : ℕ) (given others : List (Said Content)) (first between last : Printer)
    (start before after : Option (List ℕ)) (was failed : Bool) → was ≡ false
    → PrintsAll size given first start between before was
    → PrintsAll size others between before last after failed
    → PrintsAll size (given ++ others) first start last after failed
prints_then size given others first between last start before after was failed sound one two =
    λ form detail selected lines has.
    let a = one form detail selected lines has in
    let b = two form detail selected (lines ++ listed_all given) a.0 in (
      subst (λ (ls : List Line). HasPrinted form detail selected ls last) (all_append lines given others) b.0,
      subst (IsWritten start after failed) (sym (texts_append form detail selected size lines given others))
          (written_then start before after was failed _ _ sound a.1 b.1),
    )

-- lines are printed, and behind them what was lost last
pub whole_written : (size : ℕ) (all : List (Said Content)) (cpus : List Reached) (printer last : Printer)
    (contents between after : Option (List ℕ)) (was failed : Bool) → was ≡ false
    → PrintsAll size all printer contents last between was
    → IsWritten between after failed (last_gaps last.form (bounds_of last) size 0 cpus)
    → (form : Form) (detail : Detail) (selected : Selected) (before : List Line)
    → HasPrinted form detail selected before printer
    → HasPrinted form detail selected (before ++ listed_all all) last
    × IsWritten contents after failed (whole_text form detail selected size before all cpus)
whole_written size all cpus printer last contents between after was failed sound prints gaps =
    λ form detail selected before has.
    let lines = prints form detail selected before has in
    let known = before ++ listed_all all in
    let same : bounds_of last ≡ bound_after selected known =
    λ i cpu. same_bound form detail selected known last cpu lines.0 i in (
      lines.0,
      written_then contents between after was failed _ _ sound lines.1
          (subst (IsWritten between after failed)
          (ap₂ (λ (f : Form) (b : ℕ → Option KnownBound). last_gaps f b size 0 cpus) lines.0.form_is same) gaps),
    )

-- the first CPU of which a read failed, with one thing more
first_with : (happened : List Happens) (happening : Happens)
    → first_not_read (happened ++ happening ∷ [])
    ≡ option_or (first_not_read happened) (first_not_read (happening ∷ []))
first_with [] happening = refl
first_with (NotRead cpu ∷ happened) happening = refl
first_with (Page cpu bytes ∷ happened) happening = first_with happened happening
first_with (Quiet cpu ∷ happened) happening = first_with happened happening
first_with (Ended cpu ∷ happened) happening = first_with happened happening

-- it happens after the others
run_more : (old between new : Live) (happened : List Happening) (happening : Happening)
    (given said : List (Said Content))
    → Run old happened given between
    → Step happening between said new
    → Run old (happened ++ happening ∷ []) (given ++ said) new
run_more old between new [] happening given said (same, none) step = (
  new,
  said,
  [],
  subst (λ (live : Live). Step happening live said new) (sym same) step,
  (refl, refl),
  ap (λ (g : List (Said Content)). g ++ said) none ∙ sym (append-nil said),
)
run_more old between new (first ∷ happened) happening given said (mid, own, rest, is, others, all) step = (
  mid,
  own,
  rest ++ said,
  is,
  run_more mid between new happened happening rest said others step,
  ap (λ (g : List (Said Content)). g ++ said) all ∙ append_assoc own rest said,
)

module _ {S : Type 0} (gives : S → Happens → S → Type 0) (cpus : List CpuId) where
  happened_more : (old between new : S) (happened : List Happens) (happening : Happens)
      → Happened gives cpus old happened between
      → (gives between happening new ⊎ (IsOther cpus happening × (new ≡ between)))
      → Happened gives cpus old (happened ++ happening ∷ []) new
  happened_more old between new [] happening same is =
      (new, subst (λ (s : S). gives s happening new ⊎ (IsOther cpus happening × (new ≡ s))) (sym same) is, refl)
  happened_more old between new (first ∷ happened) happening (mid, own, others) is =
      (mid, own, happened_more mid between new happened happening others is)

  late_more : (late more all : ℕ) (n m : ℕ) → late ≡ counted n → more ≡ m → all ≡ counted (late + more)
      → all ≡ counted (n + m)
  late_more late more all n m is own sum = omega (arith, is, own, sum)

  -- one thing more
  pub one_more : (size : ℕ) (source between new : S) (printer mid last : Printer)
      (contents before after : Option (List ℕ)) (was failed : Bool) (live now : Live) (late more all : ℕ)
      (not_read not_read_now : Option CpuId) (happening : Happens) (said : List (Said Content)) → was ≡ false
      → Follows gives cpus size source printer contents between live mid before was late not_read
      → (gives between happening new ⊎ (IsOther cpus happening × (new ≡ between)))
      → Step (happening_seen happening) live said now
      → PrintsAll size said mid before last after failed
      → more ≡ count_by is_late said
      → all ≡ counted (late + more)
      → not_read_now ≡ option_or not_read (first_not_read (happening ∷ []))
      → Follows gives cpus size source printer contents new now last after failed all not_read_now
  one_more size source between new printer mid last contents before after was failed live now late more all not_read
      not_read_now happening said sound so_far is step prints own sum first = record {
        happened = so_far.happened ++ happening ∷ [];
        happens = happened_more source between new so_far.happened happening so_far.happens is;
        given = so_far.given ++ said;
        run = subst (λ (hs : List Happening). Run nothing_live hs (so_far.given ++ said) now)
            (sym (map-append happening_seen so_far.happened (happening ∷ [])))
            (run_more nothing_live live now (map happening_seen so_far.happened) (happening_seen happening)
            so_far.given said so_far.run step);
        prints = prints_then size so_far.given said printer mid last contents before after was failed sound
            so_far.prints prints;
        late_is = late_more late more all (count_by is_late so_far.given) (count_by is_late said) so_far.late_is own sum
            ∙ ap counted (sym (sum_by-append (λ s. cond (is_late s) 1 0) so_far.given said));
        not_read_is = first
            ∙ ap (λ (cpu : Option CpuId). option_or cpu (first_not_read (happening ∷ []))) so_far.not_read_is
            ∙ sym (first_with so_far.happened happening);
      }

  -- nothing has happened
  pub begun : (size : ℕ) (source : S) (printer : Printer) (contents : Option (List ℕ)) (failed : Bool) (live : Live)
      → failed ≡ false → live ≡ nothing_live
      → Follows gives cpus size source printer contents source live printer contents failed 0 None
  begun size source printer contents failed live sound is = record {
    happened = [];
    happens = refl;
    given = [];
    run = (sym is, refl);
    prints = nothing_printed size printer contents failed sound;
    late_is = refl;
    not_read_is = refl;
  }

  -- and then all have ended, what is left is given, and what was lost last
  pub all_followed : (size : ℕ) (source source_now : S) (printer mid last : Printer)
      (contents before between after : Option (List ℕ)) (was then_failed failed : Bool) (live end : Live)
      (late more : ℕ) (not_read : Option CpuId) (rest : List (Said Content)) (followed : Followed)
      → was ≡ false → then_failed ≡ false → failed ≡ false
      → Follows gives cpus size source printer contents source_now live mid before was late not_read
      → is_any_open live.following.known.cpus ≡ false
      → GivesRest live rest end
      → PrintsAll size rest mid before last between then_failed
      → more ≡ count_by is_late rest
      → IsWritten between after failed (last_gaps last.form (bounds_of last) size 0 end.cpus)
      → followed.late ≡ counted (late + more)
      → followed.is_intact ≡ are_intact end.cpus
      → followed.not_read ≡ not_read
      → FollowsAll gives cpus size source printer contents source_now last after followed
  all_followed size source source_now printer mid last contents before between after was then_failed failed live end
      late more not_read rest followed sound then_sound still so_far ended gives_rest prints own gaps sum intact first =
      let all = prints_then size so_far.given rest printer mid last contents before between was then_failed sound
      so_far.prints prints in
      let whole = whole_written size (so_far.given ++ rest) end.cpus printer last contents between after then_failed
      failed then_sound all gaps in
      record {
        happened = so_far.happened;
        happens = so_far.happens;
        given = so_far.given;
        live = live;
        run = so_far.run;
        ended = ended;
        rest = rest;
        last = end;
        gives_rest = gives_rest;
        prints = λ form detail selected lines has.
            let (printed, written) = whole form detail selected lines has in (printed, written.all still);
        late_is = late_more late more followed.late (count_by is_late so_far.given) (count_by is_late rest)
            so_far.late_is own sum
            ∙ ap counted (sym (sum_by-append (λ s. cond (is_late s) 1 0) so_far.given rest));
        intact_is = intact;
        not_read_is = first ∙ so_far.not_read_is;
      }

-- whether all of a list are so, by what is seen of each
pub all_seen : {A B : Type 0} (seen : A → B) (is : B → Bool) (xs : List A)
    → list_all (λ x. is (seen x)) xs ≡ list_all is (map seen xs)
all_seen seen is [] = refl
all_seen seen is (x ∷ xs) = ap (λ (rest : Bool). is (seen x) && rest) (all_seen seen is xs)
