-- What a change of one range does to what is stated.
use Rattle.std.proofs.Common.{◌≡◌, ◌≢◌, ⊎_elim, ℕ, ◌<◌, ◌≤◌, ◌↔◌, false, List, [], ◌∷◌, ◌++◌, Option, Some, None}
use Rattle.std.proofs.Common.{IsSome, is_some, refl, sym, ap, ◌∙◌, subst, arith}
use Rattle.std.specs.Ordering.{nat_cmp, is_eq}
use Rattle.std.specs.Cmp.{nat_cmp_is}
use Rattle.std.specs.declared.cmp.Ordering.TheVariants.{Less, Greater}
use Rattle.std.specs.BTreeMap.{BTreeMap, get, is_at, Updates}
use Rattle.std.specs.Map.{lookup}
use Rattle.std.specs.BTreeMap.Range.{IsRangeOf, IsUpToEnd}
use Rattle.std.specs.declared.ops.Bound.{Bound}
use Rattle.std.specs.declared.ops.Bound.TheVariants.{Unbounded}
use Rattle.std.proofs.lemmas.Bool.{cases_lt, cases_eq}
use Rattle.std.proofs.lemmas.Map.Keys.{ge_from_not_lt}
use Rattle.collector.specs.declared.ranges.Content.{Content}
use Rattle.collector.specs.declared.ranges.Span.{Span}
use Rattle.collector.specs.declared.ranges.Ranges.{Ranges}
use Rattle.collector.specs.declared.ranges.Content.TheVariants.{Kept, Missing}
use Rattle.collector.specs.Ranges.{HasContent, ReportSame, IsFree, KeepsEdges, IsLaid}

-- ---- one key

none_unless : {X : Type 0} (o : Option X) → (IsSome o → ⊥) → o ≡ None
none_unless None h = refl
none_unless (Some x) h = absurd (h refl)

-- after the last key up to an end there is none up to it
pub none_behind_last : {X : Type 0} (m : BTreeMap ℕ X) (end : Bound ℕ) (r t : List (ℕ × X)) (first : ℕ) (x : X)
    → IsRangeOf nat_cmp Unbounded end m r → r ≡ t ++ (first, x) ∷ []
    → (q : ℕ) → first < q → IsUpToEnd nat_cmp end q → get nat_cmp m q ≡ None
none_behind_last m end r t first x range e q behind up_to =
    none_unless (get nat_cmp m q) (λ some.
    let le = ge_from_not_lt first q (range.4 (first, x) t e q (tt, up_to) some) in omega arith)

not_at : (k q : ℕ) → (q ≡ k → ⊥) → is_eq (nat_cmp k q) ≡ false
not_at k q apart = ⊎_elim
    (λ (lt : k < q). ap is_eq (sym (nat_cmp_is k q Less lt)))
    (λ (ge : q ≤ k).
    ⊎_elim (λ (lt : q < k). ap is_eq (sym (nat_cmp_is k q Greater lt)))
    (λ (le : k ≤ q). absurd (apart (omega arith))) (cases_lt q k))
    (cases_lt k q)

-- a write at one key leaves the others
pub others_stay : {X : Type 0} (old new : BTreeMap ℕ X) (k : ℕ) (w : Option X) → Updates nat_cmp old new k w
    → (q : ℕ) → (q ≡ k → ⊥) → get nat_cmp new q ≡ get nat_cmp old q
others_stay old new k w updates q apart = updates.2 q (not_at k q apart)

-- ---- a range cut in two

module _ (old mid new : BTreeMap ℕ Span) (first place : ℕ) (span front : Span)
    (at : get nat_cmp old first ≡ Some span) (before : first < place) (over : place < span.end)
    (none : (q : ℕ) → first < q → q ≤ place → get nat_cmp old q ≡ None)
    (end_is : front.end ≡ place) (content_is : front.content ≡ span.content)
    (behind_set : Updates nat_cmp old mid place (Some span)) (front_set : Updates nat_cmp mid new first (Some front))
  where
    behind_is : get nat_cmp new place ≡ Some span
    behind_is = others_stay mid new first (Some front) front_set place (λ e. omega arith) ∙ behind_set.1

    others_are : (q : ℕ) → (q ≡ first → ⊥) → (q ≡ place → ⊥) → get nat_cmp new q ≡ get nat_cmp old q
    others_are q not_first not_place = others_stay mid new first (Some front) front_set q not_first
        ∙ others_stay old mid place (Some span) behind_set q not_place

    old_reported : (number : ℕ) (content : Content) → HasContent record { spans = old } number content
        → HasContent record { spans = new } number content
    old_reported number content t = ⊎_elim
        (λ (e : t.first ≡ first).
        let same : t.span ≡ span = let a = t.at in
        let b = subst (λ (q : ℕ). get nat_cmp old q ≡ Some t.span) e t.at in
        cc in
        let below : number < span.end = subst (λ (s : Span). number < s.end) same t.below in
        let is : span.content ≡ content = ap (λ (s : Span). s.content) (sym same) ∙ t.content_is in
        let from : first ≤ number = subst (λ (q : ℕ). q ≤ number) e t.from in
        ⊎_elim
        (λ (lt : number < place).
        record {
          first = first;
          span = front;
          at = front_set.1;
          from = from;
          below = omega arith;
          content_is = content_is ∙ is;
        })
        (λ (ge : place ≤ number).
        record { first = place; span = span; at = behind_is; from = ge; below = below; content_is = is })
        (cases_lt number place))
        (λ (apart : t.first ≡ first → ⊥).
        let not_place : t.first ≡ place → ⊥ = λ e. let n = none place before (omega arith) in
        let b = subst (λ (q : ℕ). get nat_cmp old q ≡ Some t.span) e t.at in
        cc in
        record {
          first = t.first;
          span = t.span;
          at = others_are t.first apart not_place ∙ t.at;
          from = t.from;
          below = t.below;
          content_is = t.content_is;
        })
        (cases_eq t.first first)

    new_reported : (number : ℕ) (content : Content) → HasContent record { spans = new } number content
        → HasContent record { spans = old } number content
    new_reported number content t = ⊎_elim
        (λ (e : t.first ≡ first).
        let same : t.span ≡ front = let b = subst (λ (q : ℕ). get nat_cmp new q ≡ Some t.span) e t.at in
        let h = front_set.1 in
        cc in
        let below : number < front.end = subst (λ (s : Span). number < s.end) same t.below in
        let is : front.content ≡ content = ap (λ (s : Span). s.content) (sym same) ∙ t.content_is in
        record {
          first = first;
          span = span;
          at = at;
          from = subst (λ (q : ℕ). q ≤ number) e t.from;
          below = omega arith;
          content_is = sym content_is ∙ is;
        })
        (λ (apart : t.first ≡ first → ⊥). ⊎_elim
        (λ (e : t.first ≡ place).
        let same : t.span ≡ span = let b = subst (λ (q : ℕ). get nat_cmp new q ≡ Some t.span) e t.at in
        let h = behind_is in
        cc in
        let from : place ≤ number = subst (λ (q : ℕ). q ≤ number) e t.from in
        record {
          first = first;
          span = span;
          at = at;
          from = omega arith;
          below = subst (λ (s : Span). number < s.end) same t.below;
          content_is = ap (λ (s : Span). s.content) (sym same) ∙ t.content_is;
        })
        (λ (not_place : t.first ≡ place → ⊥).
        record {
          first = t.first;
          span = t.span;
          at = sym (others_are t.first apart not_place) ∙ t.at;
          from = t.from;
          below = t.below;
          content_is = t.content_is;
        })
        (cases_eq t.first place))
        (cases_eq t.first first)

    pub cut_reports_same : ReportSame record { spans = old } record { spans = new }
    cut_reports_same number content = (old_reported number content, new_reported number content)

-- ---- a mark

-- a refused write leaves the edges
pub edges_unchanged : (ranges : Ranges) (mid new : BTreeMap ℕ Span) → new.entries ≡ mid.entries
    → KeepsEdges ranges record { spans = mid } → KeepsEdges ranges record { spans = new }
edges_unchanged ranges mid new e keeps = record {
  marks = λ place marked. ap (λ es. is_some (lookup (is_at (nat_cmp place)) es)) e ∙ keeps.marks place marked;
  cuts =
      λ place cut first span at.
      keeps.cuts place cut first span (ap (λ es. lookup (is_at (nat_cmp first)) es) (sym e) ∙ at);
}

-- an empty range at a place that had none leaves them
pub edges_marked : (ranges : Ranges) (mid new : BTreeMap ℕ Span) (place : ℕ) (empty : Span) → empty.end ≡ place
    → Updates nat_cmp mid new place (Some empty)
    → KeepsEdges ranges record { spans = mid } → KeepsEdges ranges record { spans = new }
edges_marked ranges mid new place empty end_is set keeps = record {
  marks = λ q marked. ⊎_elim
      (λ (e : q ≡ place). ap is_some (ap (λ (k : ℕ). get nat_cmp new k) e ∙ set.1))
      (λ (apart : q ≡ place → ⊥).
      ap is_some (others_stay mid new place (Some empty) set q apart) ∙ keeps.marks q marked)
      (cases_eq q place);
  cuts = λ q cut first span at lt. ⊎_elim
      (λ (e : first ≡ place).
      let same : span ≡ empty = let b = subst (λ (k : ℕ). get nat_cmp new k ≡ Some span) e at in let h = set.1 in cc in
      let is = ap (λ (s : Span). s.end) same in
      omega arith)
      (λ (apart : first ≡ place → ⊥).
      keeps.cuts q cut first span (sym (others_stay mid new place (Some empty) set first apart) ∙ at) lt)
      (cases_eq first place);
}

-- ---- a parcel laid

pub report_same : (old mid new : Ranges) → ReportSame old mid → ReportSame mid new → ReportSame old new
report_same old mid new a b number content =
    ((λ t. (b number content).0 ((a number content).0 t)), (λ t. (a number content).1 ((b number content).1 t)))

-- what a set has set
pub record IsSet (old new : Ranges) (first end : ℕ) (content : Content) : Type 0 where
  pub inside : (n : ℕ) → first ≤ n → n < end → HasContent new n content
  pub alone : (n : ℕ) (other : Content) → first ≤ n → n < end → HasContent new n other → other ≡ content
  pub in_front : (n : ℕ) (other : Content) → n < first → (HasContent old n other ↔ HasContent new n other)
  pub behind : (n : ℕ) (other : Content) → end ≤ n → (HasContent old n other ↔ HasContent new n other)

pub both_laid : (old ready mid new : Ranges) (low first end parcel : ℕ) → low ≤ first → first ≤ end
    → ReportSame old ready
    → IsSet ready mid low first Missing → IsSet mid new first end (Kept parcel)
    → IsLaid (HasContent old) (HasContent new) low first end parcel
both_laid old ready mid new low first end parcel up on same a b = record {
  missing = λ n from below. (b.in_front n Missing below).0 (a.inside n from below);
  missing_alone = λ n content from below t. a.alone n content from below ((b.in_front n content below).1 t);
  kept = b.inside;
  kept_alone = b.alone;
  in_front = λ n content lt. report_same_at n content
      (report_same_at n content (same n content) (a.in_front n content lt)) (b.in_front n content (omega arith));
  behind = λ n content ge. report_same_at n content
      (report_same_at n content (same n content) (a.behind n content (omega arith))) (b.behind n content ge);
}
  where
    report_same_at : (n : ℕ) (content : Content) {x y z : Ranges} → (HasContent x n content ↔ HasContent y n content)
        → (HasContent y n content ↔ HasContent z n content) → (HasContent x n content ↔ HasContent z n content)
    report_same_at n content f g = ((λ t. g.0 (f.0 t)), (λ t. f.1 (g.1 t)))

-- ---- a parcel laid where nothing is stated

-- nothing is stated of a free number
pub none_where_free : (ranges : Ranges) (low end : ℕ) → IsFree ranges low end → (n : ℕ) (content : Content)
    → low ≤ n → n < end → HasContent ranges n content → ⊥
none_where_free ranges low end free n content from below t = ⊎_elim
    (λ (before : t.first < low).
    let le = free.cut t.first t.span t.at before in
    let over : n < t.span.end = t.below in omega arith)
    (λ (ge : low ≤ t.first).
    let up_to : t.first ≤ n = t.from in
    let none = free.none t.first ge (omega arith) in
    let at = t.at in cc)
    (cases_lt t.first low)

-- equal ranges state the same
pub keys_report_same : (old new : Ranges) → ((q : ℕ) → get nat_cmp new.spans q ≡ get nat_cmp old.spans q)
    → ReportSame old new
keys_report_same old new same number content = (
  (λ t.
      record {
        first = t.first;
        span = t.span;
        at = same t.first ∙ t.at;
        from = t.from;
        below = t.below;
        content_is = t.content_is;
      }),
  (λ t.
      record {
        first = t.first;
        span = t.span;
        at = sym (same t.first) ∙ t.at;
        from = t.from;
        below = t.below;
        content_is = t.content_is;
      }),
)

module _ (old mid : Ranges) (low first end : ℕ) (up : low ≤ first) (on : first ≤ end) (free : IsFree old low end)
    (others : (q : ℕ) → (low < first → q ≢ low) → get nat_cmp mid.spans q ≡ get nat_cmp old.spans q) where
  -- what follows the missing numbers is still free
  pub free_behind : (low < first → (span : Span) → get nat_cmp mid.spans low ≡ Some span → span.end ≤ first)
      → IsFree mid first end
  free_behind ends = record {
    cut = λ f span at lt. ⊎_elim
        (λ (e : f ≡ low). ends (omega arith) span (subst (λ (q : ℕ). get nat_cmp mid.spans q ≡ Some span) e at))
        (λ (apart : f ≡ low → ⊥).
        let was : get nat_cmp old.spans f ≡ Some span = sym (others f (λ _. apart)) ∙ at in
        ⊎_elim
        (λ (before : f < low). let le = free.cut f span was before in omega arith)
        (λ (from : low ≤ f). let none = free.none f from (omega arith) in cc)
        (cases_lt f low))
        (cases_eq f low);
    none = λ q from below. others q (λ lt e. omega arith) ∙ free.none q (omega arith) below;
  }

  -- without the missing numbers all is as it was
  pub undone : (refused new : Ranges) → first < end → ((q : ℕ) → get nat_cmp refused.spans q ≡ get nat_cmp mid.spans q)
      → Updates nat_cmp refused.spans new.spans low None → ReportSame old new
  undone refused new some same removed = keys_report_same old new (λ q. ⊎_elim
      (λ (e : q ≡ low). ap (λ (k : ℕ). get nat_cmp new.spans k) e ∙ removed.1
      ∙ sym (ap (λ (k : ℕ). get nat_cmp old.spans k) e ∙ free.none low (omega arith) (omega arith)))
      (λ (apart : q ≡ low → ⊥).
      others_stay refused.spans new.spans low None removed q apart ∙ same q ∙ others q (λ _. apart))
      (cases_eq q low))
