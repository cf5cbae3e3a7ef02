-- What each step on a link's word makes of the writer's part, by what the word stated.
use Rattle.std.proofs.Common.{◌≡◌, ◌≢◌, ℕ, suc, ◌+◌, List, [], Some, refl, sym, ap, ◌∙◌, subst, arith}
use Rattle.trace_model.specs.Links.{normal, Link, normal_link, header_link}
use Rattle.trace_model.specs.Frames.{Role, owner, helper, Phase, looking_next, marking, opening, looking, Frame}
use Rattle.trace_model.specs.Frames.{noted_fill}
use Rattle.trace_model.specs.Ring.{Core, link_into}
use Rattle.trace_model.specs.Steps.{Answer, MayContinue, in_phase, after_next}
use Rattle.trace_model.proofs.steps.StepCases.{LoadLinkStep, load_link_late, sees_free, sees_header, sees_update}
use Rattle.trace_model.proofs.steps.StepCases.{ClaimHeadStep, claim_late, claims, claim_fails, LoadNextStep}
use Rattle.trace_model.proofs.steps.StepCases.{load_next_late, sees_normal, sees_other, MarkHeadStep, mark_late, marks}
use Rattle.trace_model.proofs.steps.StepCases.{mark_fails, ClearUpdateStep, clears}
use Rattle.link_marks.specs.declared.link.Mark as code
use Rattle.link_marks.specs.declared.link.Mark.TheVariants.{Normal, Header, Update}
use Rattle.link_marks.specs.ModelLinks.{mark_of}
use Rattle.ring_steps.specs.Views.{writing_of}
use Rattle.ring_steps.specs.Linking.{found_at}

-- what the frame does after the look at the next link is for the same fill
pub noted_after : (role : Role) (noted page : ℕ) → noted_fill (after_next role noted page) ≡ Some noted
noted_after owner noted page = refl
noted_after helper noted page = refl

pub says_normal : (m : code.Mark) → mark_of m ≡ normal → m ≡ Normal
says_normal Normal e = refl
says_normal Header e = absurd (cc)
says_normal Update e = absurd (cc)

module _ (n : ℕ) (c : Core) (frame : Frame) (below : List Frame) (answer : Answer) (after : Core) where
  abbrev To : Phase → Type 0
  To phase = writing_of [] after ≡ writing_of [] (in_phase c frame below phase)

  -- ---- the link into the position of the fill to open

  pub looked : (noted : ℕ) (l : Link) → noted ≡ c.opened → link_into n c.links noted ≡ l
      → LoadLinkStep n c frame below noted answer after → To (found_at l.mark noted l.page)
  looked noted l now link (load_link_late late) = absurd (late.passed now)
  looked noted l now link (sees_free page x at a is) =
      subst (λ (k : Link). To (found_at k.mark noted k.page)) (sym at ∙ link) (ap (writing_of []) is)
  looked noted l now link (sees_header page lost x sum at a is) =
      subst (λ (k : Link). To (found_at k.mark noted k.page)) (sym at ∙ link) (ap (writing_of []) is)
  looked noted l now link (sees_update page lost x sum at a is) =
      subst (λ (k : Link). To (found_at k.mark noted k.page)) (sym at ∙ link) (ap (writing_of []) is)

  -- ---- the claim of the head

  pub claimed : (noted page lost : ℕ) → noted ≡ c.opened → lost + n ≡ noted
      → link_into n c.links noted ≡ header_link page lost → ClaimHeadStep n c frame below noted page answer after
      → To (looking_next owner noted page)
  claimed noted page lost now sum link (claim_late late) = absurd (late.passed now)
  claimed noted page lost now sum link (claims other x other_sum at a is) = ap (writing_of []) is
  claimed noted page lost now sum link (claim_fails x none a is) = absurd (none lost sum link)

  pub not_claimed : (noted page lost : ℕ) → noted ≡ c.opened → lost + n ≡ noted
      → link_into n c.links noted ≢ header_link page lost → ClaimHeadStep n c frame below noted page answer after
      → To (looking noted)
  not_claimed noted page lost now sum differ (claim_late late) = absurd (late.passed now)
  not_claimed noted page lost now sum differ (claims other x other_sum at a is) =
      absurd (differ (at ∙ ap (header_link page) (let e : other ≡ lost = omega arith in e)))
  not_claimed noted page lost now sum differ (claim_fails x none a is) = ap (writing_of []) is

  -- ---- the next link

  -- a frame that goes on hasn't come late
  not_late : (role : Role) (noted : ℕ) → role ≡ helper → noted ≢ c.opened → MayContinue role noted c.opened → ⊥
  not_late role noted helps passed on = passed (subst (λ (r : Role). MayContinue r noted c.opened) helps on)

  pub waits : (role : Role) (noted page after_lost : ℕ) (l : Link) → MayContinue role noted c.opened
      → after_lost + n ≡ noted + 1 → link_into n c.links after_lost ≡ l → l ≡ normal_link l.page after_lost
      → LoadNextStep n c frame below role noted page answer after → To (marking role noted page l.page)
  waits role noted page after_lost l on sum link is_next (load_next_late helps late) =
      absurd (not_late role noted helps late.passed on)
  waits role noted page after_lost l on sum link is_next (sees_normal lost next x lost_sum at a is) =
      let after_lost_is : suc lost ≡ after_lost = omega arith in
      let same : normal_link next (suc lost) ≡ l = sym at ∙ ap (link_into n c.links) after_lost_is ∙ link in
      ap (writing_of []) is
      ∙ ap (λ (k : Link). writing_of [] (in_phase c frame below (marking role noted page k.page))) same
  waits role noted page after_lost l on sum link is_next (sees_other lost x lost_sum none a is) =
      let after_lost_is : suc lost ≡ after_lost = omega arith in
      absurd (none l.page
      (ap (link_into n c.links) after_lost_is
      ∙ (link ∙ (is_next ∙ ap (normal_link l.page) (sym after_lost_is)))))

  pub is_passed : (role : Role) (noted page after_lost : ℕ) (l : Link) → MayContinue role noted c.opened
      → after_lost + n ≡ noted + 1 → link_into n c.links after_lost ≡ l → ((page : ℕ) → l ≢ normal_link page after_lost)
      → LoadNextStep n c frame below role noted page answer after → To (after_next role noted page)
  is_passed role noted page after_lost l on sum link differ (load_next_late helps late) =
      absurd (not_late role noted helps late.passed on)
  is_passed role noted page after_lost l on sum link differ (sees_normal lost next x lost_sum at a is) =
      let after_lost_is : suc lost ≡ after_lost = omega arith in
      absurd (differ next
      (sym link ∙ (ap (link_into n c.links) (sym after_lost_is) ∙ (at ∙ ap (normal_link next) after_lost_is))))
  is_passed role noted page after_lost l on sum link differ (sees_other lost x lost_sum none a is) =
      ap (writing_of []) is

  pub marked : (role : Role) (noted page next : ℕ) → MayContinue role noted c.opened
      → MarkHeadStep n c frame below role noted page next answer after → To (after_next role noted page)
  marked role noted page next on (mark_late helps late) = absurd (not_late role noted helps late.passed on)
  marked role noted page next on (marks lost x sum at a is) = ap (writing_of []) is
  marked role noted page next on (mark_fails lost x sum differ a is) = ap (writing_of []) is

  -- ---- the frame's own UPDATE

  pub cleared : (noted page : ℕ) → ClearUpdateStep n c frame below noted page answer after → To (opening noted page)
  cleared noted page (clears lost sum at a is) = ap (writing_of []) is
