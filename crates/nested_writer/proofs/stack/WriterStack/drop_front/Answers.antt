use Rattle.std.proofs.Common.{[], ◌≡◌, ℕ, suc, ◌+◌, ◌∷◌, ◌++◌, length, Option, refl, sym, ap, ◌∙◌, subst, arith}
use Rattle.std.specs.Option.{option_to_list}
use Rattle.page_image.specs.Contents.{Contents}
use Rattle.nested_writer.specs.Stack.{Stack, tail_fill}
use Rattle.nested_writer.specs.TopFrame.{frame_in}
use Rattle.nested_writer.specs.Inside.{stack_of, frames_from}
use Rattle.nested_writer.specs.Calls.{IsAtBottom}
use Rattle.nested_writer.specs.IsStack.{IsStack, IsReachedStack}
use Rattle.nested_writer.proofs.Dropping.{released}
use Rattle.nested_writer.proofs.Releasing.{front_written, front_committed, front_some}
use Rattle.nested_writer.proofs.Staying.{has_events_stays}
use Rattle.nested_writer.proofs.stack.WriterStack.drop_front.Goals as goal

pub returns-clause-stack : goal.returns-clause-stack
returns-clause-stack c = λ start h old.
    let s : Stack = stack_of c.self.inside in
    let k : IsStack start h s = subst (IsStack start h) (sym c.self.view_is) old in
    let bottom = subst (λ (x : Stack). IsAtBottom x.frames) (sym c.self.view_is) c.requires.bottom in
    let older : s.older ≡ c.in-Some.page ∷ c.pop.new.self.pages =
    c.pop.ensures.pages ∙ ap (λ (o : Option Contents). option_to_list o ++ c.pop.new.self.pages) c.in-Some.is in
    let long : length s.older ≡ suc (length c.pop.new.self.pages) = ap length older in
    let fill : s.done + 1 + length c.pop.new.self.pages ≡ tail_fill s = omega (arith, long) in
    subst
    (λ (n : ℕ).
    IsStack start (h ++ [])
    (record s {
      done = s.done + 1;
      older = c.pop.new.self.pages;
      frames = frames_from (frame_in c.self.inside.top n) c.self.inside.below.items;
    })) (sym fill) (released start h s c.in-Some.page c.pop.new.self.pages _ older refl bottom k)

pub returns-clause-written : goal.returns-clause-written
returns-clause-written c = λ start h k.
    let older = ap (λ (x : Stack). x.older) (sym c.self.view_is) ∙ c.in-Some.ensures.pages in
    front_written start h c.args.self.now c.in-Some.page c.pop.new.self.pages c.requires.bottom older k

pub returns-clause-committed : goal.returns-clause-committed
returns-clause-committed c = λ start h k.
    let older = ap (λ (x : Stack). x.older) (sym c.self.view_is) ∙ c.in-Some.ensures.pages in
    front_committed start h c.args.self.now c.in-Some.page c.pop.new.self.pages c.requires.bottom older k

pub returns-clause-holds_some : goal.returns-clause-holds_some
returns-clause-holds_some c = λ start h k.
    let older = ap (λ (x : Stack). x.older) (sym c.self.view_is) ∙ c.in-Some.ensures.pages in
    front_some start h c.args.self.now c.in-Some.page c.pop.new.self.pages c.requires.bottom older k

pub returns-clause-stays : goal.returns-clause-stays
returns-clause-stays c = has_events_stays c.args.self.now _ [] (returns-clause-stack c)

pub returns-clause-page : goal.returns-clause-page
unfolding IsReachedStack
returns-clause-page c = λ stands. let (start, h, k) = stands in (returns-clause-written c start h k).page_reads

pub returns-clause-size : goal.returns-clause-size
unfolding IsReachedStack
returns-clause-size c = λ stands. let (start, h, k) = stands in (returns-clause-written c start h k).size_is
