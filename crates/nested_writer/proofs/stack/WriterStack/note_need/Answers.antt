use Rattle.std.proofs.Common.{◌≡◌, ℕ, Some, sym, ap, ◌∙◌, arith}
use Rattle.nested_writer.specs.declared.frame.Progress.TheVariants.{Waiting}
use Rattle.nested_writer.specs.declared.frame.Frame.{Frame}
use Rattle.nested_writer.specs.Stack.{Stack, tail_fill, opened}
use Rattle.nested_writer.specs.TopFrame.{TopFrame, frame_in}
use Rattle.nested_writer.specs.Inside.{stack_of, frames_from, top_frame}
use Rattle.nested_writer.proofs.Tops.{top_is as top_is'}
use Rattle.nested_writer.proofs.Allotting.{crowded_after, worn_after, noted_after}
use Rattle.nested_writer.proofs.Keeping.{left_top}
use Rattle.nested_writer.proofs.Answering.{crowded_answer, worn_answer, page_answer}
use Rattle.nested_writer.proofs.stack.WriterStack.note_need.Goals as goal

pub returns-then-len-self-clause-after : goal.returns-then-len-self-clause-after
returns-then-len-self-clause-after c =
    let (below, top_is) = c.requires.top in
    crowded_after c.args.self.now c.leave.new.self c.args.top below top_is c.requires.wants
    (c.leave.ensures.after c.args.top below top_is)

pub returns-then-opened-self-ge-LINK_FILLS-clause-after : goal.returns-then-opened-self-ge-LINK_FILLS-clause-after
returns-then-opened-self-ge-LINK_FILLS-clause-after c =
    let (below, top_is) = c.requires.top in
    worn_after c.args.self.now c.leave-then-opened-self-ge-LINK_FILLS.new.self c.args.top below top_is c.requires.wants
    (c.leave-then-opened-self-ge-LINK_FILLS.ensures.after c.args.top below top_is)

pub returns-clause-after : goal.returns-clause-after
returns-clause-after c =
    let (below, top_is) = c.requires.top in
    let s : Stack = stack_of c.self.inside in
    let found =
    top_is' (top_frame c.self.inside) c.self.inside.below.items c.args.top below c.self.invariant.top_first
    (ap (λ (x : Stack). x.frames) c.self.view_is ∙ top_is) in
    let begun : c.opened-opened.result ≡ opened s = c.opened-opened.ensures.begun ∙ ap opened (sym c.self.view_is) in
    let noted : frame_in c.note.new.self (tail_fill s)
    ≡ Some (record c.args.top { progress = Waiting (Some (opened s)) }) =
    ap (λ (t : TopFrame). frame_in t (tail_fill s)) (c.note.ensures c.args.top (tail_fill s) found.0)
    ∙ ap (λ (n : ℕ). let f : Frame = record c.args.top { progress = Waiting (Some n) } in Some f) begun in
    noted_after c.args.self.now _ c.args.top below top_is c.requires.wants
    (rw (← c.self.view_is) (λ i. record s { frames = frames_from (noted i) (found.1 i) }))

pub returns-then-len-self-clause-answered : goal.returns-then-len-self-clause-answered
returns-then-len-self-clause-answered c = λ start history k.
    let (below, top_is) = c.requires.top in
    let begun = ap opened c.self.view_is in
    let closed = ap (λ (x : Stack). x.done) c.self.view_is in
    let pages = ap (λ (x : Stack). x.pages) c.self.view_is in
    crowded_answer start history c.args.self.now k c.args.top below top_is c.requires.wants
    (omega (arith, c.len.ensures, c.if-len-self.true, begun, closed, pages))

pub returns-then-opened-self-ge-LINK_FILLS-clause-answered : goal.returns-then-opened-self-ge-LINK_FILLS-clause-answered
returns-then-opened-self-ge-LINK_FILLS-clause-answered c = λ start history k.
    let (below, top_is) = c.requires.top in
    let begun = ap opened c.self.view_is in
    let closed = ap (λ (x : Stack). x.done) c.self.view_is in
    let pages = ap (λ (x : Stack). x.pages) c.self.view_is in
    worn_answer start history c.args.self.now k c.args.top below top_is c.requires.wants
    (λ full. omega (arith, full, c.len.ensures, c.if-len-self.false, begun, closed, pages))
    (omega (arith, c.opened-opened.ensures.begun, c.if-opened-self-ge-LINK_FILLS.true, pages))

pub returns-clause-answered : goal.returns-clause-answered
returns-clause-answered c = λ start history k.
    let (below, top_is) = c.requires.top in
    let begun = ap opened c.self.view_is in
    let closed = ap (λ (x : Stack). x.done) c.self.view_is in
    let pages = ap (λ (x : Stack). x.pages) c.self.view_is in
    page_answer start history c.args.self.now k c.args.top below top_is c.requires.wants
    (λ full. omega (arith, full, c.len.ensures, c.if-len-self.false, begun, closed, pages))
    (omega (arith, c.opened-opened.ensures.begun, c.if-opened-self-ge-LINK_FILLS.false, pages))

pub returns-then-len-self-clause-refused : goal.returns-then-len-self-clause-refused
returns-then-len-self-clause-refused c =
    let (below, top_is) = c.requires.top in
    left_top c.args.self.now c.leave.new.self c.args.top below top_is (c.leave.ensures.after c.args.top below top_is)

pub returns-then-opened-self-ge-LINK_FILLS-clause-refused : goal.returns-then-opened-self-ge-LINK_FILLS-clause-refused
returns-then-opened-self-ge-LINK_FILLS-clause-refused c =
    let (below, top_is) = c.requires.top in
    left_top c.args.self.now c.leave-then-opened-self-ge-LINK_FILLS.new.self c.args.top below top_is
    (c.leave-then-opened-self-ge-LINK_FILLS.ensures.after c.args.top below top_is)
