-- The frame on top, as the fields have it.
use Rattle.std.proofs.Common.{◌≡◌, ◌≢◌, ℕ, List, [], ◌∷◌, Option, Some, None, refl, ap, ◌∙◌, sym, subst}
use Rattle.std.proofs.lemmas.Option.{same_Some}
use Rattle.record_words.specs.declared.put.Place.{Place}
use Rattle.nested_writer.specs.declared.frame.Purpose.{Purpose}
use Rattle.nested_writer.specs.declared.frame.Purpose.TheVariants.{Record}
use Rattle.nested_writer.specs.declared.frame.Pushed.{Pushed}
use Rattle.nested_writer.specs.declared.frame.Slot.{Slot}
use Rattle.nested_writer.specs.declared.frame.Progress.TheVariants.{Waiting}
use Rattle.nested_writer.specs.declared.frame.Frame.{Frame}
use Rattle.nested_writer.specs.declared.stack.top.Tag.{Tag}
use Rattle.nested_writer.specs.declared.stack.top.Tag.TheVariants.{Empty, Waits, Tries, Holds, HoldsOlder}
use Rattle.nested_writer.specs.declared.stack.top.Tag.TheVariants.{HoldsClose, Stays, Other}
use Rattle.nested_writer.specs.TopFrame.{TopFrame, whole, in_tail, frame_in}
use Rattle.nested_writer.specs.OnTop.{frame_by_tag}
use Rattle.nested_writer.specs.declared.stack.WriterStack.TheInside.{Inside}
use Rattle.nested_writer.specs.Stack.{Stack, tail_fill}
use Rattle.nested_writer.specs.Calls.{IsTopSlot, MayAddPage}
use Rattle.nested_writer.specs.Inside.{frames_from, stack_of}

pub first_is : (f g : Frame) (fs gs : List Frame) → ◌≡◌ {A = List Frame} (f ∷ fs) (g ∷ gs) → f ≡ g
first_is f g fs gs e = cc

pub rest_is : (f g : Frame) (fs gs : List Frame) → ◌≡◌ {A = List Frame} (f ∷ fs) (g ∷ gs) → fs ≡ gs
rest_is f g fs gs e = cc

pub top_is : (top : Option Frame) (items : List Frame) (f : Frame) (below : List Frame) → (top ≡ None → items ≡ [])
    → frames_from top items ≡ f ∷ below → (top ≡ Some f) × (items ≡ below)
top_is None items f below first e = absurd (let none = sym (first refl) ∙ e in cc)
top_is (Some g) items f below first e = (ap Some (first_is g f items below e), rest_is g f items below e)

-- the frame on top of the stack, by the fields
pub on_top : (w : Inside) (s : Stack) (fill : ℕ) (frame : Frame) → stack_of w ≡ s → fill ≡ tail_fill s
    → frame_in w.top fill ≡ Some frame → s.frames ≡ frame ∷ w.below.items
on_top w s fill frame view fill_is some =
    ap (λ (x : Stack). x.frames) (sym view)
    ∙ ap (λ (t : Option Frame). frames_from t w.below.items)
    (ap (frame_in w.top) (ap tail_fill view ∙ sym fill_is) ∙ some)

-- its slot, in the tail
pub in_tail_slot : (w : Inside) (moment len number : ℕ) (place : Place) → w.top ≡ in_tail moment len number place
    → IsTopSlot (stack_of w).frames record { number = number; fill = tail_fill (stack_of w); place = place }
in_tail_slot w moment len number place is =
    subst
    (λ (t : TopFrame).
    IsTopSlot (frames_from (frame_in t (tail_fill (stack_of w))) w.below.items)
    record { number = number; fill = tail_fill (stack_of w); place = place }) (sym is) refl

-- ---- whichever fill the tail is

frame_is : (f g : Frame) → whole (Some f) ≡ whole (Some g) → f ≡ g
frame_is f g e = same_Some f g (ap (λ (t : TopFrame). frame_in t 0) e)

pub same_record : (moment len moment' len' : ℕ) → ◌≡◌ {A = Purpose} (Record moment len) (Record moment' len')
    → (moment ≡ moment') × (len ≡ len')
same_record moment len moment' len' e = (cc, cc)

-- one for which a page may be added has no record
pub has_no_slot : (s : Stack) (top : TopFrame) (fill fill' : ℕ) (items : List Frame)
    → MayAddPage s (frames_from (frame_in top fill) items) → frame_in top fill ≡ frame_in top fill'
has_no_slot s (whole frame) fill fill' items may = refl
has_no_slot s (in_tail moment len number place) fill fill' items may = absurd may

-- one that tried nothing yet has no fill
pub is_whole : (top : TopFrame) (fill moment len : ℕ)
    → frame_in top fill ≡ Some record { purpose = Record moment len; progress = Waiting None }
    → top ≡ whole (Some record { purpose = Record moment len; progress = Waiting None })
is_whole (whole frame) fill moment len e = ap whole e
is_whole (in_tail moment' len' number place) fill moment len e =
    absurd (let progress = ap (λ (f : Frame). f.progress) (same_Some _ _ e) in cc)

-- one that tried nothing yet is determined by what it was pushed with
pub reported_by : (tag : Tag) (pushed : Pushed) (noted : Option ℕ) (slot : Slot) (other : Frame) (moment len : ℕ)
    → (tag ≡ Other → other ≢ record { purpose = Record moment len; progress = Waiting None })
    → frame_by_tag tag pushed noted slot other
    ≡ whole (Some record { purpose = Record moment len; progress = Waiting None })
    → ◌≡◌ {A = Purpose} (Record pushed.moment pushed.len) (Record moment len)
reported_by Empty pushed noted slot other moment len apart e =
    absurd (let no = ap (λ (t : TopFrame). frame_in t 0) e in cc)
reported_by Waits pushed noted slot other moment len apart e = ap (λ (f : Frame). f.purpose) (frame_is _ _ e)
reported_by Tries pushed noted slot other moment len apart e = ap (λ (f : Frame). f.purpose) (frame_is _ _ e)
reported_by Holds pushed noted slot other moment len apart e =
    let progress =
    ap (λ (f : Frame). f.progress) (same_Some _ _ (ap (λ (t : TopFrame). frame_in t 0) e)) in
    cc
reported_by HoldsOlder pushed noted slot other moment len apart e =
    let progress =
    ap (λ (f : Frame). f.progress) (frame_is _ _ e) in
    cc
reported_by HoldsClose pushed noted slot other moment len apart e =
    let progress =
    ap (λ (f : Frame). f.progress) (frame_is _ _ e) in
    cc
reported_by Stays pushed noted slot other moment len apart e =
    let progress =
    ap (λ (f : Frame). f.progress) (frame_is _ _ e) in
    cc
reported_by Other pushed noted slot other moment len apart e = absurd (apart refl (frame_is _ _ e))
