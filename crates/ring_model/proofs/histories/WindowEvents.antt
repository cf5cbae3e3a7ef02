-- What one step makes of a ring's window is one event.
use Rattle.std.proofs.Common.{◌≡◌, ℕ, List, [], ◌∷◌, ◌++◌, length, refl, sym, ap, ◌∙◌, arith, length-append}
use Rattle.trace_model.specs.History.{HistoryEvent, push, push_close, open_fill, reserve, leave, wished}
use Rattle.trace_model.specs.Window.{Window, RingEvent, closes, takes, loses, window_after, acts}
use Rattle.trace_model.specs.Ring.{TakenFill, Reader, Core, window_of}
use Rattle.ring_model.specs.WindowLaws.{MovesWindow}

-- a list isn't longer than itself
pushed : (xs ys : List TakenFill) (t : TakenFill) → ys ≡ xs ++ t ∷ [] → ys ≡ xs → ⊥
pushed xs ys t more same = let long = ap (length {A = TakenFill}) more in
    let short = ap (length {A = TakenFill}) same in
    omega (arith, length-append xs (t ∷ []))

heads : (w v x : Window) → x ≡ w → x ≡ v → w.head ≡ v.head
heads w v x a b = ap (λ (y : Window). y.head) (sym a ∙ b)

dones : (w v x : Window) → x ≡ w → x ≡ v → w.done ≡ v.done
dones w v x a b = ap (λ (y : Window). y.done) (sym a ∙ b)

module _ (n : ℕ) (c after : Core) where
  same_heads : (what other : RingEvent) → MovesWindow n c what after → MovesWindow n c other after
      → (window_after (window_of c) what).head ≡ (window_after (window_of c) other).head
  same_heads what other h g =
      heads (window_after (window_of c) what) (window_after (window_of c) other) (window_of after) h.step.after_is
      g.step.after_is

  same_dones : (what other : RingEvent) → MovesWindow n c what after → MovesWindow n c other after
      → (window_after (window_of c) what).done ≡ (window_after (window_of c) other).done
  same_dones what other h g =
      dones (window_after (window_of c) what) (window_after (window_of c) other) (window_of after) h.step.after_is
      g.step.after_is

  took_is_not_lost : MovesWindow n c takes after → MovesWindow n c loses after → ⊥
  took_is_not_lost h g = let (same, t, here, more) = h.shown in
      let (alike, reader) = g.shown in
      pushed c.reader.taken after.reader.taken t more (ap (λ (r : Reader). r.taken) reader)

  -- of the history events only the begin of a fill moves the window
  only_opens : (P : HistoryEvent → Type 0) (a : HistoryEvent) → MovesWindow n c (acts a) after → P open_fill → P a
  only_opens P (push moment len) h p = absurd h.shown
  only_opens P push_close h p = absurd h.shown
  only_opens P open_fill h p = p
  only_opens P reserve h p = absurd h.shown
  only_opens P (leave payload) h p = absurd h.shown
  only_opens P wished h p = absurd h.shown

  opens_alone : (other : RingEvent) → MovesWindow n c (acts open_fill) after → MovesWindow n c other after
      → acts open_fill ≡ other
  opens_alone (acts b) h g = only_opens (λ y. acts open_fill ≡ acts y) b g refl
  opens_alone closes h g = let e = same_dones (acts open_fill) closes h g in absurd (omega arith)
  opens_alone takes h g = let e = same_heads (acts open_fill) takes h g in absurd (omega arith)
  opens_alone loses h g = let e = same_heads (acts open_fill) loses h g in absurd (omega arith)

  -- an event that moves the window as a history event does is that one
  acts_alone : (a : HistoryEvent) (other : RingEvent) → MovesWindow n c (acts a) after → MovesWindow n c other after
      → acts a ≡ other
  acts_alone a other h g =
      only_opens (λ x. MovesWindow n c (acts x) after → acts x ≡ other) a h (λ begun. opens_alone other begun g) h

  pub one_window_event : (what other : RingEvent) → MovesWindow n c what after → MovesWindow n c other after
      → what ≡ other
  one_window_event (acts a) other h g = acts_alone a other h g
  one_window_event closes (acts a) h g = sym (acts_alone a closes g h)
  one_window_event closes closes h g = refl
  one_window_event closes takes h g = let e = same_heads closes takes h g in absurd (omega arith)
  one_window_event closes loses h g = let e = same_heads closes loses h g in absurd (omega arith)
  one_window_event takes (acts a) h g = sym (acts_alone a takes g h)
  one_window_event takes closes h g = let e = same_heads takes closes h g in absurd (omega arith)
  one_window_event takes takes h g = refl
  one_window_event takes loses h g = absurd (took_is_not_lost h g)
  one_window_event loses (acts a) h g = sym (acts_alone a loses g h)
  one_window_event loses closes h g = let e = same_heads loses closes h g in absurd (omega arith)
  one_window_event loses takes h g = absurd (took_is_not_lost g h)
  one_window_event loses loses h g = refl

  begun_moves : window_of after ≡ window_of c → MovesWindow n c (acts open_fill) after → ⊥
  begun_moves same h = let e = ap (λ (w : Window). w.opened) (sym h.step.after_is ∙ same) in omega arith

  pub nothing_happens : (what : RingEvent) → window_of after ≡ window_of c → MovesWindow n c what after → ⊥
  nothing_happens (acts a) same h = only_opens (λ x. MovesWindow n c (acts x) after → ⊥) a h (begun_moves same) h
  nothing_happens closes same h = let e = ap (λ (w : Window). w.done) (sym h.step.after_is ∙ same) in omega arith
  nothing_happens takes same h = let e = ap (λ (w : Window). w.head) (sym h.step.after_is ∙ same) in omega arith
  nothing_happens loses same h = let e = ap (λ (w : Window). w.head) (sym h.step.after_is ∙ same) in omega arith
