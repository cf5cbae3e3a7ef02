-- What one call makes, as events.
use Rattle.std.proofs.Common.{◌≡◌, ◌≢◌, ℕ, suc, ◌+◌, ◌-◌, ◌≤◌, ◌<◌, Bool, true, false, List, [], ◌∷◌, ◌++◌, length}
use Rattle.std.proofs.Common.{drop, Option, Some, None, refl, sym, ap, ◌∙◌, subst, inl, inr, arith}
use Rattle.std.specs.Prelude.{if◌then◌else◌, IsTrue}
use mathlib.Core.Logic.{dite}
use native.Mathlib.Decide.{ℕ_discrete}
use Rattle.trace_model.specs.History.{HistoryEvent, open_fill, reserve, leave, wished, Reservation, is_settled}
use Rattle.trace_model.specs.Packing.{tail_of, FitsBehind, next_reservation}
use Rattle.trace_model.specs.Window.{Window, RingEvent, acts, closes, takes, history_events_of, IsWindow}
use Rattle.trace_model.specs.Frames.{for_close, waiting, reserved, left, Phase, idle, Frame}
use Rattle.trace_model.specs.Ring.{Core}
use Rattle.trace_model.specs.Steps.{frames_after_leave, with_new_tail}
use Rattle.world_model.specs.Lanes.{payloads_left}
use Rattle.line_model.specs.Lines.{LineState, OpenFrame, frame_count, with_top_stepped, TopRun, state_after}
use Rattle.line_model.specs.Lines.{finishing_after, MayLeaveTop, MayGo, stays_on, goes}
use Rattle.line_model.specs.WriterCalls.{LineWriting, writer_of}
use Rattle.line_model.specs.CallEvents.{DoesntFit, CallMakes, goes_on, begins, has_reserved, leaves, leaves_fill}
use Rattle.line_model.specs.CallEvents.{closes_one, finds_wish, is_gone, AreOpenFrames, Agrees}

-- ---- frames and payloads

pub count_frames : (frames : List Frame) (payloads : List (List ℕ)) (xs : List OpenFrame) (finishing : Bool)
    → AreOpenFrames frames payloads xs finishing
    → length xs + (if finishing then 1 else 0) ≡ length frames
count_frames [] payloads xs finishing (p, o, l) = λ i. length (o i) + (if l i then 1 else 0)
count_frames (frame ∷ below) payloads xs finishing (inl last) =
    (λ i. length (last.open_none i) + (if last.finishing_is i then 1 else 0))
    ∙ ap (λ (fs : List Frame). suc (length fs)) (sym last.below_none)
count_frames (frame ∷ below) payloads xs finishing (inr (top, rest, others, is, more)) =
    ap (λ (ys : List OpenFrame). length ys + (if finishing then 1 else 0)) is.open_is
    ∙ (let e = count_frames below others rest finishing more in
    let it : suc (length rest) + (if finishing then 1 else 0) ≡ suc (length below) = omega arith in it)

pub count_payloads : (frames : List Frame) (payloads : List (List ℕ)) (xs : List OpenFrame) (finishing : Bool)
    → AreOpenFrames frames payloads xs finishing
    → length payloads ≡ length frames
count_payloads [] payloads xs finishing (p, o, l) = ap (λ (ps : List (List ℕ)). length ps) p
count_payloads (frame ∷ below) payloads xs finishing (inl last) = last.one
    ∙ ap (λ (fs : List Frame). suc (length fs)) (sym last.below_none)
count_payloads (frame ∷ below) payloads xs finishing (inr (top, rest, others, is, more)) =
    ap (λ (ps : List (List ℕ)). length ps) is.payloads_are ∙ ap suc (count_payloads below others rest finishing more)

kept_payloads : (frames : List Frame) (payloads : List (List ℕ))
    → length payloads ≡ length frames
    → payloads_left frames payloads ≡ payloads
kept_payloads frames payloads e =
    ap (λ (k : ℕ). drop k payloads) (let it : length payloads - length frames ≡ 0 = omega arith in it)

popped_payloads : (frames : List Frame) (payload : List ℕ) (others : List (List ℕ))
    → length others ≡ length frames
    → payloads_left frames (payload ∷ others) ≡ others
popped_payloads frames payload others e =
    ap (λ (k : ℕ). drop k (payload ∷ others)) (let it : suc (length others) - length frames ≡ 1 = omega arith in it)

gone_payloads : (payloads : List (List ℕ)) → length payloads ≡ 1 → payloads_left [] payloads ≡ []
gone_payloads [] e = absurd (omega arith)
gone_payloads (payload ∷ []) e = refl
gone_payloads (payload ∷ next ∷ others) e = absurd (omega arith)

-- a history event that is no leave changes nothing of a finishing frame
finishing_fill : (top : OpenFrame) (rest : List OpenFrame) (l : Bool) → finishing_after (top ∷ rest) l open_fill ≡ l
finishing_fill top [] l = refl
finishing_fill top (next ∷ rest) l = refl

finishing_reserve : (top : OpenFrame) (rest : List OpenFrame) (l : Bool) → finishing_after (top ∷ rest) l reserve ≡ l
finishing_reserve top [] l = refl
finishing_reserve top (next ∷ rest) l = refl

few_free : {xs : List HistoryEvent} {a : HistoryEvent} → xs ≡ a ∷ [] → length xs ≤ 1
few_free e = let long = ap (λ (l : List HistoryEvent). length l) e in omega arith

-- if its record fits, these history events begin with its reservation
abbrev pub FirstIs : ℕ → Core → Frame → List HistoryEvent → Type 0
FirstIs size c frame history_events = frame.state ≡ waiting → frame.phase ≡ idle → (r : Reservation)
    → next_reservation c.history ≡ Some r → FitsBehind size (tail_of c.history) r → (others : List HistoryEvent)
    × (history_events ≡ reserve ∷ others)

-- events from a state to one that agrees with the writer
pub record Does (n size depth : ℕ) (c : Core) (frame : Frame) (payloads : List (List ℕ)) (p : LineState)
    (t : LineWriting) : Type 0 where
  pub events : List RingEvent
  pub reached : LineState
  pub behind : LineState
  pub run : TopRun n size depth p events reached
  pub goes : MayGo reached behind
  pub agrees : Agrees n behind (payloads_left t.frames payloads) t
  pub first : FirstIs size c frame (history_events_of events)
  pub on : length t.frames ≡ suc depth → with_top_stepped behind.frames ≡ behind.frames
  pub few : frame.kind ≢ for_close → length (history_events_of events) ≤ 1

module _ (n size depth : ℕ) (c : Core) (frame : Frame) (below : List Frame) (deep : depth ≡ length below) (head : ℕ)
    (w : IsWindow n record { head = head; done = c.done; opened = c.opened }) where
  abbrev counts : ℕ → ℕ → ℕ → Window
  counts h d o = record { head = h; done = d; opened = o }

  abbrev line_state : List HistoryEvent → Window → List OpenFrame → Bool → LineState
  line_state history v xs l = record { history = history; window = v; frames = xs; finishing = l }

  abbrev To : List (List ℕ) → LineState → LineWriting → Type 0
  To payloads p t = Does n size depth c frame payloads p t

  -- ---- a fill is begun, after a take if no position is free

  record Free (h : ℕ) (d : List RingEvent → List RingEvent) (p : ℕ → LineState) : Type 0 where
    free : c.opened < h + n
    read : h ≤ c.done
    front : (events : List RingEvent) (reached : LineState)
        → TopRun n size depth (p h) events reached
        → TopRun n size depth (p head) (d events) reached
    same : (events : List RingEvent) → history_events_of (d events) ≡ history_events_of events

  free_now : (history : List HistoryEvent) (xs : List OpenFrame) (l : Bool)
      → c.opened < c.done + n
      → (h : ℕ) × (d : List RingEvent → List RingEvent)
      × Free h d (λ k. line_state history (counts k c.done c.opened) xs l)
  free_now history xs l room = dite (ℕ_discrete c.opened (head + n))
      (λ e. (
        head + 1,
        (λ events. takes ∷ events),
        record {
          free = omega arith;
          read = let b = w.head_le in omega arith;
          front = λ events reached run. ((let it : head < c.done = omega arith in it), run);
          same = λ events. refl;
        },
      ))
      (λ ne. (
        head,
        (λ events. events),
        record {
          free = let b = w.opened_le in omega arith;
          read = w.head_le;
          front = λ events reached run. run;
          same = λ events. refl;
        },
      ))

  -- ---- the bottom frame, which is finishing

  module _ (payloads : List (List ℕ)) (gone : frame.state ≡ left) (alone : below ≡ []) (one : length payloads ≡ 1) where
    last_open : (phase : Phase)
        → AreOpenFrames (record frame { phase = phase } ∷ below)
        (payloads_left (record frame { phase = phase } ∷ below) payloads) [] true
    last_open phase = inl record {
      has_left = gone;
      below_none = alone;
      open_none = refl;
      finishing_is = refl;
      one = ap (λ (ps : List (List ℕ)). length ps)
          (kept_payloads (record frame { phase = phase } ∷ below) payloads
          (let e = ap (λ (fs : List Frame). length fs) alone in omega arith)) ∙ one;
    }

    lone_counts : (history : List HistoryEvent) (v : Window) → frame_count (line_state history v [] true) ≡ suc depth
    lone_counts history v = let e = ap (λ (fs : List Frame). length fs) alone in let it : 1 ≡ suc depth = omega arith in
        it

    first_not : (history_events : List HistoryEvent) → FirstIs size c frame history_events
    first_not history_events waits at r is fits = absurd (let both : left ≡ waiting = sym gone ∙ waits in cc)

    pub last_makes : (after : Core)
        → IsTrue (is_settled c.history)
        → CallMakes n size c frame below after
        → (c.opened < after.opened → c.opened < c.done + n)
        → To payloads (line_state c.history (counts head c.done c.opened) [] true) (writer_of after)
    last_makes after settled (goes_on phase held fit e) room =
        subst (To payloads (line_state c.history (counts head c.done c.opened) [] true)) (sym e) record {
          events = [];
          reached = line_state c.history (counts head c.done c.opened) [] true;
          behind = line_state c.history (counts head c.done c.opened) [] true;
          run = refl;
          goes = stays_on refl;
          agrees = record { history = refl; done = refl; opened = refl; window = w; frames = last_open phase };
          first = first_not [];
          on = λ e. refl;
          few = λ is_record. omega arith;
        }
    last_makes after settled (begins phase held fit e) room =
        let grown : c.opened < after.opened = let o = ap (λ (s : LineWriting). s.opened) e in omega arith in
        let (h, d, f) = free_now c.history [] true (room grown) in
        subst (To payloads (line_state c.history (counts head c.done c.opened) [] true)) (sym e) record {
          events = d (acts open_fill ∷ []);
          reached = line_state (c.history ++ open_fill ∷ []) (counts h c.done (c.opened + 1)) [] true;
          behind = line_state (c.history ++ open_fill ∷ []) (counts h c.done (c.opened + 1)) [] true;
          run = f.front (acts open_fill ∷ []) _ (lone_counts c.history (counts h c.done c.opened), tt, f.free, refl);
          goes = stays_on refl;
          agrees = record {
            history = refl;
            done = refl;
            opened = refl;
            window = record {
              head_le = f.read;
              done_lt = let b = w.done_lt in
                  omega arith;
              opened_le = let b = f.free in omega arith;
            };
            frames = last_open phase;
          };
          first = first_not (history_events_of (d (acts open_fill ∷ [])));
          on = λ e. refl;
          few = λ is_record. few_free (f.same (acts open_fill ∷ []));
        }
    last_makes after settled (has_reserved number waits e) room =
        absurd (let both : left ≡ waiting = sym gone ∙ waits in cc)
    last_makes after settled (leaves waits why fit e) room = absurd (let both : left ≡ waiting = sym gone ∙ waits in cc)
    last_makes after settled (leaves_fill page closes_page waits none fit e) room =
        absurd (let both : left ≡ waiting = sym gone ∙ waits in cc)
    last_makes after settled (closes_one phase has under more e) room =
        subst (To payloads (line_state c.history (counts head c.done c.opened) [] true)) (sym e) record {
          events = closes ∷ [];
          reached = line_state c.history (counts head (c.done + 1) c.opened) [] true;
          behind = line_state c.history (counts head (c.done + 1) c.opened) [] true;
          run = ((more, settled), refl);
          goes = stays_on refl;
          agrees = record {
            history = refl;
            done = refl;
            opened = refl;
            window = record {
              head_le = let b = w.head_le in
                  omega arith;
              done_lt = omega arith;
              opened_le = w.opened_le;
            };
            frames = last_open phase;
          };
          first = first_not [];
          on = λ e. refl;
          few = λ is_record. omega arith;
        }
    last_makes after settled (finds_wish phase has under e) room =
        subst (To payloads (line_state c.history (counts head c.done c.opened) [] true)) (sym e) record {
          events = acts wished ∷ [];
          reached = line_state (c.history ++ wished ∷ []) (counts head c.done c.opened) [] true;
          behind = line_state (c.history ++ wished ∷ []) (counts head c.done c.opened) [] true;
          run = (lone_counts c.history (counts head c.done c.opened), refl, tt, refl);
          goes = stays_on refl;
          agrees = record { history = refl; done = refl; opened = refl; window = w; frames = last_open phase };
          first = first_not (wished ∷ []);
          on = λ e. refl;
          few = λ is_record. omega arith;
        }
    last_makes after settled (is_gone has under last e) room =
        subst (To payloads (line_state c.history (counts head c.done c.opened) [] true)) (sym e) record {
          events = [];
          reached = line_state c.history (counts head c.done c.opened) [] true;
          behind = line_state c.history (counts head c.done c.opened) [] false;
          run = refl;
          goes = goes refl refl last refl;
          agrees = record {
            history = refl;
            done = refl;
            opened = refl;
            window = w;
            frames = (gone_payloads payloads one, refl, refl);
          };
          first = first_not [];
          on = λ e. refl;
          few = λ is_record. omega arith;
        }

  -- ---- a frame that hasn't left yet

  module _ (top : OpenFrame) (rest : List OpenFrame) (others : List (List ℕ)) (l : Bool) (held : frame.state ≢ left)
      (more : AreOpenFrames below others rest l) where
    abbrev payloads : List (List ℕ)
    payloads = top.payload ∷ others

    many : (f : Frame) → length payloads ≡ length (f ∷ below)
    many f = ap suc (count_payloads below others rest l more)

    top_counts : (history : List HistoryEvent) (v : Window)
        → frame_count (line_state history v (record { payload = top.payload; stepped = true } ∷ rest) l) ≡ suc depth
    top_counts history v = let e = count_frames below others rest l more in
        let it : suc (length rest) + (if l then 1 else 0) ≡ suc depth = omega arith in it

    -- it is still on the stack, without its leave
    top_open : (f : Frame)
        → f.state ≢ left
        → AreOpenFrames (f ∷ below) (payloads_left (f ∷ below) (top.payload ∷ others))
        (record { payload = top.payload; stepped = true } ∷ rest) l
    top_open f on =
        inr (
          record { payload = top.payload; stepped = true },
          rest,
          others,
          record {
            not_left = on;
            open_is = refl;
            payloads_are = kept_payloads (f ∷ below) (top.payload ∷ others) (many f);
            fresh = λ e. absurd (let both : true ≡ false = e in cc);
          },
          more,
        )

    fill_state : (history : List HistoryEvent) (h : ℕ)
        → state_after
        (line_state history (counts h c.done c.opened) (record { payload = top.payload; stepped = true } ∷ rest) l)
        open_fill ≡ line_state (history ++ open_fill ∷ []) (counts h c.done (c.opened + 1))
        (record { payload = top.payload; stepped = true } ∷ rest) l
    fill_state history h =
        ap (λ (b : Bool). line_state (history ++ open_fill ∷ []) (counts h c.done (c.opened + 1))
        (record { payload = top.payload; stepped = true } ∷ rest) b)
        (finishing_fill (record { payload = top.payload; stepped = true }) rest l)

    reserve_state : state_after
        (line_state c.history (counts head c.done c.opened) (record { payload = top.payload; stepped = true } ∷ rest) l)
        reserve ≡ line_state (c.history ++ reserve ∷ []) (counts head c.done c.opened)
        (record { payload = top.payload; stepped = true } ∷ rest) l
    reserve_state =
        ap (λ (b : Bool). line_state (c.history ++ reserve ∷ []) (counts head c.done c.opened)
        (record { payload = top.payload; stepped = true } ∷ rest) b)
        (finishing_reserve (record { payload = top.payload; stepped = true }) rest l)

    -- after its leave
    below_open : (d : Core) (payload : Option (List ℕ)) (under : List Frame)
        → below ≡ under
        → AreOpenFrames under others rest l
        → AreOpenFrames (frames_after_leave d frame under)
        (payloads_left (frames_after_leave d frame under) (top.payload ∷ others)) rest
        (finishing_after (record { payload = top.payload; stepped = true } ∷ rest) l (leave payload))
    below_open d payload [] none (p, o, lin) = inl record {
      has_left = refl;
      below_none = refl;
      open_none = o;
      finishing_is =
          ap (λ (ys : List OpenFrame). finishing_after (record { payload = top.payload; stepped = true } ∷ ys) l
          (leave payload)) o;
      one = ap (λ (ps : List (List ℕ)). length (payloads_left (frames_after_leave d frame []) (top.payload ∷ ps))) p;
    }
    below_open d payload (next ∷ under) some st =
        subst (λ (ps : List (List ℕ)). AreOpenFrames (next ∷ under) ps rest
        (finishing_after (record { payload = top.payload; stepped = true } ∷ rest) l (leave payload)))
        (sym (popped_payloads (next ∷ under) top.payload others (count_payloads (next ∷ under) others rest l st)))
        (subst (λ (b : Bool). AreOpenFrames (next ∷ under) others rest b) (sym (below_finishing rest st)) st)
      where
        below_finishing : (ys : List OpenFrame)
            → AreOpenFrames (next ∷ under) others ys l
            → finishing_after (record { payload = top.payload; stepped = true } ∷ ys) l (leave payload) ≡ l
        below_finishing [] (inl last) = sym last.finishing_is
        below_finishing [] (inr (t, r, os, is, deeper)) =
            absurd (let z = ap (λ (xs : List OpenFrame). length xs) is.open_is in omega arith)
        below_finishing (y ∷ ys) st = refl

    -- it leaves, after this history, with this window
    leave_run : (history : List HistoryEvent) (v : Window) (payload : Option (List ℕ))
        → MayLeaveTop n size (line_state history v (record { payload = top.payload; stepped = true } ∷ rest) l) payload
        (record { payload = top.payload; stepped = true } ∷ rest)
        → TopRun n size depth (line_state history v (record { payload = top.payload; stepped = true } ∷ rest) l)
        (acts (leave payload) ∷ [])
        (line_state (history ++ leave payload ∷ []) v rest
        (finishing_after (record { payload = top.payload; stepped = true } ∷ rest) l (leave payload)))
    leave_run history v payload may = (top_counts history v, may, tt, refl)

    abbrev from : LineState
    from = line_state c.history (counts head c.done c.opened)
        (record { payload = top.payload; stepped = true } ∷ rest) l

    unfit : DoesntFit size c frame → (history_events : List HistoryEvent) → FirstIs size c frame history_events
    unfit fit history_events waits at r is fits = absurd (fit waits at r is fits)

    -- after its leave it is on the stack only as the bottom one
    rest_stepped : (d : Core) (under : List Frame)
        → below ≡ under
        → (ys : List OpenFrame)
        → AreOpenFrames under others ys l
        → length (frames_after_leave d frame under) ≡ suc depth
        → with_top_stepped ys ≡ ys
    rest_stepped d [] none ys (p, o, lin) e = ap with_top_stepped o ∙ sym o
    rest_stepped d (next ∷ under) some ys st e =
        absurd (let z = ap (λ (fs : List Frame). length fs) some in omega arith)

    pub top_leaves : (payload : Option (List ℕ))
        → MayLeaveTop n size from payload (record { payload = top.payload; stepped = true } ∷ rest)
        → FirstIs size c frame (leave payload ∷ [])
        → To (top.payload ∷ others) from
        (record (writer_of c) { frames = frames_after_leave c frame below; history = c.history ++ leave payload ∷ [] })
    top_leaves payload may first_is = record {
      events = acts (leave payload) ∷ [];
      reached =
          line_state (c.history ++ leave payload ∷ []) (counts head c.done c.opened) rest
          (finishing_after (record { payload = top.payload; stepped = true } ∷ rest) l (leave payload));
      behind = line_state (c.history ++ leave payload ∷ []) (counts head c.done c.opened) rest
          (finishing_after (record { payload = top.payload; stepped = true } ∷ rest) l (leave payload));
      run = leave_run c.history (counts head c.done c.opened) payload may;
      goes = stays_on refl;
      agrees = record {
        history = refl;
        done = refl;
        opened = refl;
        window = w;
        frames = below_open c payload below refl more;
      };
      first = first_is;
      on = rest_stepped c below refl rest more;
      few = λ is_record. omega arith;
    }

    pub top_makes : (after : Core)
        → CallMakes n size c frame below after
        → (c.opened < after.opened → c.opened < c.done + n)
        → To (top.payload ∷ others) from (writer_of after)
    top_makes after (goes_on phase st fit e) room = subst (To (top.payload ∷ others) from) (sym e) record {
      events = [];
      reached = from;
      behind = from;
      run = refl;
      goes = stays_on refl;
      agrees = record {
        history = refl;
        done = refl;
        opened = refl;
        window = w;
        frames = top_open (record frame { phase = phase }) held;
      };
      first = unfit fit [];
      on = λ e. refl;
      few = λ is_record. omega arith;
    }
    top_makes after (begins phase st fit e) room =
        let grown : c.opened < after.opened = let o = ap (λ (s : LineWriting). s.opened) e in omega arith in
        let (h, d, f) = free_now c.history (record { payload = top.payload; stepped = true } ∷ rest) l (room grown) in
        subst (To (top.payload ∷ others) from) (sym e) record {
          events = d (acts open_fill ∷ []);
          reached =
              line_state (c.history ++ open_fill ∷ []) (counts h c.done (c.opened + 1))
              (record { payload = top.payload; stepped = true } ∷ rest) l;
          behind = line_state (c.history ++ open_fill ∷ []) (counts h c.done (c.opened + 1))
              (record { payload = top.payload; stepped = true } ∷ rest) l;
          run = f.front (acts open_fill ∷ []) _
              (top_counts c.history (counts h c.done c.opened), tt, f.free, fill_state c.history h);
          goes = stays_on refl;
          agrees = record {
            history = refl;
            done = refl;
            opened = refl;
            window = record {
              head_le = f.read;
              done_lt = let b = w.done_lt in
                  omega arith;
              opened_le = let b = f.free in omega arith;
            };
            frames = top_open (record frame { phase = phase }) held;
          };
          first = unfit fit (history_events_of (d (acts open_fill ∷ [])));
          on = λ e. refl;
          few = λ is_record. few_free (f.same (acts open_fill ∷ []));
        }
    top_makes after (has_reserved number waits e) room = subst (To (top.payload ∷ others) from) (sym e) record {
      events = acts reserve ∷ [];
      reached =
          line_state (c.history ++ reserve ∷ []) (counts head c.done c.opened)
          (record { payload = top.payload; stepped = true } ∷ rest) l;
      behind = line_state (c.history ++ reserve ∷ []) (counts head c.done c.opened)
          (record { payload = top.payload; stepped = true } ∷ rest) l;
      run = (
        top_counts c.history (counts head c.done c.opened),
        (λ none. let z = ap (λ (xs : List OpenFrame). length xs) none in omega arith),
        tt,
        reserve_state,
      );
      goes = stays_on refl;
      agrees = record {
        history = refl;
        done = refl;
        opened = refl;
        window = w;
        frames = top_open (record frame { state = reserved number; phase = idle }) (λ z. cc);
      };
      first = λ waits2 at r is fits. ([], refl);
      on = λ e. refl;
      few = λ is_record. omega arith;
    }
    top_makes after (leaves waits why fit e) room =
        subst (To (top.payload ∷ others) from) (sym e) (top_leaves None why (unfit fit (leave None ∷ [])))
    top_makes after (leaves_fill page closes_page waits none fit e) room =
        let grown : c.opened < after.opened = let o = ap (λ (s : LineWriting). s.opened) e in omega arith in
        let (h, d, f) = free_now c.history (record { payload = top.payload; stepped = true } ∷ rest) l (room grown) in
        subst (To (top.payload ∷ others) from) (sym e) record {
          events = d (acts open_fill ∷ acts (leave None) ∷ []);
          reached =
              line_state ((c.history ++ open_fill ∷ []) ++ leave None ∷ []) (counts h c.done (c.opened + 1)) rest
              (finishing_after (record { payload = top.payload; stepped = true } ∷ rest) l (leave None));
          behind = line_state ((c.history ++ open_fill ∷ []) ++ leave None ∷ []) (counts h c.done (c.opened + 1)) rest
              (finishing_after (record { payload = top.payload; stepped = true } ∷ rest) l (leave None));
          run = f.front (acts open_fill ∷ acts (leave None) ∷ []) _ (
            top_counts c.history (counts h c.done c.opened),
            tt,
            f.free,
            subst (λ (p : LineState). TopRun n size depth p (acts (leave None) ∷ [])
                (line_state ((c.history ++ open_fill ∷ []) ++ leave None ∷ []) (counts h c.done (c.opened + 1)) rest
                (finishing_after (record { payload = top.payload; stepped = true } ∷ rest) l (leave None))))
                (sym (fill_state c.history h))
                (leave_run (c.history ++ open_fill ∷ []) (counts h c.done (c.opened + 1)) None
                (λ r is. absurd (let both : None ≡ Some r = sym none ∙ is in cc))),
          );
          goes = stays_on refl;
          agrees = record {
            history = refl;
            done = refl;
            opened = refl;
            window = record {
              head_le = f.read;
              done_lt = let b = w.done_lt in
                  omega arith;
              opened_le = let b = f.free in omega arith;
            };
            frames = below_open (with_new_tail c page) None below refl more;
          };
          first = unfit fit (history_events_of (d (acts open_fill ∷ acts (leave None) ∷ [])));
          on = rest_stepped (with_new_tail c page) below refl rest more;
          few = λ is_record. absurd (is_record closes_page);
        }
    top_makes after (closes_one phase has under few e) room = absurd (held has)
    top_makes after (finds_wish phase has under e) room = absurd (held has)
    top_makes after (is_gone has under last e) room = absurd (held has)
