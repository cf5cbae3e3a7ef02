-- What a step changes of what is seen of a ring: the keys whose values are new. docs/formats/program.md, "Step text".
use Rattle.std.specs.Prelude.{ℕ, suc, Bool, true, false, if◌then◌else◌, ◌&&◌, ◌==◌, nat_lt, List, [], ◌∷◌, ◌++◌, length}
use Rattle.trace_model.specs.Links.{Link, same_link}
use Rattle.trace_model.specs.Frames.{Progress, waiting, left, reserved, Role, owner, helper, Phase, idle, looking}
use Rattle.trace_model.specs.Frames.{claiming, looking_next, marking, clearing, opening, releasing, wishing, Frame}
use Rattle.trace_model.specs.Ring.{ReaderPhase, loading_head, loading_done, storing_spare_link, swapping}
use Rattle.step_model.specs.Seen.{ReaderSeen, CountsSeen, RingSeen, CountKey, spare_key, done_key, opened_key, wish_key}
use Rattle.step_model.specs.Seen.{head_key, committed_key, Change, link_is, spare_link_is, page_is, count_is, frame_is}
use Rattle.step_model.specs.Seen.{frame_gone, phase_is, reader_is}

-- ---- whether two are the same

abbrev pub same_role : Role → Role → Bool
same_role owner owner = true
same_role helper helper = true
same_role _ _ = false

abbrev pub same_state : Progress → Progress → Bool
same_state waiting waiting = true
same_state left left = true
same_state (reserved number) (reserved other) = number == other
same_state _ _ = false

abbrev pub same_phase : Phase → Phase → Bool
same_phase idle idle = true
same_phase (looking noted) (looking o) = noted == o
same_phase (claiming noted page) (claiming o p) = noted == o && page == p
same_phase (looking_next role noted page) (looking_next r o p) = same_role role r && noted == o && page == p
same_phase (marking role noted page next) (marking r o p x) = same_role role r && noted == o && page == p && next == x
same_phase (clearing noted page) (clearing o p) = noted == o && page == p
same_phase (opening noted page) (opening o p) = noted == o && page == p
same_phase releasing releasing = true
same_phase wishing wishing = true
same_phase _ _ = false

abbrev pub same_reader_phase : ReaderPhase → ReaderPhase → Bool
same_reader_phase loading_head loading_head = true
same_reader_phase (loading_done page fill) (loading_done p f) = page == p && fill == f
same_reader_phase (storing_spare_link page fill) (storing_spare_link p f) = page == p && fill == f
same_reader_phase (swapping page fill) (swapping p f) = page == p && fill == f
same_reader_phase _ _ = false

abbrev pub same_reader : ReaderSeen → ReaderSeen → Bool
same_reader a b =
    same_reader_phase a.phase b.phase && a.hint == b.hint && a.seen == b.seen && a.expected == b.expected

-- ---- what differs

-- this change, unless nothing is new
abbrev pub unless_same : Bool → Change → List Change
unless_same true change = []
unless_same false change = change ∷ []

-- the links that are new, the first of which is into this position
abbrev pub link_changes : (position : ℕ) → List Link → List Link → List Change
link_changes position [] news = []
link_changes position (old ∷ olds) [] = []
link_changes position (old ∷ olds) (new ∷ news) =
    unless_same (same_link old new) (link_is position new) ++ link_changes (suc position) olds news

-- so for pages
abbrev pub page_changes : (position : ℕ) → List ℕ → List ℕ → List Change
page_changes position [] news = []
page_changes position (old ∷ olds) [] = []
page_changes position (old ∷ olds) (new ∷ news) =
    unless_same (old == new) (page_is position new) ++ page_changes (suc position) olds news

abbrev pub count_change : CountKey → ℕ → ℕ → List Change
count_change key old new = unless_same (old == new) (count_is key new)

abbrev pub count_changes : CountsSeen → CountsSeen → List Change
count_changes old new =
    count_change spare_key old.spare new.spare
    ++ count_change done_key old.done new.done
    ++ count_change opened_key old.opened new.opened
    ++ count_change wish_key old.wish new.wish
    ++ count_change head_key old.head new.head
    ++ count_change committed_key old.committed new.committed

-- the frame on top of these is in a new state or phase
abbrev pub top_changes : List Frame → List Frame → List Change
top_changes [] news = []
top_changes (old ∷ olds) [] = []
top_changes (old ∷ olds) (new ∷ news) =
    unless_same (same_state old.state new.state && same_phase old.phase new.phase)
    (phase_is (suc (length news)) new.state new.phase)

-- a frame is pushed
abbrev pub pushed_changes : List Frame → List Change
pushed_changes [] = []
pushed_changes (new ∷ news) =
    frame_is (suc (length news)) new.kind ∷ phase_is (suc (length news)) new.state new.phase ∷ []

-- A frame is pushed, or is gone, or the one on top goes on: a step changes no frame below it.
abbrev pub frame_changes : List Frame → List Frame → List Change
frame_changes olds news =
    if nat_lt (length olds) (length news) then pushed_changes news
    else (if nat_lt (length news) (length olds) then frame_gone (length olds) ∷ []
    else top_changes olds news)

-- the keys whose values are new after a step, with these values
abbrev pub changes : RingSeen → RingSeen → List Change
changes old new =
    link_changes 0 old.links new.links
    ++ unless_same (same_link old.spare_link new.spare_link) (spare_link_is new.spare_link)
    ++ page_changes 0 old.order new.order
    ++ count_changes old.counts new.counts
    ++ frame_changes old.frames new.frames
    ++ unless_same (same_reader old.reader new.reader) (reader_is new.reader)

-- ---- a ring without frames, by all its keys

abbrev pub all_links : (position : ℕ) → List Link → List Change
all_links position [] = []
all_links position (link ∷ links) = link_is position link ∷ all_links (suc position) links

abbrev pub all_pages : (position : ℕ) → List ℕ → List Change
all_pages position [] = []
all_pages position (page ∷ pages) = page_is position page ∷ all_pages (suc position) pages

abbrev pub all_counts : CountsSeen → List Change
all_counts counts =
    count_is spare_key counts.spare ∷ count_is done_key counts.done ∷ count_is opened_key counts.opened
    ∷ count_is wish_key counts.wish ∷ count_is head_key counts.head ∷ count_is committed_key counts.committed ∷ []

abbrev pub all_keys : RingSeen → List Change
all_keys v =
    all_links 0 v.links ++ spare_link_is v.spare_link ∷ all_pages 0 v.order ++ all_counts v.counts
    ++ reader_is v.reader ∷ []
