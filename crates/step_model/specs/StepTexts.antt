-- The text of one step of a ring: a line that says what was done and answered, and below it a line for each key whose
-- value is new. docs/formats/program.md, "Step text".
use Rattle.std.specs.Prelude.{ℕ, suc, ◌-◌, Bool, true, false, if◌then◌else◌, ◌==◌, List, [], ◌∷◌, ◌++◌, length}
use Rattle.std.specs.Prelude.{flat_map, codes, Option, Some, None}
use Rattle.std.specs.Fmt.{decimal}
use Rattle.trace_model.specs.History.{last_moment, reserved_records}
use Rattle.trace_model.specs.Links.{Mark, normal, header, update, Link, same_link}
use Rattle.trace_model.specs.Frames.{Purpose, for_record, for_close, Progress, waiting, left, reserved, Role, owner}
use Rattle.trace_model.specs.Frames.{helper, Phase, idle, looking, claiming, looking_next, marking, clearing, opening}
use Rattle.trace_model.specs.Frames.{releasing, wishing, noted_fill, Frame}
use Rattle.trace_model.specs.Ring.{ReaderPhase, loading_head, loading_done, storing_spare_link, swapping, Core, page_at}
use Rattle.trace_model.specs.Steps.{Event, pushes, pushes_close, steps, ends, reads, wishes, Answer, pushed, going}
use Rattle.trace_model.specs.Steps.{reserved_as, pending, full, gone, refused, reading, empty, moving, page_taken}
use Rattle.trace_model.specs.Steps.{wished_for}
use Rattle.text_model.specs.Text.{hex_text, line_feed, space}
use Rattle.text_model.specs.Printing.{refusal_text, line_text}
use Rattle.step_model.specs.Seen.{ReaderSeen, ring_seen, CountKey, spare_key, done_key, opened_key, wish_key, head_key}
use Rattle.step_model.specs.Seen.{committed_key, Change, link_is, spare_link_is, page_is, count_is, frame_is}
use Rattle.step_model.specs.Seen.{frame_gone, phase_is, reader_is}
use Rattle.step_model.specs.Changes.{changes}

-- ---- a key and its value

-- the line of a key with this value
abbrev pub key_line : (key value : List ℕ) → List ℕ
key_line key value = codes "  " ++ key ++ space ∷ value ++ line_feed ∷ []

-- a number after a space
abbrev pub spaced : ℕ → List ℕ
spaced number = space ∷ decimal number

-- a number after a space, or `-` where there is none
abbrev pub spaced_or_none : Option ℕ → List ℕ
spaced_or_none None = codes " -"
spaced_or_none (Some number) = spaced number

abbrev pub mark_text : Mark → List ℕ
mark_text normal = codes "normal"
mark_text header = codes "header"
mark_text update = codes "update"

abbrev pub link_text : Link → List ℕ
link_text link = mark_text link.mark ++ spaced link.page ++ spaced link.fill

abbrev pub count_text : CountKey → List ℕ
count_text spare_key = codes "spare"
count_text done_key = codes "done"
count_text opened_key = codes "opened"
count_text wish_key = codes "wish"
count_text head_key = codes "head"
count_text committed_key = codes "committed"

-- a record frame by the moment and the length that it was pushed with
abbrev pub kind_text : Purpose → List ℕ
kind_text (for_record moment len) = codes "record" ++ spaced moment ++ spaced len
kind_text for_close = codes "close"

abbrev pub phase_name : Phase → List ℕ
phase_name idle = codes "idle"
phase_name (looking noted) = codes "looking"
phase_name (claiming noted page) = codes "claiming"
phase_name (looking_next role noted page) = codes "looking_next"
phase_name (marking role noted page next) = codes "marking"
phase_name (clearing noted page) = codes "clearing"
phase_name (opening noted page) = codes "opening"
phase_name releasing = codes "releasing"
phase_name wishing = codes "wishing"

-- the page that the frame has seen at the position of the fill to open
abbrev pub page_of : Phase → Option ℕ
page_of (claiming noted page) = Some page
page_of (looking_next role noted page) = Some page
page_of (marking role noted page next) = Some page
page_of (clearing noted page) = Some page
page_of (opening noted page) = Some page
page_of _ = None

-- the page after that one
abbrev pub next_of : Phase → Option ℕ
next_of (marking role noted page next) = Some next
next_of _ = None

abbrev pub role_text : Role → List ℕ
role_text owner = codes " owner"
role_text helper = codes " helper"

-- who moves the head: the owner of an UPDATE also clears it
abbrev pub role_of : Phase → List ℕ
role_of (looking_next role noted page) = role_text role
role_of (marking role noted page next) = role_text role
role_of (clearing noted page) = role_text owner
role_of _ = codes " -"

abbrev pub state_text : Progress → List ℕ
state_text waiting = codes " waiting"
state_text left = codes " left"
state_text (reserved number) = spaced number

abbrev pub phase_text : Progress → Phase → List ℕ
phase_text state phase =
    phase_name phase ++ spaced_or_none (noted_fill phase) ++ spaced_or_none (page_of phase)
    ++ spaced_or_none (next_of phase) ++ role_of phase ++ state_text state

abbrev pub reader_name : ReaderPhase → List ℕ
reader_name loading_head = codes "loading_head"
reader_name (loading_done page fill) = codes "loading_done"
reader_name (storing_spare_link page fill) = codes "storing_spare_link"
reader_name (swapping page fill) = codes "swapping"

-- the head that the reader has seen: its page and its fill
abbrev pub head_text : ReaderPhase → List ℕ
head_text loading_head = codes " - -"
head_text (loading_done page fill) = spaced page ++ spaced fill
head_text (storing_spare_link page fill) = spaced page ++ spaced fill
head_text (swapping page fill) = spaced page ++ spaced fill

abbrev pub reader_text : ReaderSeen → List ℕ
reader_text r = reader_name r.phase ++ spaced r.hint ++ spaced r.seen ++ spaced r.expected ++ head_text r.phase

abbrev pub change_text : Change → List ℕ
change_text (link_is position link) = key_line (codes "link" ++ spaced position) (link_text link)
change_text (spare_link_is link) = key_line (codes "spare_link") (link_text link)
change_text (page_is position page) = key_line (codes "at" ++ spaced position) (decimal page)
change_text (count_is key value) = key_line (count_text key) (decimal value)
change_text (frame_is depth kind) = key_line (codes "frame" ++ spaced depth) (kind_text kind)
change_text (frame_gone depth) = key_line (codes "frame" ++ spaced depth) (codes "gone")
change_text (phase_is depth state phase) = key_line (codes "phase" ++ spaced depth) (phase_text state phase)
change_text (reader_is reader) = key_line (codes "reader") (reader_text reader)

-- ---- what became of fills and records

-- a fill that is begun: its page, and the number of its first record
abbrev pub begun_text : Core → Core → List ℕ
begun_text before after =
    if before.opened == after.opened then []
    else key_line (codes "fill" ++ spaced before.opened)
    (decimal (page_at (length after.order) after.order before.opened)
    ++ spaced (length (reserved_records before.history)))

-- the head is taken, or it was moved on, and the fill is lost
abbrev pub passed_text : Core → Answer → Core → List ℕ
passed_text before (page_taken t) after =
    key_line (codes "taken" ++ spaced t.fill)
    (decimal t.held.first ++ spaced (length t.held.records) ++ spaced t.skipped)
passed_text before _ after =
    if before.head == after.head then [] else key_line (codes "lost" ++ spaced before.head) (codes "-")

-- a record that is reserved: the fill that it is in, and its moment
abbrev pub reserved_text : Core → Core → List ℕ
reserved_text before after =
    let number = length (reserved_records before.history) in
    if number == length (reserved_records after.history) then []
    else key_line (codes "record" ++ spaced number)
    (decimal (after.opened - 1) ++ spaced (last_moment (reserved_records after.history)))

-- the end of a frame that has reserved: the record's bytes
abbrev pub ended_in : Progress → List ℕ → List ℕ
ended_in (reserved number) payload = key_line (codes "payload" ++ spaced number) (hex_text payload)
ended_in _ payload = []

abbrev pub ended_on_top : List Frame → List ℕ → List ℕ
ended_on_top [] payload = []
ended_on_top (frame ∷ below) payload = ended_in frame.state payload

abbrev pub ended_text : Core → Event → List ℕ
ended_text before (ends payload) = ended_on_top before.frames payload
ended_text before _ = []

-- ---- what was done

-- the step that a frame in this phase makes, by its name in docs/MODEL.md, "The steps"; `opened` fills are begun
abbrev pub late_or : (noted opened : ℕ) → List ℕ → List ℕ
late_or noted opened name = if noted == opened then name else codes "begin_again"

-- the owner of a move doesn't look whether another frame has begun the fill
abbrev pub late_helper_or : Role → (noted opened : ℕ) → List ℕ → List ℕ
late_helper_or owner noted opened name = name
late_helper_or helper noted opened name = late_or noted opened name

abbrev pub frame_step_name : (opened : ℕ) → Phase → List ℕ
frame_step_name opened idle = codes "reserve"
frame_step_name opened (looking noted) = late_or noted opened (codes "load_link")
frame_step_name opened (claiming noted page) = late_or noted opened (codes "claim_head")
frame_step_name opened (looking_next role noted page) = late_helper_or role noted opened (codes "load_next")
frame_step_name opened (marking role noted page next) = late_helper_or role noted opened (codes "mark_head")
frame_step_name opened (clearing noted page) = codes "clear_update"
frame_step_name opened (opening noted page) = late_or noted opened (codes "open_fill")
frame_step_name opened releasing = codes "release_fill"
frame_step_name opened wishing = codes "load_wish"

-- without a frame there is no such step
abbrev pub top_step_name : (opened : ℕ) → List Frame → List ℕ
top_step_name opened [] = codes "step"
top_step_name opened (frame ∷ below) = frame_step_name opened frame.phase

abbrev pub read_step_name : ReaderPhase → List ℕ
read_step_name loading_head = codes "load_head"
read_step_name (loading_done page fill) = codes "load_done"
read_step_name (storing_spare_link page fill) = codes "store_spare_link"
read_step_name (swapping page fill) = codes "swap_head"

-- the end that makes the step, and the step's name
abbrev pub done_text : Core → Event → List ℕ
done_text c (pushes moment len) = codes " frame" ++ spaced (suc (length c.frames)) ++ codes " push"
done_text c pushes_close = codes " frame" ++ spaced (suc (length c.frames)) ++ codes " push_close"
done_text c steps = codes " frame" ++ spaced (length c.frames) ++ space ∷ top_step_name c.opened c.frames
done_text c (ends payload) = codes " frame" ++ spaced (length c.frames) ++ codes " end"
done_text c reads = codes " reader " ++ read_step_name c.reader.phase
done_text c wishes = codes " reader store_wish"

abbrev pub answer_text : Answer → List ℕ
answer_text pushed = codes " pushed"
answer_text going = codes " going"
answer_text (reserved_as number) = codes " reserved" ++ spaced number
answer_text pending = codes " pending"
answer_text full = codes " full"
answer_text gone = codes " gone"
answer_text (refused why) = codes " refused " ++ refusal_text why
answer_text reading = codes " reading"
answer_text (empty done) = codes " empty" ++ spaced done
answer_text (moving fill) = codes " moving" ++ spaced fill
answer_text (page_taken t) =
    codes " taken" ++ spaced t.fill ++ spaced t.held.first ++ spaced (length t.held.records) ++ spaced t.skipped
answer_text (wished_for fill) = codes " asks" ++ spaced fill

-- ---- whether a compare and exchange was done

-- a link is new
abbrev pub links_differ : List Link → List Link → Bool
links_differ [] news = false
links_differ (old ∷ olds) [] = false
links_differ (old ∷ olds) (new ∷ news) = if same_link old new then links_differ olds news else true

abbrev pub outcome_text : Bool → List ℕ
outcome_text true = codes " done"
outcome_text false = codes " not-done"

abbrev pub outcome_unless_late : (noted opened : ℕ) → Bool → List ℕ
outcome_unless_late noted opened done = if noted == opened then outcome_text done else []

abbrev pub frame_outcome : (opened : ℕ) → Phase → Bool → List ℕ
frame_outcome opened (claiming noted page) done = outcome_unless_late noted opened done
frame_outcome opened (marking owner noted page next) done = outcome_text done
frame_outcome opened (marking helper noted page next) done = outcome_unless_late noted opened done
frame_outcome opened _ done = []

abbrev pub top_outcome : (opened : ℕ) → List Frame → Bool → List ℕ
top_outcome opened [] done = []
top_outcome opened (frame ∷ below) done = frame_outcome opened frame.phase done

abbrev pub read_outcome : ReaderPhase → Bool → List ℕ
read_outcome (swapping page fill) done = outcome_text done
read_outcome _ done = []

-- after the answer to claim_head, mark_head and swap_head
abbrev pub exchange_text : Core → Event → Bool → List ℕ
exchange_text c steps done = top_outcome c.opened c.frames done
exchange_text c reads done = read_outcome c.reader.phase done
exchange_text c _ done = []

-- ---- the whole

-- the first line of a step, in the script's line of this number
abbrev pub step_line : (line cpu : ℕ) → Core → Event → Answer → Core → List ℕ
step_line line cpu before event answer after =
    line_text line cpu ++ done_text before event ++ answer_text answer
    ++ exchange_text before event (links_differ before.links after.links) ++ line_feed ∷ []

-- the text of a step: this line, the keys that are new, and what became of fills and records
abbrev pub step_text : (line cpu : ℕ) → Core → Event → Answer → Core → List ℕ
step_text line cpu before event answer after =
    step_line line cpu before event answer after
    ++ flat_map change_text (changes (ring_seen before) (ring_seen after))
    ++ begun_text before after ++ passed_text before answer after
    ++ reserved_text before after ++ ended_text before event
