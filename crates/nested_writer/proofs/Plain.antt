-- A record as nearly all are, reserved in the tail.
use Rattle.std.proofs.Common.{◌≡◌, ℕ, ◌+◌, ◌-◌, ◌<◌, ◌≤◌, max, false, List, [], ◌∷◌, ◌++◌, length, replicate, None}
use Rattle.std.proofs.Common.{refl, sym, ap, ◌∙◌, subst, arith, rules}
use Rattle.std.specs.Prelude.{Bool}
use Rattle.record_words.specs.declared.format.TheConstants.{EXTEND_FROM, SHORT_LIMIT}
use Rattle.trace_model.specs.History.{reserve}
use Rattle.trace_model.specs.Words.{slot_len, encoded_len, encoding}
use Rattle.page_image.specs.Contents.{Contents, is_blank}
use Rattle.record_words.specs.declared.put.Place.{Place}
use Rattle.nested_writer.specs.declared.frame.Purpose.TheVariants.{Record}
use Rattle.nested_writer.specs.declared.frame.Progress.TheVariants.{Waiting, Reserved}
use Rattle.nested_writer.specs.declared.frame.Frame.{Frame}
use Rattle.nested_writer.specs.declared.frame.Pushed.{Pushed}
use Rattle.nested_writer.specs.Stack.{Stack, tail_fill, next_number}
use Rattle.nested_writer.specs.Calls.{IsTop, ReservesRecord, HasRecordRoom}
use Rattle.nested_writer.specs.PlainTop.{FitsPlainly, IsPlainTop}
use Rattle.nested_writer.specs.Allotted.{HasEvents}
use Rattle.nested_writer.proofs.Tops.{first_is, rest_is}
use Rattle.nested_writer.proofs.Reserving.{IsPut, reserved_with}

-- its moment isn't raised
pub plain_raised : (s : Stack) (moment len : ℕ) → FitsPlainly s moment len → moment ≡ max moment s.last_moment
plain_raised s moment len p = let order = p.in_order in omega arith

-- a record in the short form, without a time extend, takes a word and its slot
short_len : (len delta : ℕ) → 1 ≤ len → len ≤ SHORT_LIMIT → delta < EXTEND_FROM
    → encoded_len len delta false ≤ 4 + SHORT_LIMIT
short_len len delta some short near = search rules

-- it has room
pub plain_room : (s : Stack) (moment len : ℕ) → FitsPlainly s moment len → HasRecordRoom s moment len
plain_room s moment len p =
    let low =
    subst (λ (m : ℕ). encoded_len len (m - s.last_moment) false ≤ 4 + SHORT_LIMIT) (plain_raised s moment len p)
    (short_len len (moment - s.last_moment) p.some p.short p.near) in
    let far = p.far in
    subst (λ (b : Bool). length s.tail.bytes + encoded_len len (max moment s.last_moment - s.last_moment) b ≤ s.size)
    (sym p.behind) (omega arith)

-- put after the others, it is reserved
module _ (s : Stack) (pushed : Pushed) (p : IsPlainTop s pushed) (tail' : Contents) (place : Place) (number fill : ℕ)
  where
    abbrev waits : Frame
    waits = record { purpose = Record pushed.moment pushed.len; progress = Waiting None }

    abbrev pub plain_put : Stack
    plain_put =
        record s {
          tail = tail';
          last_moment = pushed.moment;
          frames =
              record {
                purpose = Record pushed.moment pushed.len;
                progress = Reserved record { number = number; fill = fill; place = place };
              } ∷ p.below;
        }

    pub plain_reserved : number ≡ next_number s → fill ≡ tail_fill s
        → tail'.bytes
        ≡ s.tail.bytes
        ++ encoding (pushed.moment - s.last_moment) (is_blank s.tail.bytes) (replicate (slot_len pushed.len) 0)
        → place.start + place.len ≡ length tail'.bytes
        → place.len ≡ slot_len pushed.len
        → (top : Frame) (below : List Frame)
        → IsTop s top below
        → ReservesRecord s top below pushed.moment pushed.len place plain_put
    plain_reserved number_is fill_is bytes end long top below on_top =
        let raised = plain_raised s pushed.moment pushed.len p.fits in
        let same : waits ∷ p.below ≡ top ∷ below = sym p.on_top ∙ on_top in
        subst (λ (f : Frame). ReservesRecord s f below pushed.moment pushed.len place plain_put)
        (first_is waits top p.below below same)
        (subst (λ (fs : List Frame). ReservesRecord s waits fs pushed.moment pushed.len place plain_put)
        (rest_is waits top p.below below same) record {
          bytes =
              bytes
              ∙ ap
              (λ (m : ℕ).
              s.tail.bytes
              ++ encoding (m - s.last_moment) (is_blank s.tail.bytes) (replicate (slot_len pushed.len) 0))
              raised;
          place_end = end;
          place_len = long;
          others = λ i. record s {
            tail = tail';
            last_moment = raised i;
            frames =
                record {
                  purpose = Record pushed.moment pushed.len;
                  progress = Reserved record { number = number_is i; fill = fill_is i; place = place };
                } ∷ p.below;
          };
        })

    pub plain_has_events : number ≡ next_number s → fill ≡ tail_fill s
        → IsPut s.tail tail' s.last_moment pushed.moment pushed.len place → HasEvents s (reserve ∷ []) plain_put
    plain_has_events number_is fill_is put start h k =
        let raised = plain_raised s pushed.moment pushed.len p.fits in
        let room = plain_room s pushed.moment pushed.len p.fits in
        let room' : length s.tail.bytes + encoded_len pushed.len (pushed.moment - s.last_moment) (is_blank s.tail.bytes)
        ≤ s.size =
        subst
        (λ (m : ℕ).
        length s.tail.bytes + encoded_len pushed.len (m - s.last_moment) (is_blank s.tail.bytes) ≤ s.size)
        (sym raised) room in
        reserved_with start h s waits p.below pushed.moment pushed.len None tail' place pushed.moment number fill raised
        number_is fill_is p.on_top refl refl (omega (arith, put.long, room')) put k
