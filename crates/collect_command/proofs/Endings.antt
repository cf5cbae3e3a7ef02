-- How a run ends, by what was read and taken.
use Rattle.std.proofs.Common.{◌≡◌, ◌↔◌, ℕ, Bool, true, true≢false, List, [], ◌∷◌, ◌++◌, append_assoc, append-nil}
use Rattle.std.proofs.Common.{Option, Result, Ok, Err, OnOk, OnErr, IsErr, IfErr, refl, sym, ap, ◌∙◌, subst}
use Rattle.std.specs.Result.{is_ok}
use Rattle.std.specs.Io.KnownBytes.{Appends}
use Rattle.command_io.specs.CommandRun.{AppendsPrefix}
use Rattle.parcel_streams.specs.Pieces.{bytes_of_pieces}
use Rattle.parcel_streams.specs.Answers.{piece_seen}
use Rattle.parcel_streams.specs.declared.piece.Piece.{Piece}
use Rattle.stream_collector.specs.Stream.{Stream}
use Rattle.fleet_collector.specs.declared.refusal.PieceRefusal.{PieceRefusal}
use Rattle.capture_text.specs.declared.form.Form.{Form}
use Rattle.command_io.specs.declared.ends.Sink.{Ghosts}
use Rattle.text_values.specs.declared.output.Out.{Out}
use Rattle.text_values.specs.Putting.{Start, HasPut}
use Rattle.fleet_text.specs.declared.fault.PieceTrouble.{PieceTrouble}
use Rattle.fleet_text.specs.declared.fault.PieceTrouble.TheVariants.{Unread, Refused}
use Rattle.fleet_text.specs.Pieces.{piece_line}
use Rattle.parcel_streams.specs.declared.source.reader.PieceReader.{PieceReader}
use Rattle.collect_command.specs.declared.streams.read.Stop.{Stop}
use Rattle.collect_command.specs.declared.streams.read.Stop.TheVariants.{Read, Piece as PieceStop}
use Rattle.collect_command.specs.declared.streams.read.Stopped.{Stopped}
use Rattle.collect_command.specs.streams.Reading.{Placed, placed, piece_length, TakesAll, IsTrouble, IsWhy, StopsInputs}
use Rattle.collect_command.specs.streams.Gathering.{HasGathered, IsGathered, Refuses, PrintsPiece, pieces_in}
use Rattle.collect_command.specs.streams.Gathering.{piece_lines}
use Rattle.collect_command.specs.streams.Runs.{Adds, IsRefused, Prints, IsNotPrinted}
use Rattle.collect_command.proofs.Readings.{takes_both}
use Rattle.collect_command.proofs.StreamsGathered.{added_told, GathersTo, all_gathered}

-- ---- what is seen of the states of what takes pieces

module _ {S T : Type 0} (f : S → T) (takes : S → Placed → S → Type 0) (takes' : T → Placed → T → Type 0)
    (each : (p : S) (x : Placed) (q : S) → takes p x q → takes' (f p) x (f q)) where
  pub takes_seen : (p : S) (xs : List Placed) (q : S) → TakesAll takes p xs q → TakesAll takes' (f p) xs (f q)
  takes_seen p [] q same = ap f same
  takes_seen p (x ∷ xs) q (m, one, more) = (f m, each p x m one, takes_seen m xs q more)

  module _ {R : Type 0} (remaining : R → Option (List ℕ)) (has_failed : R → Bool)
      (refuses : S → Placed → PieceRefusal → S → Type 0) (refuses' : T → Placed → PieceRefusal → T → Type 0)
      (refused : (p : S) (x : Placed) (r : PieceRefusal) (q : S) → refuses p x r q → refuses' (f p) x r (f q)) where
    pub trouble_seen : (input at : ℕ) (new : PieceReader R) (left : Option (List ℕ)) (p q : S) (trouble : PieceTrouble)
        → IsTrouble remaining has_failed takes refuses input at new left p q trouble
        → IsTrouble remaining has_failed takes' refuses' input at new left (f p) (f q) trouble
    trouble_seen input at new left p q (Unread fault) (same, is) = (ap f same, is)
    trouble_seen input at new left p q (Refused stream cpu refusal) (piece, origin, gives, is) =
        (piece, origin, gives, refused p record { input = input; at = at; piece = piece } refusal q is)

    pub why_seen : (input : ℕ) (new : PieceReader R) (pieces : List Piece) (left : Option (List ℕ)) (p q : S)
        (stop : Stop)
        → IsWhy remaining has_failed takes refuses input new pieces left p q stop
        → IsWhy remaining has_failed takes' refuses' input new pieces left (f p) (f q) stop
    why_seen input new pieces left p q Read (same, is) = (ap f same, is)
    why_seen input new pieces left p q (PieceStop index at trouble) (index_is, at_is, is) =
        (index_is, at_is, trouble_seen input at new left p q trouble is)

    abbrev pub stops_seen : (old new : List (PieceReader R)) (p q : S) (stopped : Stopped)
        → StopsInputs remaining has_failed takes refuses old new p q stopped
        → StopsInputs remaining has_failed takes' refuses' old new (f p) (f q) stopped
    stops_seen old new p q stopped s = record {
      front = s.front;
      front_new = s.front_new;
      this = s.this;
      this_new = s.this_new;
      behind = s.behind;
      old_is = s.old_is;
      new_is = s.new_is;
      input_is = s.input_is;
      pieces = s.pieces;
      are_whole = s.are_whole;
      between = f s.between;
      taken = takes_seen p s.pieces s.between s.taken;
      here = record {
        pieces = s.here.pieces;
        left = s.here.left;
        gives = s.here.gives;
        between = f s.here.between;
        taken = takes_seen s.between (placed stopped.input 0 s.here.pieces) s.here.between s.here.taken;
        why = why_seen stopped.input s.this_new s.here.pieces s.here.left s.here.between q stopped.stop s.here.why;
      };
    }

-- all that was taken before the stop
all_taken : {R S : Type 0} (remaining : R → Option (List ℕ)) (has_failed : R → Bool) (takes : S → Placed → S → Type 0)
    (refuses : S → Placed → PieceRefusal → S → Type 0) (old new : List (PieceReader R)) (p q : S) (stopped : Stopped)
    → (s : StopsInputs remaining has_failed takes refuses old new p q stopped)
    → TakesAll takes p (s.pieces ++ placed stopped.input 0 s.here.pieces) s.here.between
all_taken remaining has_failed takes refuses old new p q stopped s =
    takes_both takes p s.pieces s.between (placed stopped.input 0 s.here.pieces) s.here.between s.taken s.here.taken

-- ---- gathering

module _ {G K : Type 0} {g : Ghosts K} (fleet_of : G → List (ℕ × Stream)) where
  abbrev Gathering : (G × Out K g) → Placed → (G × Out K g) → Type 0
  Gathering = GathersTo fleet_of

  abbrev pub RefusesTo : (G × Out K g) → Placed → PieceRefusal → (G × Out K g) → Type 0
  RefusesTo p placed refusal q = Refuses placed.piece refusal (fleet_of p.0) p.1 (fleet_of q.0) q.1

  abbrev Has : (start : Start) → List Piece → (G × Out K g) → Type 0
  Has start pieces q = HasGathered start q.1 (fleet_of q.0) pieces

  module _ {R : Type 0} (remaining : R → Option (List ℕ)) (has_failed : R → Bool) where
    -- a piece that is refused, or none, changes nothing
    still : (start : Start) (pieces : List Piece) (input : ℕ) (new : PieceReader R) (own : List Piece)
        (left : Option (List ℕ)) (p q : G × Out K g) (stop : Stop)
        → IsWhy remaining has_failed Gathering RefusesTo input new own left p q stop → Has start pieces p
        → Has start pieces q
    still start pieces input new own left p q Read (same, is) has = subst (Has start pieces) same has
    still start pieces input new own left p q (PieceStop index at (Unread fault)) (index_is, at_is, (same, is)) has =
        subst (Has start pieces) same has
    still start pieces input new own left p q (PieceStop index at (Refused stream cpu refusal))
        (index_is, at_is, (piece, origin, gives, r)) has =
        subst (λ (o : Out K g). HasGathered start o (fleet_of q.0) pieces) (sym r.out_stays)
        (subst (λ l. HasGathered start p.1 l pieces) (sym r.fleet_stays) has)

    pub stops_gathered : (start : Start) (old new : List (PieceReader R)) (p q : G × Out K g) (stopped : Stopped)
        (s : StopsInputs remaining has_failed Gathering RefusesTo old new p q stopped) → Has start [] p
        → Has start (pieces_in (s.pieces ++ placed stopped.input 0 s.here.pieces)) q
    stops_gathered start old new p q stopped s has =
        let pieces = s.pieces ++ placed stopped.input 0 s.here.pieces in
        still start (pieces_in pieces) stopped.input s.this_new s.here.pieces s.here.left s.here.between q stopped.stop
        s.here.why
        (all_gathered fleet_of start [] pieces p s.here.between has
        (all_taken remaining has_failed Gathering RefusesTo old new p q stopped s))

    abbrev pub stops_adding : (old new : List (PieceReader R)) (p q : G × Out K g) (stopped : Stopped)
        → fleet_of p.0 ≡ []
        → StopsInputs remaining has_failed Gathering RefusesTo old new p q stopped
        → StopsInputs remaining has_failed Adds IsRefused old new [] (fleet_of q.0) stopped
    stops_adding old new p q stopped none s =
        let seen = stops_seen (λ (z : G × Out K g). fleet_of z.0) Gathering Adds (λ a x b t. (t.added, t.adds))
        remaining has_failed RefusesTo IsRefused (λ a x r b t. (t.fleet_stays, t.refused)) old new p q stopped s in
        record {
          front = seen.front;
          front_new = seen.front_new;
          this = seen.this;
          this_new = seen.this_new;
          behind = seen.behind;
          old_is = seen.old_is;
          new_is = seen.new_is;
          input_is = seen.input_is;
          pieces = seen.pieces;
          are_whole = seen.are_whole;
          between = seen.between;
          taken = subst (λ (f : List (ℕ × Stream)). TakesAll Adds f seen.pieces seen.between) none seen.taken;
          here = seen.here;
        }

-- what was gathered and then written
pub gathered : {T F K : Type 0} {g : Ghosts K} (result : Result T F) (start : Start) (after : Option (List ℕ))
    (failed : Bool) (out : Out K g) (pieces : List Piece) (fleet : List (ℕ × Stream))
    → HasGathered start out fleet pieces
    → ((text : List ℕ) → HasPut start text out → OnOk result (Appends start.contents after text))
    → ((text : List ℕ) → HasPut start text out → OnErr result (AppendsPrefix start.contents after text))
    → ((failed ≡ true) ↔ IsErr result)
    → IsGathered start.contents after failed pieces fleet (is_ok result)
gathered (Ok x) start after failed out pieces fleet has all prefix fault =
    let told = added_told has.added in
    record {
      kept = has.kept;
      added = has.added;
      told = told.0;
      kept_told = told.1;
      written = λ sound. (all (bytes_of_pieces has.kept) has.put, refl);
      cut_off = λ broken. absurd (true≢false (sym (fault.0 broken)));
    }
gathered (Err e) start after failed out pieces fleet has all prefix fault =
    let told = added_told has.added in
    record {
      kept = has.kept;
      added = has.added;
      told = told.0;
      kept_told = told.1;
      written = λ sound. absurd (true≢false (sym (fault.1 refl) ∙ sound));
      cut_off = λ broken. (prefix (bytes_of_pieces has.kept) has.put, refl);
    }

-- ---- printing

module _ {P W : Type 0} {g : Ghosts W} (form_of : P → Form) where
  abbrev pub PrintsTo : (P × Out W g) → Placed → (P × Out W g) → Type 0
  PrintsTo p placed q = PrintsPiece placed (form_of p.0) p.1 (form_of q.0) q.1

  abbrev pub NeverRefuses : (P × Out W g) → Placed → PieceRefusal → (P × Out W g) → Type 0
  NeverRefuses p placed refusal q = ⊥

  pub all_printed : (start : Start) (text : List ℕ) (pieces : List Placed) (p q : P × Out W g)
      → HasPut start text p.1 → TakesAll PrintsTo p pieces q
      → HasPut start (text ++ piece_lines (form_of p.0) pieces) q.1
  all_printed start text [] p q has same =
      subst (λ (z : P × Out W g). HasPut start (text ++ []) z.1) same
      (subst (λ t. HasPut start t p.1) (sym (append-nil text)) has)
  all_printed start text (x ∷ xs) p q has (m, one, more) =
      let line = piece_line (form_of p.0) x.input x.at (piece_length x.piece) (piece_seen x.piece) in
      subst (λ t. HasPut start t q.1) (append_assoc text line (piece_lines (form_of p.0) xs))
      (subst (λ f. HasPut start ((text ++ line) ++ piece_lines f xs) q.1) one.form_stays
      (all_printed start (text ++ line) xs m q (one.put start text has) more))

  module _ {R : Type 0} (remaining : R → Option (List ℕ)) (has_failed : R → Bool) where
    still_put : (start : Start) (text : List ℕ) (input : ℕ) (new : PieceReader R) (own : List Piece)
        (left : Option (List ℕ)) (p q : P × Out W g) (stop : Stop)
        → IsWhy remaining has_failed PrintsTo NeverRefuses input new own left p q stop
        → HasPut start text p.1 → HasPut start text q.1
    still_put start text input new own left p q Read (same, is) has =
        subst (λ (z : P × Out W g). HasPut start text z.1) same has
    still_put start text input new own left p q (PieceStop index at (Unread fault)) (index_is, at_is, (same, is)) has =
        subst (λ (z : P × Out W g). HasPut start text z.1) same has
    still_put start text input new own left p q (PieceStop index at (Refused stream cpu refusal))
        (index_is, at_is, (piece, origin, gives, r)) has = absurd r

    pub stops_printed : (start : Start) (old new : List (PieceReader R)) (p q : P × Out W g) (stopped : Stopped)
        (s : StopsInputs remaining has_failed PrintsTo NeverRefuses old new p q stopped)
        → HasPut start [] p.1
        → HasPut start (piece_lines (form_of p.0) (s.pieces ++ placed stopped.input 0 s.here.pieces)) q.1
    stops_printed start old new p q stopped s has =
        let pieces = s.pieces ++ placed stopped.input 0 s.here.pieces in
        still_put start (piece_lines (form_of p.0) pieces) stopped.input s.this_new s.here.pieces s.here.left
        s.here.between q
        stopped.stop s.here.why
        (all_printed start [] pieces p s.here.between has
        (all_taken remaining has_failed PrintsTo NeverRefuses old new p q stopped s))

    abbrev pub stops_printing : (old new : List (PieceReader R)) (p q : P × Out W g) (stopped : Stopped)
        (s : StopsInputs remaining has_failed PrintsTo NeverRefuses old new p q stopped)
        → StopsInputs remaining has_failed Prints IsNotPrinted old new tt tt stopped
    stops_printing old new p q stopped s =
        stops_seen (λ (z : P × Out W g). tt) PrintsTo Prints (λ a x b t. tt) remaining has_failed NeverRefuses
        IsNotPrinted (λ a x r b r'. r') old new p q stopped s

-- ---- by whether all was read

pub by_read : {E Goal A C : Type 0} {B D : E → Type 0} (read : Result (Unit {0}) E) → OnOk read A → IfErr read B
    → OnOk read C
    → IfErr read D → (A → C → Goal) → ((e : E) → B e → D e → Goal) → Goal
by_read (Ok x) a b c d whole stopped = whole a c
by_read (Err e) a b c d whole stopped = stopped e b d
