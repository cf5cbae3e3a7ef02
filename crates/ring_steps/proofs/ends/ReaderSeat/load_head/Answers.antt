use Rattle.std.proofs.Common.{ℕ, ◌%◌, ap, ◌∙◌}
use Rattle.trace_model.proofs.words.LinkWords.{no_mark}
use Rattle.ring_steps.proofs.Allowing.{reader_allows}
use Rattle.ring_steps.proofs.Taking.{load_link_moves}
use Rattle.ring_steps.proofs.TakeSteps.{at_header, at_update, at_owed, at_passed}
use Rattle.ring_steps.proofs.ends.ReaderSeat.load_head.Goals as goal

pub load-requires-clause-allowed : goal.load-requires-clause-allowed
load-requires-clause-allowed c = let is = c.args.self.now.is_reading in
    reader_allows c.args.self.now.shape _ _ _ _ _ _ is.view
    (λ core words homes s.
    load_link_moves c.args.self.now.shape _ is core words homes s c.args.front c.requires.due c.requires.front)

pub link_in-requires : goal.link_in-requires
link_in-requires c =
    record {
      mark =
          λ three. no_mark _ (ap (λ (word : ℕ). word % 4) c.load.ensures.reported.1.step.1.seen.word_is ∙ three);
    }

pub returns-clause-header : goal.returns-clause-header
returns-clause-header c = let reported = c.load.ensures.reported.1 in
    at_header c.args.self.now.shape _ _ _ reported.step c.requires.due reported.keeps_is c.link_in.result
    c.link_in.ensures.fits c.link_in.ensures.word

pub returns-clause-update : goal.returns-clause-update
returns-clause-update c = let reported = c.load.ensures.reported.1 in
    at_update c.args.self.now.shape _ _ _ reported.step c.requires.due reported.keeps_is c.link_in.result
    c.link_in.ensures.fits c.link_in.ensures.word

pub returns-clause-owed : goal.returns-clause-owed
returns-clause-owed c = let reported = c.load.ensures.reported.1 in
    at_owed c.args.self.now.shape _ _ _ reported.step c.requires.due reported.keeps_is c.link_in.result
    c.link_in.ensures.fits c.link_in.ensures.word

pub returns-clause-passed : goal.returns-clause-passed
returns-clause-passed c = let reported = c.load.ensures.reported.1 in
    λ is other.
    (at_passed c.args.self.now.shape _ _ _ reported.step c.requires.due reported.keeps_is c.link_in.result
    c.link_in.ensures.fits c.link_in.ensures.word is other).0

pub returns-clause-behind : goal.returns-clause-behind
returns-clause-behind c = let reported = c.load.ensures.reported.1 in
    λ is other.
    (at_passed c.args.self.now.shape _ _ _ reported.step c.requires.due reported.keeps_is c.link_in.result
    c.link_in.ensures.fits c.link_in.ensures.word is other).1
