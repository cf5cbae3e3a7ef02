use Rattle.ring_model.proofs.examples.WrongStepsRefused.{closes_without_a_wish, wish_closes_an_empty_page}
use Rattle.ring_model.proofs.laws.examples.wrong_closes_are_refused.Goals as goal

pub returns : goal.returns
returns c = record {
  closes_without_a_wish = closes_without_a_wish;
  wish_closes_an_empty_page = wish_closes_an_empty_page;
}
