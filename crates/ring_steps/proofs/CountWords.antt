-- The words of a ring, as a count or the wish is stored.
use Rattle.std.proofs.Common.{ℕ, List, set, ◌∙◌, arith, length-set}
use Rattle.std.proofs.lemmas.List.{get_or-set_same, get_or-set_other}
use Rattle.trace_model.specs.Ring.{Core}
use Rattle.ring_steps.specs.Shown.{page_before, AreWords}
use Rattle.ring_steps.specs.Words.{opened_word, done_word, wish_word, page_word}

-- a count, or the wish, is stored
pub with_opened : (n : ℕ) (c : Core) (words : List ℕ) (opened : ℕ) → AreWords n c words
    → AreWords n (record c { opened = opened }) (set words opened_word opened)
with_opened n c words opened a = let count = a.count in record {
  count = length-set words opened_word opened ∙ a.count;
  opened = get_or-set_same words opened_word opened 0 (omega arith);
  done = get_or-set_other words opened_word done_word opened 0 (λ e. omega arith) ∙ a.done;
  wish = get_or-set_other words opened_word wish_word opened 0 (λ e. omega arith) ∙ a.wish;
  links = λ f. get_or-set_other words opened_word (page_word (page_before n c.order f)) opened 0 (λ e. omega arith)
      ∙ a.links f;
  spare = get_or-set_other words opened_word (page_word c.spare) opened 0 (λ e. omega arith) ∙ a.spare;
}

pub with_done : (n : ℕ) (c : Core) (words : List ℕ) (done : ℕ) → AreWords n c words
    → AreWords n (record c { done = done }) (set words done_word done)
with_done n c words done a = let count = a.count in record {
  count = length-set words done_word done ∙ a.count;
  opened = get_or-set_other words done_word opened_word done 0 (λ e. omega arith) ∙ a.opened;
  done = get_or-set_same words done_word done 0 (omega arith);
  wish = get_or-set_other words done_word wish_word done 0 (λ e. omega arith) ∙ a.wish;
  links = λ f. get_or-set_other words done_word (page_word (page_before n c.order f)) done 0 (λ e. omega arith)
      ∙ a.links f;
  spare = get_or-set_other words done_word (page_word c.spare) done 0 (λ e. omega arith) ∙ a.spare;
}

pub with_wish : (n : ℕ) (c : Core) (words : List ℕ) (wish : ℕ) → AreWords n c words
    → AreWords n (record c { wish = wish }) (set words wish_word wish)
with_wish n c words wish a = let count = a.count in record {
  count = length-set words wish_word wish ∙ a.count;
  opened = get_or-set_other words wish_word opened_word wish 0 (λ e. omega arith) ∙ a.opened;
  done = get_or-set_other words wish_word done_word wish 0 (λ e. omega arith) ∙ a.done;
  wish = get_or-set_same words wish_word wish 0 (omega arith);
  links = λ f. get_or-set_other words wish_word (page_word (page_before n c.order f)) wish 0 (λ e. omega arith)
      ∙ a.links f;
  spare = get_or-set_other words wish_word (page_word c.spare) wish 0 (λ e. omega arith) ∙ a.spare;
}
