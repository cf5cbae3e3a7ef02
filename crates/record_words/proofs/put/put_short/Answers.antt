use Rattle.std.proofs.Common.{◌≡◌, ◌+◌, ℕ, List, rules, replicate, ap, ◌∙◌, take}
use Rattle.std.proofs.lemmas.List.{places}
use borrow.Rule.Slice.PartMut.{put_mid}
use Rattle.record_words.proofs.Padded.{short_put}
use Rattle.record_words.proofs.put.put_short.Goals as goal

pub returns : goal.returns
returns c =
    let zeros : c.fill.new.self ≡ replicate {A = ℕ} 112 0 = search (rules, places) in
    record {
      put =
          ap (λ (zs : List ℕ). take (4 + c.args.slot) (put_mid 4 112 c.put_word.new.out zs)) zeros
          ∙ short_put c.args.out.now c.put_word.new.out c.args.delta c.args.slot c.requires.limit
          c.put_word.ensures;
    }
