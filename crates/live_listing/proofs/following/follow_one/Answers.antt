use Rattle.std.proofs.Common.{◌≡◌, ◌∙◌, ◌++◌, List, inl, inr, refl, sym, ap, subst}
use Rattle.std.proofs.lemmas.Result.{on_err_weaker}
use Rattle.line_follower.specs.declared.lines.Said.{Said}
use Rattle.live_listing.specs.declared.pages.Content.{Content}
use Rattle.live_listing.specs.Live.{Step}
use Rattle.live_listing.specs.Following.{happening_seen}
use Rattle.live_listing.proofs.Cut.{on_err_too}
use Rattle.live_listing.proofs.following.follow_one.Goals as goal

pub returns-in_err-happen-clause-cut : goal.returns-in_err-happen-clause-cut
returns-in_err-happen-clause-cut g c =
    on_err_too c.from_residual.result
    (inl (record { printer_is = refl; contents_are = refl; sound = c.requires.sound }))

pub returns-clause-cut : goal.returns-clause-cut
returns-clause-cut g c =
    let given = c.in_ok-happen.ensures.given in
    let all : given.0 ≡ c.deref.result.now =
    sym (c.deref.ensures.value ∙ given.1
    ∙ ap (λ (front : List (Said Content)). front ++ given.0) c.new-given.ensures.items) in
    on_err_weaker c.write_given.result (λ cut. inr (record {
      said = c.deref.result.now;
      new = c.happen.new.live;
      step = subst
          (λ (said : List (Said Content)).
          Step (happening_seen c.args.happening) c.args.live.now said c.happen.new.live)
          all given.2;
      prints = c.write_given.ensures.written;
      cut = cut;
    })) c.write_given.ensures.fault
