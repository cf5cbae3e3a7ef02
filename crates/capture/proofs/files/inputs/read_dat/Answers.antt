use Rattle.std.proofs.Common.{◌≡◌, ◌∙◌, true, false, List, ℕ, sym, subst}
use Rattle.capture.specs.files.Files.{is_dat}
use Rattle.capture.specs.files.FilesRead.{AddsFile}
use Rattle.capture.proofs.Answers.{on_ok}
use Rattle.capture.proofs.Prefixes.{dat-more}
use Rattle.capture.proofs.RestFaults.{not-failed, if_err, read-rest-fault}
use Rattle.capture.proofs.files.inputs.read_dat.Goals as goal

pub add_dat-requires-clause-dat : goal.add_dat-requires-clause-dat
add_dat-requires-clause-dat g c =
    let whole = c.in_ok-file.ensures.whole in
    subst (λ (bytes : List ℕ). is_dat c.args.name.now bytes ≡ true) (sym (c.as_slice.ensures.value ∙ whole.1))
    (dat-more c.args.name.now c.args.first.now whole.0 c.requires.dat)

pub returns-clause-read : goal.returns-clause-read
returns-clause-read g c = λ page cpu files alone count was.
    let whole = c.in_ok-file.ensures.whole in
    on_ok c.add_dat.result (λ added. record {
      more = whole.0;
      taken = whole.2;
      added =
          subst (λ (bytes : List ℕ).
          AddsFile c.args.losses page c.args.name.now files
          (record { cpu = cpu; bytes = bytes }) c.add_dat.new.captured)
          (c.as_slice.ensures.value ∙ whole.1) added;
    }) (c.add_dat.ensures.read page cpu files alone count was)

pub returns-clause-fault : goal.returns-clause-fault
returns-clause-fault g c = λ page cpu files alone was.
    let whole = c.in_ok-file.ensures.whole in
    let sound : g.R.Source.failed c.read_rest.new.reader ≡ false =
    not-failed _ (λ failed. let e = c.in_ok-file.ensures.read_fault.0 failed in cc) in
    if_err c.add_dat.result
    (read-rest-fault c.args.losses page c.args.name.now cpu c.args.first.now whole.0 c.as_slice.result.now _ _ _ files
    (c.as_slice.ensures.value ∙ whole.1) sound
    c.in_ok-file.ensures.end whole.2)
    (c.add_dat.ensures.fault page cpu files alone was)
