use Rattle.std.proofs.Common.{◌≡◌, ◌≢◌, ◌++◌, ◌∷◌, [], List, ℕ, refl, rules, ap, sym, subst, ◌∙◌}
use Rattle.trace_model.specs.Image.{Missed, DecodesImage, FirstImageFault}
use Rattle.page_image.specs.Images.{missed_of}
use Rattle.page_image.specs.Contents.{records_of_page}
use Rattle.page_image.specs.declared.image.ImageFault.TheVariants.{NoMemory}
use Rattle.capture.specs.Pages.{Page, intact, damaged, loss_stated, told, told_of, IsPageOf, Fit}
use Rattle.capture.specs.Captures.{IsCapture}
use Rattle.capture.proofs.CapturedFiles.{on_ok, cause-of}
use Rattle.capture.proofs.pages.Capture.add_page.Goals as goal

pub returns-in-Ok-clause-read : goal.returns-in-Ok-clause-read
returns-in-Ok-clause-read c = λ pages was.
    let image = c.in-Ok.image in
    let page : Page =
    intact record { missed = loss_stated (missed_of image.missed); records = records_of_page image.page } in
    let is : IsPageOf c.args.image.now page = (
      image.time,
      image.size,
      missed_of image.missed,
      subst (λ (bytes : List ℕ).
          DecodesImage bytes image.time image.size (missed_of image.missed) (records_of_page image.page))
          c.restore_stamps.ensures c.in-Ok.ensures.reads,
      refl,
    ) in
    let known : Page = intact record { missed = missed_of c.told-image.result; records = records_of_page image.page } in
    let same : known ≡ told (missed_of c.args.unknown) page =
    ap (λ (m : Missed). intact record { missed = m; records = records_of_page image.page })
    (c.told-image.ensures ∙ ap (told_of (missed_of c.args.unknown)) c.loss_stated.ensures) in
    on_ok c.add_image.result (λ read. record {
      page = page;
      page_is = is;
      capture_is = subst (λ (p : Page). IsCapture c.add_image.new.self (pages ++ p ∷ [])) same read;
    }) (c.add_image.ensures.read pages was)

pub returns-in-Ok-clause-numbers : goal.returns-in-Ok-clause-numbers
returns-in-Ok-clause-numbers c = λ pages was numbers.
    let image = c.in-Ok.image in
    let page : Page =
    intact record { missed = loss_stated (missed_of image.missed); records = records_of_page image.page } in
    let is : IsPageOf c.args.image.now page = (
      image.time,
      image.size,
      missed_of image.missed,
      subst (λ (bytes : List ℕ).
          DecodesImage bytes image.time image.size (missed_of image.missed) (records_of_page image.page))
          c.restore_stamps.ensures c.in-Ok.ensures.reads,
      refl,
    ) in
    let known : Page = intact record { missed = missed_of c.told-image.result; records = records_of_page image.page } in
    let same : known ≡ told (missed_of c.args.unknown) page =
    ap (λ (m : Missed). intact record { missed = m; records = records_of_page image.page })
    (c.told-image.ensures ∙ ap (told_of (missed_of c.args.unknown)) c.loss_stated.ensures) in
    record {
      page = page;
      page_is = is;
      past =
          λ fit.
          c.add_image.ensures.numbers pages was numbers
          (subst (λ (p : Page). Fit (pages ++ p ∷ [])) (sym same) fit);
    }

pub returns-in-Err : goal.returns-in-Err
returns-in-Err c =
    let fault = c.in-Err.fault in
    let other : fault ≢ NoMemory = search rules in
    let found = cause-of c.restore_stamps.new.image c.read_image.result fault c.in-Err.is other
    c.read_image.ensures.is_too_short.0 c.read_image.ensures.has_bad_size.0 c.read_image.ensures.has_bad_count.0
    (λ cause at. (c.read_image.ensures.has_bad_word cause at).0) in
    let page : Page = damaged found.0 in
    let is : IsPageOf c.args.image.now page =
    subst (λ (bytes : List ℕ). FirstImageFault bytes found.0) c.restore_stamps.ensures found.2 in
    record {
      cpu = c.add_damaged.ensures.cpu;
      read = λ pages was. on_ok c.add_damaged.result (λ read. record { page = page; page_is = is; capture_is = read })
          (c.add_damaged.ensures.read pages found.0 was found.1);
      numbers =
          λ pages was numbers.
          record { page = page; page_is = is; past = c.add_damaged.ensures.numbers pages found.0 was numbers };
    }
