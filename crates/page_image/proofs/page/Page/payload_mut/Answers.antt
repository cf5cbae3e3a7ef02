use Rattle.std.proofs.Common.{◌∙◌, refl, arith}
use Rattle.trace_model.proofs.words.Overwritten.{place-within}
use Rattle.page_image.proofs.Overwriting.{payload_written}
use Rattle.page_image.proofs.page.Page.payload_mut.Goals as goal

pub part_mut-requires : goal.part_mut-requires
part_mut-requires c = omega (arith, place-within c.args.self.now.bytes c.args.place.start c.args.place.len c.requires)

pub returns : goal.returns
returns c =
    let page = c.args.self.now in
    let start = c.args.place.start in
    let part_is = c.part_mut.ensures in (
      (refl, λ w. refl),
      record {
        lends = tt;
        payload = part_is.part;
        len = part_is.len;
        written = λ part fills. payload_written page start _ part c.requires fills;
        stays = record {
          length_stays =
              λ part fills. (payload_written page start _ part c.requires (fills ∙ part_is.len)).length_stays;
          blank_stays = λ part fills. (payload_written page start _ part c.requires (fills ∙ part_is.len)).blank_stays;
          page_reads = λ part fills. (payload_written page start _ part c.requires (fills ∙ part_is.len)).page_reads;
          open_stays = λ part fills. (payload_written page start _ part c.requires (fills ∙ part_is.len)).open_stays;
          last_stays = λ part fills. (payload_written page start _ part c.requires (fills ∙ part_is.len)).last_stays;
          payloads_stay =
              λ part fills. (payload_written page start _ part c.requires (fills ∙ part_is.len)).payloads_stay;
        };
      },
    )
