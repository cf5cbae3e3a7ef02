use Rattle.std.proofs.Common.{length, refl, ap, ◌∙◌, arith, length-take-le}
use Rattle.page_image.specs.Contents.{Contents}
use Rattle.page_image.proofs.Overwriting.{part_within, length-with_part, range_within}
use Rattle.page_image.proofs.page.Page.part_mut.Goals as goal

pub returns : goal.returns
returns c =
    let v = c.self.inside in
    let bytes_is = ap (λ (p : Contents). length p.bytes) c.self.view_is in
    let end_len = length-take-le v.end v.body c.self.invariant.0 in
    rw (← c.self.view_is) (
      (
        refl,
        λ w i. record {
          time = v.time;
          first = v.first.0;
          count = v.count;
          fill = v.fill.0;
          size = length-with_part v.body w c.args.place.start (omega (arith, c.requires, c.self.invariant.0)) i;
          bytes = part_within v.body w v.end c.args.place.start (omega (arith, c.requires)) c.self.invariant.0 i;
        },
      ),
      record {
        lends = tt;
        part =
            c.part_mut.ensures.part
            ∙ range_within v.body v.end c.args.place.start c.args.place.len (omega (arith, c.requires));
        len = c.part_mut.ensures.len;
      },
    )
