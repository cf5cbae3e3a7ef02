use Rattle.std.proofs.Common.{arith, ◌∙◌}
use Rattle.text_values.proofs.Digits.{digits_are}
use Rattle.text_values.proofs.Written.{ok_fact}
use Rattle.text_values.proofs.buffer.write_pairs.Goals as goal

pub returns : goal.returns
returns c =
    ok_fact c.encode_to_slice-fits.result (c.encode_to_slice-fits.ensures.fits.1 c.requires)
    c.encode_to_slice-fits.ensures.written
    ∙ digits_are c.args.bytes.now (λ k. omega (arith, c.type_inv.bytes k))
