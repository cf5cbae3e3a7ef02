use Rattle.std.proofs.Common.{refl}
use Rattle.tracering_c.specs.Codes.{answer_code, finish_code}
use Rattle.tracering_c.proofs.making.close_page.Goals as goal

pub returns-clause-closes : goal.returns-clause-closes
returns-clause-closes c = λ none. record {
  begun = c.begin_close.new.self;
  begun_code = answer_code c.begin_close.result;
  code = finish_code c.begin_close.new.self c.finish_top.result c.finish_top.new.self;
  begins = record {
    answer = c.begin_close.result;
    makes = c.begin_close.ensures.makes;
    code_is = refl;
    payloads = c.begin_close.ensures.payloads;
    room_is = c.begin_close.ensures.room;
    refused = c.begin_close.ensures.refused;
  };
  finishes = record {
    answer = c.finish_top.result;
    finishes = c.finish_top.ensures.finished;
    code_is = refl;
    slots = c.finish_top.ensures.slots;
  };
}
