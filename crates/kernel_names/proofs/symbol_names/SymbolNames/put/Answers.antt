use Rattle.std.proofs.Common.{sym, ◌∙◌, arith}
use Rattle.kernel_names.proofs.SymbolLines.{none_if, all_grown, either_ended, put_known}
use Rattle.kernel_names.proofs.symbol_names.SymbolNames.put.Goals as goal

pub invariant_of-self : goal.invariant_of-self
invariant_of-self c = record {
  ended =
      all_grown c.args.self.now.names.items c.put_name.new.names.items c.args.self.now.places c.args.self.now.ended
      c.put_name.ensures.grown;
}

pub invariant_of-self-2 : goal.invariant_of-self-2
invariant_of-self-2 c = record {
  ended =
      either_ended c.args.self.now.names.items c.put_name.new.names.items c.args.symbol.name.now
      c.args.self.now.places c.insert.new.self c.args.symbol.address c.len-at.result c.insert.result
      c.args.self.now.ended c.in_ok-put_name.ensures.put c.requires
      (omega (arith, c.len-at.ensures, c.args.self.now.names.ok.0)) c.insert.ensures.updates c.insert.ensures.err;
}

pub returns : goal.returns
returns c =
    put_known c.args.self.now.names.items c.put_name.new.names.items c.args.symbol.name.now
    c.args.self.now.places c.insert.new.self c.args.symbol.address c.len-at.result c.args.self.now.ended
    c.in_ok-put_name.ensures.put c.requires (omega (arith, c.len-at.ensures, c.args.self.now.names.ok.0))
    c.in_ok-insert.ensures.updates
    (none_if _ (sym c.contains_key.ensures ∙ c.if-contains_key.false))
