-- What contracts see of a script.
use Rattle.text_model.specs.Script.{Script}
use Rattle.trace_script.specs.declared.script.Script.TheInside.{Inside}

abbrev pub script_seen : Inside → Script
script_seen s = record {
  pages = s.pages;
  size = s.size;
  cpus = s.cpus;
  collectors = s.collectors;
  start = s.start.0;
  commands = s.commands;
}
