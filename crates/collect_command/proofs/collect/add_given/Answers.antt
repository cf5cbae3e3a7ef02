use Rattle.collect_command.proofs.collect.add_given.Goals as goal

pub returns-clause-given : goal.returns-clause-given
returns-clause-given c formats tasks symbols names_are tasks_are symbols_are = record {
  names_are = c.in_ok-add.ensures.added formats names_are;
  tasks_are = c.in_ok-add_tasks.ensures tasks tasks_are;
  symbols_are = c.in_ok-add_symbols.ensures symbols symbols_are;
}
