use Rattle.std.proofs.Common.{rules}
use Rattle.trace_run.proofs.PagesFound.{page_parcels, none_parcels, page_found, none_found, put_off}
use Rattle.trace_run.proofs.TakesMore.{page_more, none_more, moving_more}
use Rattle.trace_run.proofs.readers.end.ReaderEnd.take.Goals as goal
use Rattle.trace_run.proofs.readers.end.ReaderEnd.take.Goals.{in-Page+in_ok-fitted-in-Page+in_ok-push-in-Page, in-Empty}
use Rattle.trace_run.proofs.readers.end.ReaderEnd.take.Goals.{in-Moving}

pub returns-clause-found : goal.returns-clause-found
returns-clause-found c =
    elim c.match-take.branch [
      | in-Page+in_ok-fitted-in-Page+in_ok-push-in-Page w ↦ rw (w.body-is, w.taken-is, ← c.self.view_is)
          (page_found _ _ w.in-Page.page w.in-Page.missed
          (search (rules, w.in-Page.ensures.steps)) (search rules) (search rules) (search rules)
          (w.into_body.result, search rules))
      | in-Empty w ↦ rw (w.body-is, w.taken-is, ← c.self.view_is) (none_found _ _ w.in-Empty.field-0 w.in-Empty.body
          (search (rules, w.in-Empty.ensures.steps)) (search rules) (search rules) (search rules) (search rules))
      | in-Moving w ↦ rw (w.body-is, w.taken-is, ← c.self.view_is) (put_off _ _ w.in-Moving.field-0 w.in-Moving.body
          (search (rules, w.in-Moving.ensures.steps)) (search rules) (search rules) (search rules) (search rules))
    ]

pub invariant_of-result : goal.invariant_of-result
invariant_of-result c = record {
  known = search rules;
  is = search rules;
  taken_are = elim c.match-take.branch [
    | in-Page+in_ok-fitted-in-Page+in_ok-push-in-Page w ↦ rw (w.taken-is)
        (page_parcels c.self.inside.cpu.0 _ _ _ _ _ w.in-Page.page w.in-Page.missed _ w.in-Page.ensures.took.is
        (search rules) c.self.invariant.taken_are w.in-Page.ensures.took.one_more)
    | in-Empty w ↦ rw (w.taken-is)
        (none_parcels c.self.inside.cpu.0 _ _ _ c.self.invariant.taken_are w.in-Empty.ensures.took.1.nothing.taken_is)
    | in-Moving w ↦ rw (w.taken-is)
        (none_parcels c.self.inside.cpu.0 _ _ _ c.self.invariant.taken_are w.in-Moving.ensures.took.1.nothing.taken_is)
  ];
  takes = elim c.match-take.branch [
    | in-Page+in_ok-fitted-in-Page+in_ok-push-in-Page w ↦
        page_more _ _ w.in-Page.page w.in-Page.missed _ c.self.invariant.takes w.in-Page.ensures.steps
        w.in-Page.ensures.took
    | in-Empty w ↦
        none_more _ _ w.in-Empty.field-0 w.in-Empty.body _ c.self.invariant.takes w.in-Empty.ensures.steps
        w.in-Empty.ensures.took.1.nothing.taken_is
    | in-Moving w ↦
        moving_more _ _ w.in-Moving.field-0 w.in-Moving.body _ c.self.invariant.takes w.in-Moving.ensures.steps
        w.in-Moving.ensures.took.1.nothing.taken_is
  ];
  size_is = search rules;
  small = search rules;
  large = search rules;
  words = search rules;
  body_fits = search rules;
}
