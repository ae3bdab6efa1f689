-- The P table, one statement.
use Rattle.control.proofs.Samples as control
use Rattle.session_rules.proofs.Steps as steps
use Rattle.session_rules.proofs.Samples as session
use Rattle.books.proofs.Samples as books
use Rattle.samples.specs.Table.{Samples}

pub samples : Samples
samples = record {
  header-alone = (control.samples).header-alone;
  names-itself = (control.samples).names-itself;
  names-nothing = (control.samples).names-nothing;
  bare = (session.table).bare;
  past_end = (session.table).past_end;
  without_end = (session.table).without_end;
  short-of-clock = (session.table).short-of-clock;
  with-clock = (session.table).with-clock;
  over-the-end = steps.over-the-end;
  half-less-one = steps.half-way;
  half = steps.past-half-way;
  by-rule = books.by-rule;
  by-session = books.by-session;
}
