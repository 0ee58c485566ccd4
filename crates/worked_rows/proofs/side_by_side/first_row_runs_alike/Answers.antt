use Rattle.worked_rows.proofs.FirstRow as row
use Rattle.worked_rows.proofs.side_by_side.first_row_runs_alike.Goals as goal

pub returns-clause-start : goal.returns-clause-start
returns-clause-start c = row.at_start

pub returns-clause-assigned : goal.returns-clause-assigned
returns-clause-assigned c = row.assigned

pub returns-clause-print_started : goal.returns-clause-print_started
returns-clause-print_started c = row.print_started

pub returns-clause-item_written : goal.returns-clause-item_written
returns-clause-item_written c = row.item_written

pub returns-clause-print_ended : goal.returns-clause-print_ended
returns-clause-print_ended c = row.print_ended

pub returns-clause-ended : goal.returns-clause-ended
returns-clause-ended c = row.over
