use Rattle.std.proofs.Common.{◌≡◌, ◌++◌, [], List, drop}
use Rattle.declaration_rows.specs.GivenRows.{Given, heading_givens, kept_from, given_rows_from}
use Rattle.given_judge.specs.KeptSeen.{IsKept}
use Rattle.given_judge.proofs.given_rows.add_given_rows.Given as goal

abbrev pub invariant-loop-statement : goal.invariant-loop-statement
invariant-loop-statement l = record {
  before : List Given;
  is_kept : IsKept l.kept before;
  rows : l.initial.found.items ++ given_rows_from l.unit (kept_from [] (heading_givens l.unit)).givens l.statement-items
      ≡ l.found.items ++ given_rows_from l.unit before (drop l.statement-index l.statement-items);
}
