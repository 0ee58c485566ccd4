use Rattle.std.proofs.Common.{◌≡◌, drop}
use Rattle.f_tree.specs.declared.names.Options.{Options}
use Rattle.declaration_rows.specs.Verdicts.{first_of}
use Rattle.refusal_order.specs.Earliest.{earliest}
use Rattle.statements_judge.proofs.RowLemmas.{rows_from}
use Rattle.statements_judge.proofs.judge.statements_fault.Given as goal

abbrev pub invariant-loop-place : goal.invariant-loop-place
invariant-loop-place l = (options : Options) →
    first_of (rows_from options l.unit 0 l.unit.statements) ≡ earliest l.first (first_of (rows_from options l.unit l.place (drop l.place l.unit.statements)))
