use Rattle.std.proofs.Common.{◌≡◌, true, drop}
use Rattle.f_tree.specs.Terms.{terms, any_refers}
use Rattle.f_tree.specs.Lines.{Naming, arguments_of}
use Rattle.expression_lowering.specs.TableNames.{AreFactsOf}
use Rattle.statement_lowering.specs.LoweredTransfers.{call_lowers}
use Rattle.statement_lowering.proofs.calls.any_refers.Given as goal

abbrev pub invariant-loop-e : goal.invariant-loop-e
invariant-loop-e l = record {
  covered : call_lowers l.table (drop l.e-index l.es) ≡ true;
  same :
      (names : Naming) → AreFactsOf names l.table →
      any_refers (terms (arguments_of names (drop l.e-index l.es))) ≡ any_refers (terms (arguments_of names l.es));
}
