use Rattle.std.proofs.Common.{drop}
use Rattle.c_tree.specs.FlatForm.{body_of_all}
use Rattle.first_names.specs.FirstNames.{first_of}
use Rattle.expression_linker.specs.NamesInScope.{scope_of}
use Rattle.flat_linker.proofs.Completing.{CompletesIn}
use Rattle.flat_linker.proofs.statements.+statement.Given as goal

abbrev pub invariant-put_statements-loop-one : goal.invariant-put_statements-loop-one
invariant-put_statements-loop-one l = CompletesIn (body_of_all l.list) (body_of_all (drop l.one-index l.list)) (scope_of l.known.scope.now) (first_of l.known.labels.now) l.initial.out l.out
