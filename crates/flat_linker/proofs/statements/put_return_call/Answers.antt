use Rattle.c_tree.specs.Flat.{Returned, ReturnAnswer}
use Rattle.c_tree.specs.Drafts.{bare, drafted}
use Rattle.c_tree.specs.LinkedExpressions.{linked_call}
use Rattle.c_tree.specs.FlatForm.{one, invoked}
use Rattle.first_names.specs.FirstNames.{first_of}
use Rattle.expression_linker.specs.NamesInScope.{scope_of}
use Rattle.flat_linker.proofs.PutLaws.{body-more, seq-lost}
use Rattle.flat_linker.proofs.statements.put_return_call.Goals as goal

pub returns-in_err-put_call : goal.returns-in_err-put_call
returns-in_err-put_call c =
    seq-lost (scope_of c.args.known.now.scope.now) (first_of c.args.known.now.labels.now) c.from_residual.result _ (one (drafted (invoked Returned) (linked_call c.args.call.now))) (one (bare ReturnAnswer)) c.args.out.now c.put_call.new.out _ c.from_residual.ensures.1 c.in_err-put_call.ensures

pub returns : goal.returns
returns c =
    body-more (scope_of c.args.known.now.scope.now) (first_of c.args.known.now.labels.now) c.put.result (one (drafted (invoked Returned) (linked_call c.args.call.now))) (one (bare ReturnAnswer)) c.args.out.now c.put_call.new.out c.put.new.out c.in_ok-put_call.ensures c.put.ensures
