use Rattle.std.proofs.Common.{refl}
use Rattle.expression_linker.specs.NamesInScope.{scope_of}
use Rattle.flat_linker.proofs.BodyLaws.{linked-whole, unlinked-whole}
use Rattle.flat_linker.proofs.bodies.link_body.Goals as goal

pub returns-in_err-put_body : goal.returns-in_err-put_body
returns-in_err-put_body c =
    unlinked-whole c.from_residual-in_err-put_body.result c.args.list.now (scope_of c.args.scope.now) c.args.first_string c.in_ok-labels.labels _ c.put_body.new.out _ c.in_ok-labels.ensures c.new.ensures refl c.from_residual-in_err-put_body.ensures.1 c.in_err-put_body.ensures

pub returns : goal.returns
returns c =
    linked-whole c.args.list.now (scope_of c.args.scope.now) c.args.first_string c.in_ok-labels.labels _ c.put_body.new.out c.in_ok-labels.ensures c.new.ensures refl c.in_ok-put_body.ensures
