use Rattle.std.proofs.Common.{sym, ◌∙◌, None, Ok}
use Rattle.c_tree.specs.Flat.{Return}
use Rattle.c_tree.specs.Drafts.{bare}
use Rattle.c_tree.specs.FlatForm.{one, body_of_all, whole_body}
use Rattle.first_names.specs.FirstNames.{first_of}
use Rattle.expression_linker.specs.NamesInScope.{scope_of}
use Rattle.flat_linker.proofs.PutLaws.{body-as, body-more}
use Rattle.flat_linker.proofs.BodyLaws.{whole-ended, whole-open, whole-lost}
use Rattle.flat_linker.proofs.bodies.put_body.Goals as goal

pub returns-in_err-put_statements : goal.returns-in_err-put_statements
returns-in_err-put_statements c =
    whole-lost (scope_of c.args.known.now.scope.now) (first_of c.args.known.now.labels.now) c.from_residual.result _ c.args.list.now c.args.out.now c.put_statements.new.out _ c.from_residual.ensures.1 c.in_err-put_statements.ensures

pub returns-then-ends : goal.returns-then-ends
returns-then-ends c =
    body-as (scope_of c.args.known.now.scope.now) (first_of c.args.known.now.labels.now) (Ok tt) (body_of_all c.args.list.now) (whole_body c.args.list.now) c.args.out.now c.put_statements.new.out (whole-ended c.args.list.now (sym c.ends.ensures ∙ c.if-ends.true)) c.in_ok-put_statements.ensures

pub returns : goal.returns
returns c =
    body-as (scope_of c.args.known.now.scope.now) (first_of c.args.known.now.labels.now) c.put.result _ (whole_body c.args.list.now) c.args.out.now c.put.new.out (whole-open c.args.list.now (sym c.ends.ensures ∙ c.if-ends.false))
    (body-more (scope_of c.args.known.now.scope.now) (first_of c.args.known.now.labels.now) c.put.result (body_of_all c.args.list.now) (one (bare (Return None))) c.args.out.now c.put_statements.new.out c.put.new.out c.in_ok-put_statements.ensures c.put.ensures)
