use Rattle.std.proofs.Common.{ap, ◌∙◌, ◌+◌, length}
use Rattle.c_tree.specs.FlatForm.{body_of_all}
use Rattle.first_names.specs.FirstNames.{first_of}
use Rattle.expression_linker.specs.NamesInScope.{scope_of}
use Rattle.flat_linker.proofs.FormLaws.{tested-as}
use Rattle.flat_linker.proofs.statements.put_test.Goals as goal

pub returns : goal.returns
returns c =
    tested-as (scope_of c.args.known.now.scope.now) (first_of c.args.known.now.labels.now) c.put_branch.result c.args.test.now c.in_ok-on.on c.in_ok-off.off (length c.args.out.now.items) (body_of_all c.args.arm.now).size c.args.gap c.args.out.now c.put_branch.new.out
    (c.in_ok-on.ensures ∙ ap (λ n. n + 1) c.len.ensures)
    (c.in_ok-off.ensures ∙ ap (λ n. n + c.args.gap) (c.in_ok-behind.ensures ∙ ap (λ n. n + c.in_ok-statements_size.field-0) (c.in_ok-on.ensures ∙ ap (λ n. n + 1) c.len.ensures) ∙ ap (λ n. length c.args.out.now.items + 1 + n) c.in_ok-statements_size.ensures))
    c.put_branch.ensures
