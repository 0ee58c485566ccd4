use Rattle.std.proofs.Common.{ap, ◌∙◌, ◌+◌}
use Rattle.c_tree.specs.Flat as flat
use Rattle.c_tree.specs.Drafts.{drafted}
use Rattle.c_tree.specs.LinkedExpressions.{linked}
use Rattle.c_tree.specs.FlatForm.{one}
use Rattle.first_names.specs.FirstNames.{first_of}
use Rattle.linked_terms.specs.LinkedItems.{cases_of}
use Rattle.expression_linker.specs.NamesInScope.{scope_of}
use Rattle.flat_linker.specs.Parts.{jumps}
use Rattle.flat_linker.proofs.PutLaws.{body-more, body-same, seq-lost}
use Rattle.flat_linker.proofs.FormLaws.{switch-same}
use Rattle.flat_linker.proofs.statements.put_switch.Goals as goal

pub returns-in_err-put_select : goal.returns-in_err-put_select
returns-in_err-put_select c =
    body-same (scope_of c.args.known.now.scope.now) (first_of c.args.known.now.labels.now) c.from_residual-in_err-put_select.result _ _ c.args.out.now c.put_select.new.out
    (switch-same (scope_of c.args.known.now.scope.now) (first_of c.args.known.now.labels.now) c.args.value.now c.args.cases.now (cases_of c.in_ok-places.places) c.in_ok-first.first c.in_ok-otherwise.otherwise c.args.out.now (c.in_ok-first.ensures ∙ ap (λ n. n + 1) c.len.ensures) c.in_ok-otherwise.ensures c.in_ok-places.ensures)
    (seq-lost (scope_of c.args.known.now.scope.now) (first_of c.args.known.now.labels.now) c.from_residual-in_err-put_select.result _ (one (drafted (λ term. flat.Select term (cases_of c.in_ok-places.places) c.in_ok-otherwise.otherwise) (linked c.args.value.now))) (jumps c.args.cases.now) c.args.out.now c.put_select.new.out _ c.from_residual-in_err-put_select.ensures.1 c.in_err-put_select.ensures)

pub returns : goal.returns
returns c =
    body-same (scope_of c.args.known.now.scope.now) (first_of c.args.known.now.labels.now) c.put_case_jumps.result _ _ c.args.out.now c.put_case_jumps.new.out
    (switch-same (scope_of c.args.known.now.scope.now) (first_of c.args.known.now.labels.now) c.args.value.now c.args.cases.now (cases_of c.in_ok-places.places) c.in_ok-first.first c.in_ok-otherwise.otherwise c.args.out.now (c.in_ok-first.ensures ∙ ap (λ n. n + 1) c.len.ensures) c.in_ok-otherwise.ensures c.in_ok-places.ensures)
    (body-more (scope_of c.args.known.now.scope.now) (first_of c.args.known.now.labels.now) c.put_case_jumps.result (one (drafted (λ term. flat.Select term (cases_of c.in_ok-places.places) c.in_ok-otherwise.otherwise) (linked c.args.value.now))) (jumps c.args.cases.now) c.args.out.now c.put_select.new.out c.put_case_jumps.new.out c.in_ok-put_select.ensures (c.put_case_jumps.ensures (scope_of c.args.known.now.scope.now)))
