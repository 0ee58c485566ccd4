use Rattle.std.proofs.Common.{List, ℕ, ◌++◌, ap, ◌∙◌}
use Rattle.std.specs.List.{list_all}
use Rattle.std.proofs.lemmas.Result.{IfOk-weaker}
use Rattle.loop_entries.specs.PassedLabels.{told_by, labels_of}
use Rattle.loop_entries.proofs.FunctionLaws.{fitted_labels, free_labels}
use Rattle.loop_entries.proofs.functions.value_labels.Goals as goal

pub returns-then-is_fitted : goal.returns-then-is_fitted
returns-then-is_fitted c = λ known.
    ap (list_all known) (c.new-labels.ensures.items ∙ fitted_labels (told_by c.args.scope.now) c.args.name.now c.args.value.now c.is_fitted.result c.is_fitted.ensures c.if-is_fitted.true)

pub returns : goal.returns
returns c =
    let told = told_by c.args.scope.now in
    IfOk-weaker c.each_once.result _ _
    (λ once same known. same known
    ∙ ap (list_all known)
    (c.as_slice.ensures.value ∙ c.in_ok-add_labels.ensures ∙ ap (λ (ls : List ℕ). ls ++ labels_of told c.args.value.now) c.new-labels.ensures.items
    ∙ free_labels told c.args.name.now c.args.value.now c.is_fitted.result c.is_fitted.ensures c.if-is_fitted.false))
    c.each_once.ensures
