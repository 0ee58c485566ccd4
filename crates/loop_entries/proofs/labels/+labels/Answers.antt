use Rattle.std.proofs.Common.{List, ◌++◌, map, sym, ap, ◌∙◌, arith}
use Rattle.loop_ranges.proofs.found_rows.Walks.{each_more, each_end, put_as, put_two}
use Rattle.f_tree.specs.declared.expressions.Expr.{Expr}
use Rattle.loop_entries.specs.PassedLabels.{told_by, joined, labels_of}
use Rattle.loop_entries.proofs.LabelForms.{nothing_added, joined_step, joined_none, labels-Bind, none-Text}
use Rattle.loop_entries.proofs.TellsLemmas.{applied_free, applied_bound, applied_none, applied_some}
use Rattle.loop_entries.proofs.labels.+labels.Goals as goal

pub add_applied-returns-then-is_among : goal.add_applied-returns-then-is_among
add_applied-returns-then-is_among t c =
    put_as c.add_each.result _ _ _ _ (applied_bound (told_by c.args.scope.now) c.args.name.now (map (labels_of (told_by c.args.scope.now)) c.args.es.now) (sym c.is_among.ensures ∙ c.if-is_among.true)) c.add_each.ensures

pub add_applied-returns-in_ok-add_each-in-Some : goal.add_applied-returns-in_ok-add_each-in-Some
add_applied-returns-in_ok-add_each-in-Some t c =
    let told = told_by c.args.scope.now in
    let more = map (labels_of told) c.args.es.now in
    put_two c.add_all.result _ _ _ (joined more) c.in-Some.own.now _ c.in_ok-add_each-in-Some.ensures c.add_all.ensures
    (applied_some _ c.in-Some.own.now more (sym c.in-Some.ensures) ∙ applied_free told c.args.name.now more (sym c.is_among.ensures ∙ c.if-is_among.false))

pub add_applied-returns-in-None : goal.add_applied-returns-in-None
add_applied-returns-in-None t c =
    let told = told_by c.args.scope.now in
    let more = map (labels_of told) c.args.es.now in
    nothing_added _ _ (sym (applied_free told c.args.name.now more (sym c.is_among.ensures ∙ c.if-is_among.false)) ∙ applied_none _ more (sym c.in-None.ensures))

pub add_each-loop-e-preserved : goal.add_each-loop-e-preserved
add_each-loop-e-preserved t c =
    let told = told_by c.args.scope.now in
    each_more (λ (es : List Expr). joined (map (labels_of told) es)) (labels_of told) (joined_step told) c.args.es.now c.loop-e.e-index c.e-item.result _ _ _ _ c.loop-e-test.true c.e-item.is
    c.loop-e.invariant c.in_ok-add_labels.ensures

pub add_each-returns : goal.add_each-returns
add_each-returns t c =
    let told = told_by c.args.scope.now in
    each_end (λ (es : List Expr). joined (map (labels_of told) es)) (labels_of told) (joined_none told) c.args.es.now c.loop-e.e-index _ _ (omega arith) c.loop-e.invariant

pub add_labels-returns-in_ok-add_each-in-Bind : goal.add_labels-returns-in_ok-add_each-in-Bind
add_labels-returns-in_ok-add_each-in-Bind t c =
    let told = told_by c.args.scope.now in
    put_two c.add_labels.result _ _ _ (joined (map (labels_of told) c.as_slice-in-Bind.result.now)) (labels_of told c.get.result.now) _ c.in_ok-add_each-in-Bind.ensures
    c.add_labels.ensures
    (ap (λ (es : List Expr). joined (map (labels_of told) es) ++ labels_of told c.get.result.now) c.as_slice-in-Bind.ensures
    ∙ ap (λ (e : Expr). joined (map (labels_of told) c.in-Bind.es) ++ labels_of told e) c.get.ensures ∙ sym (labels-Bind told c.in-Bind.es c.in-Bind.body) ∙ ap (labels_of told) (sym c.in-Bind.is))

pub add_labels-returns-in-Text : goal.add_labels-returns-in-Text
add_labels-returns-in-Text t c = none-Text (told_by c.args.scope.now) _ c.args.e.now c.in-Text.field-0 c.in-Text.is
