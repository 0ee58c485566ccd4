use Rattle.std.proofs.Common.{List, map, sym, ap, ◌∙◌, arith}
use Rattle.std.proofs.lemmas.List.{drop_all}
use Rattle.found_rows.proofs.Walks.{comes_on}
use Rattle.f_tree.specs.declared.expressions.Expr.{Expr}
use Rattle.expansion_judge.specs.declared.counts.Counted.{Counted}
use Rattle.expansion_judge.specs.NodesCounted.{onward, with_part, count_by}
use Rattle.expansion_judge.proofs.CountForms.{counts-Part, onward_step, onward_end}
use Rattle.expansion_judge.proofs.counts.+count.Goals as goal

pub count_nodes-returns-in-Part : goal.count_nodes-returns-in-Part
count_nodes-returns-in-Part t c =
    let form = counts-Part c.args.functions.now c.in-Part.base c.in-Part.from c.in-Part.to in
    let whole = ap (count_by c.args.functions.now) c.in-Part.is in
    cc

pub count_list-loop-e-preserved : goal.count_list-loop-e-preserved
count_list-loop-e-preserved t c =
    let functions = c.args.functions.now in
    comes_on (λ (s : Counted) (es : List Expr). onward s (map (count_by functions) es)) (λ (s : Counted) (e : Expr). with_part s (count_by functions e)) (onward_step functions)
    c.args.es.now c.loop-e.e-index c.e-item.result _ c.loop-e.counted _ _ c.loop-e-test.true c.e-item.is c.loop-e.invariant
    (c.with_part-counted.ensures ∙ ap (with_part c.loop-e.counted) c.count_nodes.ensures)

pub count_list-returns : goal.count_list-returns
count_list-returns t c =
    let functions = c.args.functions.now in
    sym (c.loop-e.invariant ∙ ap (λ (es : List Expr). onward c.loop-e.counted (map (count_by functions) es)) (drop_all c.loop-e.e-index c.args.es.now (omega arith))
    ∙ onward_end functions c.loop-e.counted)
