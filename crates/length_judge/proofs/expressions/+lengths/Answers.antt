use Rattle.std.proofs.Common.{List, map, sym, ap, ◌∙◌, arith}
use Rattle.std.proofs.lemmas.List.{drop_all}
use Rattle.found_rows.proofs.Walks.{comes_on}
use Rattle.f_tree.specs.declared.expressions.Expr.{Expr}
use Rattle.length_judge.specs.declared.lengths.Parts.{Parts}
use Rattle.length_judge.specs.LengthsSeen.{lengths_in, with_part, onward}
use Rattle.length_judge.proofs.LengthForms.{list_step, list_end}
use Rattle.length_judge.proofs.expressions.+lengths.Goals as goal

pub list_parts-loop-e-preserved : goal.list_parts-loop-e-preserved
list_parts-loop-e-preserved t c =
    let names = c.args.names.now in
    comes_on (λ (p : Parts) (es : List Expr). onward p (map (lengths_in names) es)) (λ (p : Parts) (e : Expr). with_part p (lengths_in names e)) (list_step names)
    c.args.es.now c.loop-e.e-index c.e-item.result _ c.loop-e.parts _ _ c.loop-e-test.true c.e-item.is c.loop-e.invariant
    (c.with_part-parts.ensures ∙ ap (with_part c.loop-e.parts) c.in_ok-lengths.ensures)

pub list_parts-returns : goal.list_parts-returns
list_parts-returns t c =
    let names = c.args.names.now in
    sym (c.loop-e.invariant ∙ ap (λ (es : List Expr). onward c.loop-e.parts (map (lengths_in names) es)) (drop_all c.loop-e.e-index c.args.es.now (omega arith)) ∙ list_end names c.loop-e.parts)
