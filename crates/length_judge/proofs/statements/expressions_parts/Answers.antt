use Rattle.std.proofs.Common.{List, map, sym, ap, ◌∙◌, arith}
use Rattle.std.proofs.lemmas.List.{drop_all}
use Rattle.std.specs.Borrow.{Bor}
use Rattle.found_rows.proofs.Walks.{comes_on}
use Rattle.f_tree.specs.declared.expressions.Expr.{Expr}
use Rattle.statement_parts.specs.TreesSeen.{trees}
use Rattle.length_judge.specs.declared.lengths.Parts.{Parts}
use Rattle.length_judge.specs.FaultsSeen.{parts_in}
use Rattle.length_judge.specs.LengthsSeen.{lengths_in, with_part, onward}
use Rattle.length_judge.proofs.LengthForms.{list_step, list_end}
use Rattle.length_judge.proofs.statements.expressions_parts.Goals as goal

pub loop-e-preserved : goal.loop-e-preserved
loop-e-preserved c =
    let names = c.args.names.now in
    comes_on (λ (p : Parts) (es : List (Bor Expr)). onward p (map (lengths_in names) (trees es))) (λ (p : Parts) (e : Bor Expr). with_part p (lengths_in names e.now))
    (λ (p : Parts) (e : Bor Expr) (es : List (Bor Expr)). list_step names p e.now (trees es))
    c.args.es.now c.loop-e.e-index c.e-item.result _ c.loop-e.parts _ _ c.loop-e-test.true c.e-item.is c.loop-e.invariant
    (c.with_part-parts.ensures ∙ ap (with_part c.loop-e.parts) c.in_ok-lengths.ensures)

pub returns : goal.returns
unfolding parts_in
returns c =
    let names = c.args.names.now in
    sym (c.loop-e.invariant ∙ ap (λ (es : List (Bor Expr)). onward c.loop-e.parts (map (lengths_in names) (trees es))) (drop_all c.loop-e.e-index c.args.es.now (omega arith))
    ∙ list_end names c.loop-e.parts)
