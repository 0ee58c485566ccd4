use Rattle.std.proofs.Common.{◌++◌, ◌∷◌, [], ◌+◌, List, take, refl, sym, ap, ◌∙◌, arith}
use Rattle.std.proofs.lemmas.List.{take_more}
use Rattle.statement_parts.proofs.found_rows.Walks.{walk_more, walk_end}
use Rattle.f_tree.specs.declared.statements.Stmt.{Stmt}
use Rattle.call_shapes.specs.Disagreements.{statement_findings, unit_findings}
use Rattle.call_check.proofs.FindingLaws.{statements_step, statements_end}
use Rattle.call_check.proofs.findings.add_statements.Goals as goal

pub loop-index-init : goal.loop-index-init
loop-index-init c = record { known = c.requires; rest = refl }

pub loop-index-preserved : goal.loop-index-preserved
loop-index-preserved c =
    let ps = c.args.counterparts.procedures.now in
    let ls = c.args.counterparts.lines.now in
    let u = c.args.unit.now in
    let ss = c.args.statements.now in
    let i = c.loop-index.index in
    let s = c.index-statements-index.result in
    record {
      known = c.in_ok-add_statement.ensures.known;
      rest = walk_more (unit_findings ps ls u) (statement_findings ps ls u) (λ (before : List Stmt) (t : Stmt). before ++ t ∷ []) (statements_step ps ls u) ss i s s
          (take i ss) (take (i + 1) ss) _ _ _ c.loop-index-test.true c.index-statements-index.is c.loop-index.invariant.rest c.in_ok-add_statement.ensures.findings
          (take_more ss i s c.loop-index-test.true ∙ ap (λ (t : Stmt). take i ss ++ t ∷ []) (sym c.index-statements-index.is));
    }

pub returns : goal.returns
returns c =
    let ps = c.args.counterparts.procedures.now in
    let ls = c.args.counterparts.lines.now in
    let u = c.args.unit.now in
    let ss = c.args.statements.now in
    walk_end (unit_findings ps ls u) (statement_findings ps ls u) (λ (before : List Stmt) (t : Stmt). before ++ t ∷ []) (statements_end ps ls u) ss c.loop-index.index
    (take c.loop-index.index ss) _ _ (omega arith) c.loop-index.invariant.rest
