use Rattle.std.proofs.Common.{sym, ap, ◌∙◌, ◌++◌, arith, not, map}
use Rattle.std.proofs.lemmas.List.{drop_all}
use Rattle.found_rows.proofs.Walks.{walk_more, walk_end, comes_on}
use Rattle.f_tree.specs.declared.refusals.Kind.TheVariants.{TwoMainPrograms}
use Rattle.declaration_rows.specs.Judgement.{unless}
use Rattle.declaration_rows.specs.GlobalRows.{refused_at, main_rows}
use Rattle.set_judge.specs.GlobalSteps.{main_found}
use Rattle.set_judge.proofs.JudgeLemmas.{rows_of_unit, found_behind, mains_step, mains_none, found_step, found_none}
use Rattle.set_judge.proofs.judge.add_main_rows.Goals as goal

pub loop-unit-preserved : goal.loop-unit-preserved
loop-unit-preserved c =
    let u = c.unit-item.result in
    let before = c.loop-unit.found.items in
    record {
      rows = walk_more main_rows rows_of_unit found_behind mains_step c.args.units.now c.loop-unit.unit-index u _ _ _ _ _ _ c.loop-unit-test.true c.unit-item.is
          c.loop-unit.invariant.rows
          (c.in_ok-add_row.ensures ∙ ap (λ b. before ++ map (refused_at u.file u.card) (unless (not b) TwoMainPrograms)) c.is_second-second.ensures)
          c.has_stood-main.ensures;
      stood = comes_on main_found found_behind found_step c.args.units.now c.loop-unit.unit-index u _ _ _ _ c.loop-unit-test.true c.unit-item.is
          c.loop-unit.invariant.stood c.has_stood-main.ensures;
    }

pub returns-clause-rows : goal.returns-clause-rows
returns-clause-rows c =
    walk_end main_rows rows_of_unit found_behind mains_none c.args.units.now c.loop-unit.unit-index c.loop-unit.main _ _ (omega arith) c.loop-unit.invariant.rows

pub returns-clause-stood : goal.returns-clause-stood
returns-clause-stood c =
    sym (c.loop-unit.invariant.stood ∙ ap (main_found c.loop-unit.main) (drop_all c.loop-unit.unit-index c.args.units.now (omega arith)) ∙ found_none c.loop-unit.main)
