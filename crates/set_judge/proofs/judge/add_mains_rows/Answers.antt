use Rattle.std.proofs.Common.{ap, ◌∙◌, ◌++◌, arith}
use Rattle.found_rows.proofs.Walks.{walk_more, walk_end}
use Rattle.f_tree.specs.declared.units.File.{File}
use Rattle.declaration_rows.specs.GlobalRows.{main_rows}
use Rattle.set_judge.specs.GlobalSteps.{main_found}
use Rattle.set_judge.proofs.JudgeLemmas.{rows_of_files, files_mains_step, files_mains_none}
use Rattle.set_judge.proofs.judge.add_mains_rows.Goals as goal

pub loop-file-preserved : goal.loop-file-preserved
loop-file-preserved c =
    walk_more rows_of_files (λ found (f : File). main_rows found f.units) (λ found (f : File). main_found found f.units) files_mains_step c.args.files.now
    c.loop-file.file-index c.file-item.result _ _ _ _ _ _ c.loop-file-test.true c.file-item.is c.loop-file.invariant
    (c.in_ok-main.ensures.rows ∙ ap (λ us. c.loop-file.found.items ++ main_rows c.loop-file.main us) c.as_slice.ensures)
    (c.in_ok-main.ensures.stood ∙ ap (main_found c.loop-file.main) c.as_slice.ensures)

pub returns : goal.returns
returns c =
    walk_end rows_of_files (λ found (f : File). main_rows found f.units) (λ found (f : File). main_found found f.units) files_mains_none c.args.files.now
    c.loop-file.file-index c.loop-file.main _ _ (omega arith) c.loop-file.invariant
