use Rattle.std.proofs.Common.{◌++◌, refl, sym, ap, ◌∙◌, arith}
use Rattle.found_rows.proofs.Walks.{each_more, each_end}
use Rattle.f_tree.specs.declared.units.File.{File}
use Rattle.declaration_rows.specs.GlobalRows.{all_units, globals_of}
use Rattle.set_judge.specs.GlobalSteps.{globals_in}
use Rattle.set_judge.proofs.NameLemmas.{files_step}
use Rattle.set_judge.proofs.globals.global_names.Goals as goal

pub loop-file-init : goal.loop-file-init
loop-file-init c = ap (λ gs. globals_in gs ++ globals_of (all_units c.args.files.now)) (sym c.new-names.ensures.items)

pub loop-file-preserved : goal.loop-file-preserved
loop-file-preserved c =
    each_more (λ fs. globals_of (all_units fs)) (λ (f : File). globals_of f.units) files_step c.args.files.now c.loop-file.file-index c.file-item.result _ _ _ _
    c.loop-file-test.true c.file-item.is c.loop-file.invariant
    (c.in_ok-add_units_names.ensures ∙ ap (λ us. globals_in c.loop-file.names.items ++ globals_of us) c.as_slice.ensures)

pub returns : goal.returns
unfolding globals_of all_units
returns c =
    each_end (λ fs. globals_of (all_units fs)) (λ (f : File). globals_of f.units) refl c.args.files.now c.loop-file.file-index _ _ (omega arith) c.loop-file.invariant
