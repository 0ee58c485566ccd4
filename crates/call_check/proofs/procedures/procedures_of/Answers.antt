use Rattle.std.proofs.Common.{List, ◌++◌, sym, ap, ◌∙◌, arith}
use Rattle.statement_parts.proofs.found_rows.Walks.{each_more, each_end}
use Rattle.f_tree.specs.declared.units.File.{File}
use Rattle.f_tree.specs.declared.units.Unit.{Unit as WrittenUnit}
use Rattle.call_shapes.specs.declaration_rows.GlobalRows.{all_units}
use Rattle.call_shapes.specs.declared.shapes.NamedShape.{NamedShape}
use Rattle.call_shapes.specs.ProcedureShapes.{procedures_of}
use Rattle.call_check.proofs.ProcedureLaws.{files_step, files_end}
use Rattle.call_check.proofs.procedures.procedures_of.Goals as goal

pub loop-file-init : goal.loop-file-init
loop-file-init c = ap (λ (ps : List NamedShape). ps ++ procedures_of (all_units c.args.files.now)) (sym c.new-shapes.ensures.items)

pub loop-file-preserved : goal.loop-file-preserved
loop-file-preserved c =
    each_more (λ (fs : List File). procedures_of (all_units fs)) (λ (f : File). procedures_of f.units) files_step c.args.files.now c.loop-file.file-index c.file-item.result
    _ _ _ _ c.loop-file-test.true c.file-item.is c.loop-file.invariant
    (c.in_ok-add_units.ensures ∙ ap (λ (us : List WrittenUnit). c.loop-file.shapes.items ++ procedures_of us) c.as_slice.ensures)

pub returns : goal.returns
returns c =
    each_end (λ (fs : List File). procedures_of (all_units fs)) (λ (f : File). procedures_of f.units) files_end c.args.files.now c.loop-file.file-index _ _ (omega arith)
    c.loop-file.invariant
