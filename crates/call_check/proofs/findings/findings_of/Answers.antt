use Rattle.std.proofs.Common.{List, ◌++◌, sym, ap, ◌∙◌, arith}
use Rattle.statement_parts.proofs.found_rows.Walks.{each_more, each_end}
use Rattle.f_tree.specs.declared.units.File.{File}
use Rattle.f_tree.specs.declared.units.Unit.{Unit as WrittenUnit}
use Rattle.call_shapes.specs.declaration_rows.GlobalRows.{all_units}
use Rattle.call_shapes.specs.declared.findings.Finding.{Finding}
use Rattle.call_shapes.specs.Disagreements.{units_findings}
use Rattle.call_check.proofs.FindingLaws.{files_step, files_end}
use Rattle.call_check.proofs.findings.findings_of.Goals as goal

pub loop-file-init : goal.loop-file-init
loop-file-init c =
    ap (λ (fs : List Finding). fs ++ units_findings c.args.counterparts.procedures.now c.args.counterparts.lines.now (all_units c.args.files.now)) (sym c.new-findings.ensures.items)

pub loop-file-preserved : goal.loop-file-preserved
loop-file-preserved c =
    let ps = c.args.counterparts.procedures.now in
    let ls = c.args.counterparts.lines.now in
    each_more (λ (fs : List File). units_findings ps ls (all_units fs)) (λ (f : File). units_findings ps ls f.units) (files_step ps ls) c.args.files.now c.loop-file.file-index c.file-item.result
    _ _ _ _ c.loop-file-test.true c.file-item.is c.loop-file.invariant
    (c.in_ok-add_units.ensures ∙ ap (λ (us : List WrittenUnit). c.loop-file.findings.items ++ units_findings ps ls us) c.as_slice.ensures)

pub returns : goal.returns
returns c =
    let ps = c.args.counterparts.procedures.now in
    let ls = c.args.counterparts.lines.now in
    each_end (λ (fs : List File). units_findings ps ls (all_units fs)) (λ (f : File). units_findings ps ls f.units) (files_end ps ls) c.args.files.now c.loop-file.file-index _ _ (omega arith)
    c.loop-file.invariant
