use Rattle.call_shapes.specs.Disagreements.{disagreeing}
use Rattle.call_lines.specs.FindingLines.{finding_lines}
use Rattle.check_command.proofs.ListingLemmas.{none_put, listed_by}
use Rattle.check_command.proofs.listing.list_calls.Goals as goal

pub returns-in_err-findings : goal.returns-in_err-findings
returns-in_err-findings g c =
    none_put (disagreeing c.args.files.now c.args.shapes.now) (finding_lines c.args.names.now (disagreeing c.args.files.now c.args.shapes.now)) (g.H.Shelf.state c.args.shelf.now)
    c.from_residual.result c.from_residual.ensures.1

pub returns-in_err-lines : goal.returns-in_err-lines
returns-in_err-lines g c =
    none_put (disagreeing c.args.files.now c.args.shapes.now) (finding_lines c.args.names.now (disagreeing c.args.files.now c.args.shapes.now)) (g.H.Shelf.state c.args.shelf.now)
    c.from_residual-in_err-lines.result c.from_residual-in_err-lines.ensures.1

pub returns : goal.returns
returns g c =
    listed_by c.args.names.now (disagreeing c.args.files.now c.args.shapes.now) c.in_ok-findings.findings.items c.deref.result.now c.deref-2.result.now c.in_ok-lines.lines.items
    c.deref-3.result.now (g.H.Shelf.state c.args.shelf.now) (g.H.Shelf.state c.put_lines.new.shelf) c.put_lines.result c.in_ok-findings.ensures c.deref.ensures.value
    c.in_ok-lines.ensures c.deref-2.ensures.value c.deref-3.ensures.value c.put_lines.ensures
