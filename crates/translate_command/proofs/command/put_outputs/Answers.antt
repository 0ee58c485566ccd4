use Rattle.std.proofs.Common.{◌≡◌, Err, rules, subst}
use Rattle.translate_command.specs.OldPrototypes.{AreCompared}
use Rattle.translate_command.specs.SourceTexts.{AreOutputsWritten, put, not_compared}
use Rattle.translate_command.proofs.command.put_outputs.Goals as goal

pub returns-in_err-same : goal.returns-in_err-same
returns-in_err-same g c =
    not_compared c.in_err-same.field-0.0 (let e : c.from_residual.result ≡ Err c.in_err-same.field-0.0 = search rules in e) c.in_err-same.ensures.err

pub returns : goal.returns
returns g c =
    put c.in_ok-same.same (g.H.Shelf.state c.are_as_before.new.shelf)
    (subst (λ lists. AreCompared c.args.olds.now lists c.in_ok-same.same (g.H.Shelf.state c.args.shelf.now) (g.H.Shelf.state c.are_as_before.new.shelf)) c.as_slice-lists.ensures
    c.in_ok-same.ensures.ok)
    (subst (λ outputs. AreOutputsWritten c.args.tos outputs c.in_ok-same.same (g.H.Shelf.state c.are_as_before.new.shelf) (g.H.Shelf.state c.write_outputs.new.shelf) c.write_outputs.result)
    c.as_slice-outputs.ensures c.write_outputs.ensures)
