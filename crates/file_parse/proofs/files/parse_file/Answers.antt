use Rattle.std.proofs.Common.{subst, Ok, Err}
use Rattle.file_parse.specs.ReadSoFar.{AreUnits}
use Rattle.file_parse.proofs.FirstRowLemmas.{file_read, file_refused}
use Rattle.file_parse.proofs.files.parse_file.Goals as goal

pub returns-in-Ok : goal.returns-in-Ok
returns-in-Ok c =
    file_read c.args.cards.now.statements c.in-Ok.units (subst (λ sources. AreUnits sources (Ok c.in-Ok.units)) c.statements.ensures c.in-Ok.ensures)

pub returns-in-Err : goal.returns-in-Err
returns-in-Err c =
    file_refused c.args.cards.now.statements c.in-Err.fail (subst (λ sources. AreUnits sources (Err c.in-Err.fail)) c.statements.ensures c.in-Err.ensures)
