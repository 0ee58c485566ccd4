use Rattle.std.proofs.Common.{false, subst, Ok, Err}
use Rattle.file_parse.specs.ReadSoFar.{AreTrees}
use Rattle.file_parse.proofs.FirstRowLemmas.{part_read, part_refused}
use Rattle.file_parse.proofs.files.parse_part.Goals as goal

pub returns-in_ok-from_slice-in-Ok : goal.returns-in_ok-from_slice-in-Ok
returns-in_ok-from_slice-in-Ok c =
    part_read c.args.name.now c.in_ok-from_slice-in-Ok.field-0 c.args.cards.now.statements c.in-Ok.statements c.in_ok-from_slice-in-Ok.ensures
    (subst (λ sources. AreTrees false sources (Ok c.in-Ok.statements)) c.statements.ensures c.in-Ok.ensures)

pub returns-in-Err : goal.returns-in-Err
returns-in-Err c =
    part_refused c.args.name.now c.args.cards.now.statements c.in-Err.fail
    (subst (λ sources. AreTrees false sources (Err c.in-Err.fail)) c.statements.ensures c.in-Err.ensures)
