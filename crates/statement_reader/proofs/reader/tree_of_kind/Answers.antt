use Rattle.std.proofs.Common.{subst, Err}
use Rattle.statement_reader.specs.ReadStatements.{IsBody}
use Rattle.statement_reader.proofs.ReaderLemmas.{refused_row, spelled_tree}
use Rattle.statement_reader.proofs.reader.tree_of_kind.Goals as goal

pub returns-in-Err-Refused : goal.returns-in-Err-Refused
returns-in-Err-Refused c =
    refused_row c.args.first c.args.kind c.args.source.now c.in-Err-Refused.row c.refused.result c.refused.ensures c.requires
    (subst (λ f. IsBody c.args.kind c.args.source.now (Err f)) c.in-Err-Refused.field-0-is c.in-Err-Refused.ensures)

pub returns-in-Ok : goal.returns-in-Ok
returns-in-Ok c = spelled_tree c.args.first c.args.kind c.args.source.now c.in-Ok.body c.requires c.in-Ok.ensures
