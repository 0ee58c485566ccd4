use Rattle.std.proofs.Common.{ap, ◌∙◌}
use Rattle.std.specs.List.{list_all}
use Rattle.plain_names.specs.PlainStatements.{keeps_storage_apart}
use Rattle.plain_names.proofs.Statements.{storage-known}
use Rattle.plain_names.proofs.units.has_own_storage.Goals as goal

pub returns : goal.returns
returns c = c.keep_storage_apart.ensures ∙ ap (list_all keeps_storage_apart) c.as_slice.ensures ∙ storage-known c.args.unit.now
