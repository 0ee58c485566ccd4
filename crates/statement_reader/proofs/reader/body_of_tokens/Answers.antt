use Rattle.std.proofs.Common.{sym, ◌∙◌}
use Rattle.statement_reader.proofs.ReaderLemmas.{stands_not}
use Rattle.statement_reader.proofs.reader.body_of_tokens.Goals as goal

pub returns-else-may_stand : goal.returns-else-may_stand
returns-else-may_stand c = stands_not c.args.kind c.args.source.now c.args.list.now c.requires (sym c.may_stand.ensures ∙ c.if-may_stand.false)
