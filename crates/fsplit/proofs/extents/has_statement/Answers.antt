use Rattle.std.proofs.Common.{sym, ◌∙◌}
use Rattle.fsplit.proofs.PieceLemmas.{begins_nowhere, is_none}
use Rattle.fsplit.proofs.extents.has_statement.Goals as goal

pub returns : goal.returns
returns c =
    sym (c.loop-rest.invariant ∙ begins_nowhere c.loop-rest.rest.now (is_none c.is_empty.result c.loop-rest.rest.now c.is_empty.ensures c.loop-rest-test.false))
