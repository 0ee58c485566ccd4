use Rattle.std.proofs.Common.{slice_get}
use Rattle.std.proofs.lemmas.Result.{IfOk-weaker}
use Rattle.open_loops.proofs.TemporaryLemmas.{at_statement, at_none, refused_among}
use Rattle.open_loops.proofs.temporaries.free_at_loop.Goals as goal

pub returns-in-Some-clause-free : goal.returns-in-Some-clause-free
returns-in-Some-clause-free c =
    IfOk-weaker c.free_behind.result _ _
    (λ inside free. at_statement c.args.table.now c.args.free c.in-Some.statement.now (slice_get c.args.statements.now c.args.first) inside c.in-Some.ensures free)
    c.free_behind.ensures.free

pub returns-in-Some-clause-refused : goal.returns-in-Some-clause-refused
returns-in-Some-clause-refused c = λ e.
    refused_among c.args.table.now c.args.statements.now c.args.first c.in-Some.statement.now c.in-Some.ensures (c.free_behind.ensures.refused e)

pub returns-in-None-clause-free : goal.returns-in-None-clause-free
returns-in-None-clause-free c = at_none c.args.table.now c.args.free (slice_get c.args.statements.now c.args.first) c.in-None.ensures
