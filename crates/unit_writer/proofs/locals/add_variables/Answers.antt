use Rattle.std.proofs.Common.{refl, arith}
use Rattle.unit_writer.proofs.LocalLaws.{local_alone, locals_behind, locals_end, locals_step}
use Rattle.unit_writer.proofs.Walks.{each_end, each_more}
use Rattle.unit_writer.proofs.locals.add_variables.Goals as goal

pub loop-name-preserved : goal.loop-name-preserved
loop-name-preserved c =
    each_more (locals_behind c.args.table.now) (local_alone c.args.table.now) (locals_step c.args.table.now) c.args.names.now c.loop-name.name-index _ _ _ _ _ c.loop-name-test.true refl c.loop-name.invariant
    c.in_ok-add_variable.ensures

pub returns : goal.returns
returns c = each_end (locals_behind c.args.table.now) (local_alone c.args.table.now) (locals_end c.args.table.now) c.args.names.now c.loop-name.name-index _ _ (omega arith) c.loop-name.invariant
