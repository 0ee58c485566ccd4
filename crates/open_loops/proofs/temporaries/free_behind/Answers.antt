use Rattle.open_loops.proofs.TemporaryLemmas.{inside_of, refused_at, inside_other}
use Rattle.open_loops.proofs.temporaries.free_behind.Goals as goal

pub returns-in-Do-clause-free : goal.returns-in-Do-clause-free
returns-in-Do-clause-free c = inside_of c.args.table.now c.args.free c.args.body.now c.in-Do.field-0 c.in-Do.control c.free_inside.result c.in-Do.is c.free_inside.ensures

pub returns-in-Do-clause-refused : goal.returns-in-Do-clause-refused
returns-in-Do-clause-refused c = refused_at c.args.table.now c.args.free c.args.body.now c.in-Do.field-0 c.in-Do.control c.free_inside.result c.in-Do.is c.free_inside.ensures

pub returns-in_default-clause-free : goal.returns-in_default-clause-free
returns-in_default-clause-free c = inside_other c.args.table.now c.args.free c.args.body.now c.in_default.not-Do
