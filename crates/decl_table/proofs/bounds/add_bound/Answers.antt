use Rattle.name_table.specs.Named.{names_in}
use Rattle.decl_table.proofs.BoundLemmas.{bound-added}
use Rattle.decl_table.proofs.bounds.add_bound.Goals as goal

pub returns : goal.returns
returns c =
    bound-added c.add_between.result c.args.constants.now (names_in c.args.functions.now) c.args.bounds.now _ c.args.dimension.now c.in_ok-lower.lower c.in_ok-upper.upper
    c.in_ok-lower.ensures c.in_ok-upper.ensures c.add_between.ensures
