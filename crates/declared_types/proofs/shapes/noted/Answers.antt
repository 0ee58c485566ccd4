use Rattle.std.proofs.Common.{sym, ◌∙◌}
use Rattle.declared_types.proofs.ShapeLemmas.{found_value, no_value}
use Rattle.declared_types.proofs.shapes.noted.Goals as goal

pub returns-in-Some : goal.returns-in-Some
returns-in-Some c = found_value c.args.shapes.now c.args.name.now c.get.result _ c.get.ensures c.in-Some.is

pub returns-in-None : goal.returns-in-None
returns-in-None c = no_value c.args.shapes.now c.args.name.now (sym c.get.ensures ∙ c.in-None.is)
