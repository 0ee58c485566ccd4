use Rattle.std.proofs.Common.{sym, ap, ◌∙◌}
use Rattle.f_tree.specs.Attributes.{constants_in}
use Rattle.decl_table.proofs.ConstantLemmas.{defines-as, defines-other, constants-Parameter, constants-other}
use Rattle.decl_table.proofs.constants.define_in.Goals as goal

pub returns-in-Parameter : goal.returns-in-Parameter
returns-in-Parameter c =
    defines-as c.define_items.result c.args.unit.now _ _ _ _ (c.as_slice.ensures ∙ constants-Parameter c.in-Parameter.items ∙ ap constants_in (sym c.in-Parameter.is)) c.define_items.ensures

pub returns-in_default : goal.returns-in_default
returns-in_default c = defines-other c.args.unit.now c.args.constants.now _ (constants-other c.args.body.now c.in_default.not-Parameter)
