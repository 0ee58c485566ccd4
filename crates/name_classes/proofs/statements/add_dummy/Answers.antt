use Rattle.std.proofs.Common.{◌∷◌, [], sym, ap, ◌∙◌}
use Rattle.f_tree.specs.Values.{Bytes}
use Rattle.name_uses.proofs.ArrayLemmas.{adds_none, adds_one}
use Rattle.name_classes.specs.StatedNames.{dummy_name}
use Rattle.name_classes.proofs.StatementForms.{dummy-Named, dummy-Alternate}
use Rattle.name_classes.proofs.statements.add_dummy.Goals as goal

pub returns-in-Named : goal.returns-in-Named
returns-in-Named c =
    adds_one c.add.result c.args.names.now c.add.new.self _ _ (ap (λ (x : Bytes). x ∷ []) c.as_slice.ensures ∙ sym (dummy-Named c.in-Named.name) ∙ ap dummy_name (sym c.in-Named.is))
    c.add.ensures.names c.add.ensures.is_set

pub returns-in-AlternateReturn : goal.returns-in-AlternateReturn
returns-in-AlternateReturn c = adds_none c.args.names.now _ c.requires (ap dummy_name c.in-AlternateReturn.is ∙ dummy-Alternate)
