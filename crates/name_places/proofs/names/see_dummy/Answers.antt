use Rattle.std.proofs.Common.{List, ◌∷◌, [], ap, sym, ◌∙◌}
use Rattle.f_tree.specs.Values.{Bytes}
use Rattle.name_table.specs.Named.{texts}
use Rattle.name_places.specs.SeenNames.{with_names, dummy_name}
use Rattle.name_places.proofs.SeenLemmas.{with_none, with_as, dummy-Named, dummy-Alternate}
use Rattle.name_places.proofs.names.see_dummy.Goals as goal

pub returns-in-Named-clause-names : goal.returns-in-Named-clause-names
returns-in-Named-clause-names c =
    with_as c.see.result _ _ _ _ (ap (λ (x : Bytes). x ∷ []) c.as_slice.ensures ∙ dummy-Named c.in-Named.name ∙ ap dummy_name (sym c.in-Named.is)) c.see.ensures.names

pub returns-in-AlternateReturn-clause-names : goal.returns-in-AlternateReturn-clause-names
returns-in-AlternateReturn-clause-names c =
    with_none (texts c.args.names.now.items) ∙ ap (with_names (texts c.args.names.now.items)) (dummy-Alternate ∙ ap dummy_name (sym c.in-AlternateReturn.is))
