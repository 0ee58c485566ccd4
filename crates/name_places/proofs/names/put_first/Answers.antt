use Rattle.std.proofs.Common.{◌∷◌, map, ap, ◌∙◌}
use Rattle.f_tree.specs.Values.{Bytes}
use Rattle.name_table.specs.Named.{texts}
use Rattle.name_places.proofs.SeenLemmas.{own_first, own_none}
use Rattle.name_places.proofs.names.put_first.Goals as goal

pub returns-in_ok-insert-in-Some : goal.returns-in_ok-insert-in-Some
returns-in_ok-insert-in-Some c =
    own_first c.args.name.now c.in-Some.name _ _ c.in-Some.is (ap texts c.in_ok-insert-in-Some.ensures.items ∙ ap (λ (x : Bytes). x ∷ texts c.args.names.now.items) c.as_slice.ensures)

pub returns-in-None : goal.returns-in-None
returns-in-None c = own_none c.args.name.now _ c.in-None.is
