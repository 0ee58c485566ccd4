use Rattle.std.specs.Global.{Vec}
use Rattle.std.proofs.Common.{◌≡◌, drop, length, map, Option, option_map, refl, sym, ap, ◌∙◌}
use Rattle.item_emitter.specs.Knowing.{known_of}
use Rattle.lowered_tree.specs.Shapes.{steps_of}
use Rattle.named_items.specs.declared.item.Item.{Item}
use Rattle.named_mains.specs.NamedMains.{items_from}
use Rattle.named_units.specs.NamedUnits.{items_behind}
use Rattle.unit_writer.specs.Functions.{kinds_at}
use Rattle.unit_writer.specs.ToldUnits.{bound_told}
use Rattle.unit_writer.proofs.ItemLaws.{in_front}
use Rattle.unit_writer.proofs.KeptItems.{items_all, items_none}
use Rattle.unit_writer.proofs.Walks.{ok_then}
use Rattle.unit_writer.proofs.emission.items_of.Goals as goal

pub returns-in-Some : goal.returns-in-Some
returns-in-Some c =
    let known = known_of c.args.known.now in
    let kinds = kinds_at c.args.kinds.now in
    let bounds = c.args.bounds.now in
    let steps = c.args.steps.now in
    let items = c.in-Some.items in
    let count = length bounds in
    ok_then (λ (found : Option (Vec Item)). option_map (λ (all : Vec Item). all.items) found ≡ in_front items.items (items_from known kinds count (steps_of (drop count steps))))
    (λ (found : Option (Vec Item)). option_map (λ (all : Vec Item). all.items) found ≡ items_behind known kinds (map bound_told bounds) (steps_of steps)) c.step_items.result
    (λ found is. items_all known kinds bounds steps items.items count _ refl (ap (option_map (λ (all : Vec Item). all.items)) (sym c.in-Some.is) ∙ c.in_ok-kept.ensures) is) c.step_items.ensures

pub returns-in-None : goal.returns-in-None
returns-in-None c =
    items_none (known_of c.args.known.now) (kinds_at c.args.kinds.now) c.args.bounds.now c.args.steps.now (ap (option_map (λ (all : Vec Item). all.items)) (sym c.in-None.is) ∙ c.in_ok-kept.ensures)
