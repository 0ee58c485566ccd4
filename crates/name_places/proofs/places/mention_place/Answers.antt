use Rattle.std.proofs.Common.{sym, ap, ◌∙◌}
use Rattle.name_places.specs.declared.place.Place.{Place}
use Rattle.name_places.specs.FirstPlaces.{placed, rows_at}
use Rattle.name_places.proofs.PlaceLemmas.{head_placed, mention_placed}
use Rattle.name_places.proofs.places.mention_place.Goals as goal

pub returns-then-is_in_head : goal.returns-then-is_in_head
returns-then-is_in_head c kinds =
    head_placed c.args.unit.now c.args.name.now kinds (sym c.requires.is_in_head ∙ c.if-is_in_head.true) ∙ ap (λ (p : Place). rows_at p kinds) (sym c.place_of.ensures)

pub returns : goal.returns
returns c kinds =
    mention_placed c.args.unit.now c.args.places.now c.args.name.now kinds c.requires.places (sym c.requires.is_in_head ∙ c.if-is_in_head.false)
    ∙ ap (λ (p : Place). rows_at p kinds) (ap (placed c.args.unit.now c.args.unit.now.statements) (sym c.get.ensures) ∙ sym c.place_of-2.ensures)
