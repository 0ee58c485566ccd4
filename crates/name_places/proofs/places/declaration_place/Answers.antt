use Rattle.std.proofs.Common.{sym, ap, ◌∙◌}
use Rattle.name_places.specs.declared.place.Place.{Place}
use Rattle.name_places.specs.FirstPlaces.{placed, rows_at}
use Rattle.name_places.proofs.PlaceLemmas.{declaration_placed}
use Rattle.name_places.proofs.places.declaration_place.Goals as goal

pub returns : goal.returns
returns c kinds =
    declaration_placed c.args.unit.now c.args.places.now c.args.name.now kinds c.requires
    ∙ ap (λ (p : Place). rows_at p kinds) (ap (placed c.args.unit.now c.args.unit.now.statements) (sym c.get.ensures) ∙ sym c.place_of.ensures)
