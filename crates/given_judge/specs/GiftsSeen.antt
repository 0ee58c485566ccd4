-- What statements give to names, as the code keeps it.
use Rattle.std.specs.Prelude.{Bool, false, List, [], ◌∷◌, map, Option, Some, None, if◌then◌else◌}
use Rattle.f_tree.specs.declared.statements.Declarator.{Declarator}
use Rattle.f_tree.specs.declared.statements.Dimension.{Dimension as WrittenDimension}
use Rattle.f_tree.specs.Values.{Bytes}
use Rattle.f_tree.specs.Attributes.{Shaped, option_list}
use Rattle.f_tree.specs.Uses.{Heading, defines_function}
use Rattle.f_tree.specs.declared.units.Unit.{Unit as WrittenUnit}
use Rattle.declaration_rows.specs.GivenRows as rows
use Rattle.declaration_rows.specs.GivenRows.{Given, given}
use Rattle.given_judge.specs.declared.gifts.Gift.{Gift}
use Rattle.given_judge.specs.declared.gifts.Gift.TheVariants as gift
use Rattle.given_judge.specs.declared.gifts.Barred.{Barred}
use Rattle.given_judge.specs.declared.givens.GivenName.{GivenName}

unfoldable pub gift_in : Gift → rows.Gift
gift_in gift.TypeOf = rows.TypeOf
gift_in gift.DimensionsOf = rows.DimensionsOf
gift_in gift.InCommon = rows.InCommon
gift_in gift.ConstantOf = rows.ConstantOf
gift_in gift.DummyOf = rows.DummyOf
gift_in gift.ResultOf = rows.ResultOf
gift_in gift.UnitOf = rows.UnitOf
gift_in gift.ExternalOf = rows.ExternalOf
gift_in gift.IntrinsicOf = rows.IntrinsicOf
gift_in gift.SavedOf = rows.SavedOf
gift_in gift.DataOf = rows.DataOf
gift_in gift.EquivalencedOf = rows.EquivalencedOf
gift_in gift.DefinitionOf = rows.DefinitionOf

unfoldable pub bars : Barred → rows.Gift → Bool
bars b rows.TypeOf = b.type_of
bars b rows.DimensionsOf = b.dimensions
bars b rows.InCommon = b.common
bars b rows.ConstantOf = b.constant
bars b rows.DummyOf = b.dummy
bars b rows.ResultOf = b.result
bars b rows.UnitOf = b.unit
bars b rows.ExternalOf = b.external
bars b rows.IntrinsicOf = b.intrinsic
bars b rows.SavedOf = b.saved
bars b rows.DataOf = b.data
bars b rows.EquivalencedOf = b.equivalenced
bars b rows.DefinitionOf = b.definition

-- a name where nothing has been noted is barred nothing
unfoldable pub bars_at : Option Barred → rows.Gift → Bool
bars_at None g = false
bars_at (Some b) g = bars b g

unfoldable pub given_of : GivenName → Given
given_of g = record { name = g.name.now; gift = gift_in g.gift }

abbrev pub givens_in : List GivenName → List Given
givens_in gs = map given_of gs

unfoldable pub shape_of : Declarator → Shaped
shape_of d = record { name = d.name; dimensions = d.dimensions }

-- dimensions are given to a name that has some
unfoldable pub dimensions_given : Bytes → List WrittenDimension → List Given
dimensions_given x [] = []
dimensions_given x (d ∷ ds) = given rows.DimensionsOf x ∷ []

-- the name of the statement function that an assignment defines
unfoldable pub definition_given : List Bytes → Heading → List Given
definition_given arrays h = if defines_function arrays h then map (given rows.DefinitionOf) (option_list h.applied) else []

-- the type that the first statement of a unit gives to its name
unfoldable pub heading_type : WrittenUnit → List Given
heading_type u = map (given rows.TypeOf) (if rows.heading_types u.kind then option_list u.name else [])
