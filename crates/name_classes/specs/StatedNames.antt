-- The names that statements state something of, and those that they use.
use Rattle.std.specs.Prelude.{Bool, List, [], ◌∷◌, map, if◌then◌else◌}
use Rattle.f_tree.specs.declared.statements.Body.{Body}
use Rattle.f_tree.specs.declared.statements.ConstantDefinition.{ConstantDefinition}
use Rattle.f_tree.specs.declared.statements.DummyArgument.{DummyArgument}
use Rattle.f_tree.specs.declared.statements.DummyArgument.TheVariants as dummy
use Rattle.f_tree.specs.Values.{Bytes}
use Rattle.f_tree.specs.Uses.{Use, Manner, uses_of_body}
use Rattle.f_tree.specs.Attributes.{TypedName, typed_in, constants_in}

unfoldable pub constant_names : Body → List Bytes
constant_names b = map (λ (d : ConstantDefinition). d.name) (constants_in b)

unfoldable pub typed_names : Body → List Bytes
typed_names b = map (λ (t : TypedName). t.item.name) (typed_in b)

unfoldable pub dummy_name : DummyArgument → List Bytes
dummy_name (dummy.Named x) = x ∷ []
dummy_name dummy.AlternateReturn = []

-- the names that stand in some manner
unfoldable pub used_as : (Manner → Bool) → List Use → List Bytes
used_as test [] = []
used_as test (u ∷ us) = if test u.manner then u.name ∷ used_as test us else used_as test us

unfoldable pub used_as_in : (Manner → Bool) → List Bytes → Body → List Bytes
used_as_in test arrays b = used_as test (uses_of_body arrays b)
