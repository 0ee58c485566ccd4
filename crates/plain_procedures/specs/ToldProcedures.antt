-- Which names are plain in a unit among several, by what is said of them. ANSI X3.9-1978, sections 4.1, 5.1, 5.5, 15.5.1, 15.9 and 18.
use Rattle.std.specs.Prelude.{nat_eq, Bool, ◌&&◌, ◌||◌, List}
use Rattle.f_tree.specs.declared.names.Class.{Class}
use Rattle.f_tree.specs.declared.names.Class.TheVariants as class
use Rattle.f_tree.specs.declared.statements.Dimension.{Dimension}
use Rattle.f_tree.specs.CNames.{is_name}
use Rattle.f_tree.specs.Values.{Bytes}
use Rattle.name_facts.specs.declared.fact.NameFact.{NameFact}
use Rattle.name_facts.specs.declared.table.NameFacts.{NameFacts}
use Rattle.plain_names.specs.ToldNames.{is_number, has_plain_bounds, has_constant_bounds, is_plain_variable}
use Rattle.bound_values.specs.BoundValues.{has_adjustable_bounds}

-- a dummy variable, or a dummy array whose bounds are constant but for a last one that is assumed, or are fixed by each call; its dimensions are given as they
-- are written, the names in them being what the table says
unfoldable pub is_plain_dummy : NameFacts → Bytes → List Dimension → NameFact → Bool
is_plain_dummy table x ds fact = is_name x && (is_number fact && (has_plain_bounds fact || has_adjustable_bounds table fact ds))

-- a dummy procedure, which is no array
unfoldable pub is_plain_procedure : Bytes → NameFact → Bool
is_plain_procedure x fact = is_name x && nat_eq fact.rank 0

-- the result of a function is one number
unfoldable pub is_plain_result : Bool → NameFact → Bool
is_plain_result function fact = function && (is_number fact && nat_eq fact.rank 0)

-- a variable or an array of numbers
unfoldable pub is_plain_stored : Bytes → NameFact → Bool
is_plain_stored x fact = has_constant_bounds fact && is_plain_variable x fact

-- a name of a class, in a function or in another unit
unfoldable pub is_plain_as : NameFacts → Bool → Class → Bytes → List Dimension → NameFact → Bool
is_plain_as table function class.Stored x ds fact = is_plain_stored x fact
is_plain_as table function class.Dummy x ds fact = is_plain_dummy table x ds fact
is_plain_as table function class.DummyProcedure x ds fact = is_plain_procedure x fact
is_plain_as table function class.Result x ds fact = is_plain_result function fact
is_plain_as table function other x ds fact = has_plain_bounds fact

unfoldable pub is_plain : NameFacts → Bool → Bytes → List Dimension → NameFact → Bool
is_plain table function x ds fact = is_plain_as table function fact.class x ds fact
