-- Which names are plain, and which are spelled in C, by what is said of them. ANSI X3.9-1978, sections 4.1, 5.1 and 18; C89, 3.1.2.
use Rattle.std.specs.List.{list_all}
use Rattle.std.specs.Prelude.{◌*◌, nat_eq, nat_lt, Bool, true, false, not, ◌&&◌, ◌||◌, length}
use Rattle.f_tree.specs.declared.names.Class.{Class}
use Rattle.f_tree.specs.declared.names.Class.TheVariants as class
use Rattle.f_tree.specs.CNames.{is_name}
use Rattle.f_tree.specs.Values.{Bytes}
use Rattle.c_emit.specs.Numbers.{is_numeric}
use Rattle.c_emit.specs.c_tree.Tokens.{begins_with, is_letter}
use Rattle.name_facts.specs.declared.fact.NameFact.{NameFact}
use Rattle.plain_forms.specs.PlainUnits.{is_of_call, has_four_units}
use Rattle.name_facts.specs.Dimensions.{is_closed, elements_in}
use Rattle.plain_names.specs.Elements.{only_last_is_open, has_length, fits}

-- the class of what is stored
unfoldable pub is_stored_class : Class → Bool
is_stored_class class.Stored = true
is_stored_class _ = false

-- an integer or a logical, or an array of them
unfoldable pub is_number : NameFact → Bool
is_number fact = is_numeric fact.basic && has_four_units fact.width

-- each dimension that is written has bounds that are constant, or the last is assumed, and they fit
unfoldable pub has_plain_bounds : NameFact → Bool
has_plain_bounds fact = nat_eq (length fact.bounds) fact.rank && (list_all fits fact.bounds && only_last_is_open fact.bounds)

-- and none is assumed
unfoldable pub has_constant_bounds : NameFact → Bool
has_constant_bounds fact = has_plain_bounds fact && list_all is_closed fact.bounds

-- numbers of less than 2 ^ 31 bytes, of four bytes each, under a name of letters and digits
unfoldable pub is_plain_variable : Bytes → NameFact → Bool
is_plain_variable x fact = is_name x && (is_number fact && nat_lt (elements_in fact.bounds * 4) 67108865)

-- no dummy and no result, with constant bounds that fit, and such a variable if it is stored
unfoldable pub is_plain : Bytes → NameFact → Bool
is_plain x fact = not (is_of_call fact.class) && (has_constant_bounds fact && (not (is_stored_class fact.class) || is_plain_variable x fact))

-- not stored, or a name that begins with a letter, each dimension of an array having an element
unfoldable pub is_spelled : Bytes → NameFact → Bool
is_spelled x fact = not (is_stored_class fact.class) || (begins_with is_letter x && list_all has_length fact.bounds)
