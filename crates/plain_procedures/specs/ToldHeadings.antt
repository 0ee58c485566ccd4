-- What is asked of the dummy arguments in the list of a unit, one by one. ANSI X3.9-1978, sections 15.9.2 and 18.
use Rattle.std.specs.List.{list_any}
use Rattle.std.specs.Prelude.{Bool, true, false, not, ◌&&◌, List, [], ◌∷◌, bytes_eq}
use Rattle.f_tree.specs.declared.statements.DummyArgument.{DummyArgument}
use Rattle.f_tree.specs.declared.statements.DummyArgument.TheVariants as dummy
use Rattle.f_tree.specs.Values.{Bytes}
use Rattle.name_facts.specs.declared.table.NameFacts.{NameFacts}
use Rattle.name_facts.specs.GivenFacts.{fact_in}
use Rattle.unit_forms.specs.PlainProcedures.{is_dummy_class}

-- it has a name
unfoldable pub is_named : Bytes → DummyArgument → Bool
is_named x (dummy.Named y) = bytes_eq x y
is_named x dummy.AlternateReturn = false

-- its name is that of one behind it; the place of an alternate return has none
unfoldable pub stands_again : DummyArgument → List DummyArgument → Bool
stands_again (dummy.Named x) later = list_any (is_named x) later
stands_again dummy.AlternateReturn later = false

unfoldable pub stand_once : List DummyArgument → Bool
stand_once [] = true
stand_once (d ∷ later) = not (stands_again d later) && stand_once later

-- its name is that of a dummy argument within the unit
unfoldable pub names_a_dummy : NameFacts → DummyArgument → Bool
names_a_dummy table (dummy.Named x) = is_dummy_class (fact_in table x).class
names_a_dummy table dummy.AlternateReturn = true
