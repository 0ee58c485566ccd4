-- What C asks besides of the names of a unit that is called: the names of its variables, its dummies and itself begin with a letter, its own has letters
-- and digits only, and an array that is stored has an element. ANSI X3.9-1978, sections 2.2 and 5.1; C89, 3.1.2 and 3.5.
use Rattle.std.specs.List.{list_all}
use Rattle.std.specs.Prelude.{Bool, true, ◌&&◌}
use Rattle.plain_forms.specs.f_tree.Values.{Bytes}
use Rattle.plain_forms.specs.f_tree.CNames.{is_name}
use Rattle.plain_forms.specs.f_tree.Facts.{UnitKind, MainProgram, SubroutineUnit, FunctionUnit, BlockDataUnit, EntryPoint, ProgramUnit}
use Rattle.plain_forms.specs.c_tree.Tokens.{begins_with, is_letter}
use Rattle.plain_forms.specs.faithful.Signatures.{named_formals}
use Rattle.plain_forms.specs.SpellableNames.{is_spellable}

-- the name of a main program is none of C
unfoldable pub is_called_well : UnitKind → Bytes → Bool
is_called_well MainProgram x = true
is_called_well SubroutineUnit x = begins_with is_letter x && is_name x
is_called_well FunctionUnit x = begins_with is_letter x && is_name x
is_called_well BlockDataUnit x = true

unfoldable pub is_spellable_entry : UnitKind → EntryPoint → Bool
is_spellable_entry kind entry = is_called_well kind entry.name && list_all (begins_with is_letter) (named_formals entry.formals)

unfoldable pub is_spellable_unit : ProgramUnit → Bool
is_spellable_unit unit = is_spellable unit && list_all (is_spellable_entry unit.kind) unit.entries

unfoldable pub spellable_units_opened : Unit {0}
unfolding is_called_well is_spellable_entry is_spellable_unit
spellable_units_opened = tt
