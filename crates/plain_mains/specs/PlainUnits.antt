-- Which written main programs are plain, and that these are what the law of main programs asks for.
-- ANSI X3.9-1978, sections 2.4, 4.1, 5.1, 8, 9, 11.10 and 15.7.
use Rattle.std.specs.Prelude.{◌≡◌, true}
use Rattle.main_translation_laws.specs.f_tree.declared.names.Options.{Options}
use Rattle.main_translation_laws.specs.f_tree.declared.units.Unit.{Unit as WrittenUnit}
use Rattle.main_translation_laws.specs.f_tree.Lines.{unit_read}
use Rattle.main_translation_laws.specs.PlainMains.{IsPlainMain}
unfoldable pub use Rattle.main_translation_laws.specs.plain_forms.PlainUnits.{has_none, is_main, has_one_entry, has_own_storage, loops_are_nested, loops_are_entered_well, loops_fit, has_plain_lines, bound_fits, only_last_is_assumed, has_plain_bounds, has_constant_bounds, is_of_call, has_four_units, is_number, is_plain_variable, is_plain_name, names_are_plain, is_plain_main, plain_units_opened}

-- LAW
abbrev pub PlainMainsAreTold : Type 0
PlainMainsAreTold = (options : Options) (u : WrittenUnit) → is_plain_main options u ≡ true → IsPlainMain (unit_read options u)
