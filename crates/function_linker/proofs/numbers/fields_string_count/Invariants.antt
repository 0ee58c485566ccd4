use Rattle.std.proofs.Common.{◌≡◌, ◌+◌, length, drop}
use Rattle.c_tree.specs.Declarations.{field_strings}
use Rattle.function_linker.proofs.numbers.fields_string_count.Given as goal

abbrev pub invariant-loop-field : goal.invariant-loop-field
invariant-loop-field l = length (field_strings l.fields) ≡ l.count + length (field_strings (drop l.field-index l.fields))
