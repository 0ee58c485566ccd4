-- The rows of declarations, by computation.
use Rattle.std.proofs.Common.{refl}
use Rattle.c_readers.specs.Opened.{declarations_opened}
use Rattle.c_grammar_laws.specs.DeclarationRows.{DeclarationRows}

pub declaration_rows : DeclarationRows
unfolding declarations_opened
declaration_rows = record {
  a_number = refl;
  an_array = refl;
  values = refl;
  least_value = refl;
  text_of_its_length = refl;
  fields = refl;
  a_function = refl;
  without_arguments = refl;
  declared_twice = refl;
  word_as_name = refl;
  no_element = refl;
  value_too_many = refl;
  text_too_long = refl;
  length_left_out = refl;
  object_as_start = refl;
}
