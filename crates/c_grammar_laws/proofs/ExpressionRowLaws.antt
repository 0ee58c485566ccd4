-- The rows of expressions and calls, by computation.
use Rattle.std.proofs.Common.{refl}
use Rattle.c_readers.specs.Opened.{readers_opened}
use Rattle.c_grammar_laws.specs.ExpressionRows.{ExpressionRows, CallRows}

pub expression_rows : ExpressionRows
unfolding readers_opened
expression_rows = record {
  differences = refl;
  sign_before_product = refl;
  sum_of_products = refl;
  choices = refl;
  cast_of_an_element = refl;
  target = refl;
  ends_early = refl;
  unknown_name = refl;
  number_too_great = refl;
  size_of_a_name = refl;
  cast_of_no_pointer = refl;
  missing_arm = refl;
  word_as_field = refl;
}

pub call_rows : CallRows
unfolding readers_opened
call_rows = record {
  by_name = refl;
  without_arguments = refl;
  through_a_parameter = refl;
  no_function = refl;
  no_pointer = refl;
  comma_at_the_end = refl;
}
