-- The rows of statements, by computation.
use Rattle.std.proofs.Common.{refl}
use Rattle.c_grammar_laws.specs.c_tree.Opened.{trees_opened}
use Rattle.c_statement_readers.specs.Opened.{statements_opened}
use Rattle.c_statement_laws.specs.StatementRows.{StatementRows, BodyRows}

pub statement_rows : StatementRows
unfolding trees_opened statements_opened
statement_rows = record {
  set = refl;
  set_to_a_call = refl;
  set_to_a_call_through = refl;
  set_to_a_content = refl;
  call = refl;
  call_through = refl;
  set_content = refl;
  label_of_a_function = refl;
  return_of_a_call = refl;
  return_alone = refl;
  nested_choice = refl;
  choice_of_the_inner = refl;
  counted = refl;
  repeated = refl;
  switch = refl;
  else_alone = refl;
  unknown_target = refl;
  call_of_an_object = refl;
  argument_left_open = refl;
  word_as_label = refl;
  case_stands_twice = refl;
  case_too_great = refl;
}

pub body_rows : BodyRows
unfolding trees_opened statements_opened
body_rows = record {
  jump_on = refl;
  jump_back = refl;
  label_not_named = refl;
  jump_nowhere = refl;
  inner_block_closes = refl;
  label_again = refl;
  named_where_it_stands_twice = refl;
  object_as_label_again = refl;
}
