-- The rows of files, by computation.
use Rattle.std.proofs.Common.{refl}
use Rattle.c_file_readers.specs.c_tree.Opened.{trees_opened}
use Rattle.c_file_readers.specs.Opened.{files_opened}
use Rattle.c_file_laws.specs.FileRows.{FileRows}

pub file_rows : FileRows
unfolding trees_opened files_opened
file_rows = record {
  nothing = refl;
  without_the_include_line = refl;
  include_line_alone = refl;
  each_part = refl;
  text_as_start = refl;
  parameter_and_call = refl;
  array_behind_a_constant = refl;
  characters_behind_a_constant = refl;
  constant_behind_a_function = refl;
  array_behind_a_function = refl;
  word_as_name_of_an_array = refl;
  constant_of_a_name_that_is_taken = refl;
  function_of_a_name_that_is_taken = refl;
  call_of_a_later_function = refl;
  goto_of_no_label = refl;
  function_without_its_end = refl;
}
