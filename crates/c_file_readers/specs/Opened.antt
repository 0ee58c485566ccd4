-- `unfolding files_opened` opens the readers of files, for tokens that are read by computation.
use Rattle.c_statement_readers.specs.c_readers.Opened.{declarations_opened}
use Rattle.c_statement_readers.specs.Opened.{statements_opened}
use Rattle.c_file_readers.specs.ObjectReader.{integers_behind, integers, characters_behind, characters, object_by, an_object, constant_behind, a_constant}
use Rattle.c_file_readers.specs.FileReader.{function_body, function_behind, a_function, an_object_and_more, a_constant_and_more, a_function_and_more, by_part, parts, a_file}

unfoldable pub files_opened : Unit {0}
unfolding declarations_opened statements_opened integers_behind integers characters_behind characters object_by an_object constant_behind a_constant function_body function_behind a_function an_object_and_more a_constant_and_more a_function_and_more by_part parts a_file
files_opened = tt
