-- The strings of a text are of bytes, by its tokens.
use Rattle.c_spelling.proofs.FilesBytes.{strings_of_a_text}
use Rattle.c_spelling.proofs.spelling.spelled_files_are_printed_again.Goals as goal

pub returns-clause-byte_strings : goal.returns-clause-byte_strings
returns-clause-byte_strings c = strings_of_a_text
