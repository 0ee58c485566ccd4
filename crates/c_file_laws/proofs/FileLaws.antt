-- The laws of functions and of files, with those of the statements of functions put in.
use Rattle.c_statement_laws.proofs.ScopeLaws.{scopes_in_order}
use Rattle.c_statement_laws.proofs.BodyGood.{good_bodies}
use Rattle.c_statement_laws.proofs.StatementExact.{exact_bodies}
use Rattle.c_file_laws.specs.FileLaws.{GoodFunctions, ExactFunctions, ExactFiles, RefusedLines, TextsRead}
use Rattle.c_file_laws.proofs.FunctionGood.{good_functions}
use Rattle.c_file_laws.proofs.FunctionReads.{BodiesRead, exact_functions}
use Rattle.c_file_laws.proofs.FileExact.{exact_files}
use Rattle.c_file_laws.proofs.FileLines.{refused_lines, texts_read}

bodies_read : BodiesRead
bodies_read scope good all p q are = (exact_bodies scope good).complete all p q are tt

pub good_c_functions : GoodFunctions
good_c_functions = good_functions scopes_in_order good_bodies

pub exact_c_functions : ExactFunctions
exact_c_functions = exact_functions scopes_in_order good_bodies bodies_read

pub exact_c_files : ExactFiles
exact_c_files = exact_files scopes_in_order good_bodies bodies_read

pub refused_c_lines : RefusedLines
refused_c_lines = refused_lines exact_c_files

pub c_texts_read : TextsRead
c_texts_read = texts_read exact_c_files
