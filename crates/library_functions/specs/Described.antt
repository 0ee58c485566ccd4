-- The functions of C's library that the data of a translator stand for. ANSI X3.9-1978, section 15.10; CSTR 149, on the run time library.
use Rattle.c_emit.specs.LibraryFunctions as emit
use Rattle.library_functions.specs.declared.table.LibraryFunction.{LibraryFunction}

abbrev pub described : LibraryFunction → emit.LibraryFunction
described f = record { name = f.name.now; takes = f.takes; gives = f.gives }
