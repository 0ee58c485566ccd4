-- What linking the files of a program gives (C89, 3.1.2.2, 3.5 and 3.7).
use Rattle.std.specs.Prelude.{◌≡◌, true, Result, Ok, Err}
use Rattle.c_tree.specs.Linking.{Program}
use Rattle.expression_linker.specs.declared.failure.LinkFail.{LinkFail}
use Rattle.expression_linker.specs.declared.failure.LinkFail.TheVariants as fail
use Rattle.linked_programs.specs.declared.programs.LinkedProgram.{LinkedProgram}
use Rattle.linked_programs.specs.LinkedPrograms.{program_of}
use Rattle.known_code.specs.LostCode.{some_code_lost}

-- the files are linked, or an item of one of their functions links nothing; want of memory says nothing
abbrev pub LinksProgram : Result LinkedProgram LinkFail → Program → Type 0
LinksProgram (Ok made) program = program_of made ≡ program
LinksProgram (Err fail.Unknown) program = some_code_lost program.functions ≡ true
LinksProgram (Err fail.Memory) program = Unit {0}
