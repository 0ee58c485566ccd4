-- The parts of all tokens are those of the tokens from here on, with what was read and declared.
use Rattle.std.proofs.Common.{◌≡◌, []}
use Rattle.c_file_readers.specs.FileReader as reader
use Rattle.c_scope.specs.ScopeSeen.{here_of, file_scope_of, file_here_of}
use Rattle.c_expression_reader.specs.Readings.{shown}
use Rattle.c_file_reader.specs.PartsSeen.{seen_part}
use Rattle.c_file_reader.proofs.files.all_parts.Given as goal

abbrev pub invariant-loop-left : goal.invariant-loop-left
invariant-loop-left l =
    (reader.parts l.nests l.nests reader.Objects (file_scope_of l.fn.scope) (file_here_of l.fn.scope) reader.no_parts (shown l.tokens)
    ≡ reader.parts l.nests l.left (seen_part l.part) (file_scope_of l.scope) (file_here_of l.scope) l.file (shown l.rest))
    × (here_of l.scope ≡ [])

abbrev pub decreases-loop-left : goal.decreases-loop-left
decreases-loop-left l = l.left
