use Rattle.std.proofs.Common.{◌≡◌, ◌+◌, ◌≤◌, length}
use Rattle.cards.specs.fortran_text.Lines.{lines}
use Rattle.prototype_laws.specs.Reading.{prototypes_behind, reading}
use Rattle.proto_file.proofs.reader.read_lines.Given as goal

abbrev pub invariant-loop-rest : goal.invariant-loop-rest
invariant-loop-rest l = record {
  reads : reading l.fn.bytes ≡ prototypes_behind l.protos l.line l.size (lines l.rest);
  within : l.size ≤ 16777216;
  counted : l.line ≤ l.size + 1;
}

abbrev pub decreases-loop-rest : goal.decreases-loop-rest
decreases-loop-rest l = length l.rest
