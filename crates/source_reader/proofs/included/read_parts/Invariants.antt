use Rattle.std.proofs.Common.{take}
use Rattle.source_reader.specs.PartReading.{IsPartsRead}
use Rattle.source_reader.proofs.included.read_parts.Given as goal

abbrev pub invariant-loop-place : goal.invariant-loop-place
invariant-loop-place l = IsPartsRead l.options.long_cards l.first (take l.place l.included) l.parts
