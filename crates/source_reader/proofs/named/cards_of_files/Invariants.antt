use Rattle.std.proofs.Common.{take}
use Rattle.source_reader.specs.Along.{Along}
use Rattle.source_reader.specs.SourceReading.{IsFileRead}
use Rattle.source_reader.proofs.named.cards_of_files.Given as goal

abbrev pub invariant-loop-file : goal.invariant-loop-file
invariant-loop-file l = Along (IsFileRead l.options.long_cards) 0 (take l.file l.files) l.cards
