use Rattle.std.proofs.Common.{◌≡◌, ◌++◌, drop, map}
use Rattle.std.specs.String.{string_bytes}
use Rattle.f2c_program.proofs.program.put_words.Given as goal

abbrev pub invariant-loop-text : goal.invariant-loop-text
invariant-loop-text l = l.words ++ map string_bytes (drop l.text-index l.texts) ≡ l.initial.words ++ map string_bytes l.texts
