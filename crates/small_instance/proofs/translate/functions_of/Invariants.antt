use Rattle.std.proofs.Common.{◌≡◌, ◌++◌, map, drop}
use Rattle.small_instance.specs.SourceLanguage.{text_of}
use Rattle.small_instance.specs.TargetLanguage.{code_of}
use Rattle.small_instance.specs.Translation.{translated, translated_from}
use Rattle.small_instance.proofs.translate.functions_of.Given as goal

abbrev pub invariant-loop-i : goal.invariant-loop-i
invariant-loop-i l = map code_of l.functions.items ++ translated_from l.i (map text_of (drop l.i l.units)) ≡ translated (map text_of l.units)
