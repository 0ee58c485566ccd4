use Rattle.std.proofs.Common.{◌≡◌, ◌<◌, ◌^◌, max, map, drop}
use Rattle.small_instance.specs.TargetLanguage.{code_of}
use Rattle.small_instance.specs.Translation.{longest}
use Rattle.small_instance.proofs.translate.longest.Given as goal

abbrev pub invariant-loop-function : goal.invariant-loop-function
invariant-loop-function l = (max l.most (longest (map code_of (drop l.function-index l.functions))) ≡ longest (map code_of l.functions)) × (l.most < 2 ^ 63)
