use Rattle.std.proofs.Common.{◌≡◌, ◌++◌, drop}
use Rattle.small_instance.specs.SourceLanguage.{text_of}
use Rattle.small_instance.specs.Translation.{lowered, lowered_body}
use Rattle.small_instance.proofs.lowering.lower.Given as goal

abbrev pub invariant-loop-statement : goal.invariant-loop-statement
invariant-loop-statement l = l.steps.items ++ lowered_body l.unit.body.items (drop l.statement-index l.unit.body.items) ≡ lowered (text_of l.unit)
