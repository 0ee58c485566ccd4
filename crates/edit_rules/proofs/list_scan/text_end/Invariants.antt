use Rattle.std.proofs.Common.{◌≡◌, drop, false}
use Rattle.edit_meaning.specs.ListInput.{ending}
use Rattle.edit_rules.proofs.list_scan.text_end.Given as goal

abbrev pub invariant-loop-character : goal.invariant-loop-character
invariant-loop-character l = ending l.quoted (drop l.character-index l.rest) ≡ ending false l.rest
