use Rattle.std.proofs.Common.{◌≡◌, drop}
use Rattle.edit_rules.specs.FormatParts.{next_sign}
use Rattle.edit_rules.proofs.format_parts.character.Given as goal

abbrev pub invariant-loop-place : goal.invariant-loop-place
invariant-loop-place l = next_sign (drop l.place l.rest) ≡ next_sign l.rest
