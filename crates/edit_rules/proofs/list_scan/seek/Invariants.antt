use Rattle.std.proofs.Common.{◌≡◌, drop}
use Rattle.edit_meaning.specs.ListInput.{sought}
use Rattle.edit_rules.proofs.list_scan.seek.Given as goal

abbrev pub invariant-loop-place : goal.invariant-loop-place
invariant-loop-place l = sought l.valued (drop l.place l.rest) ≡ sought l.fn.valued l.rest
