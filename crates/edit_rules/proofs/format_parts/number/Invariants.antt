use Rattle.std.proofs.Common.{◌≡◌, ◌≤◌, drop}
use Rattle.edit_rules.specs.FormatParts.{number_from}
use Rattle.edit_rules.proofs.format_parts.number.Given as goal

abbrev pub invariant-loop-place : goal.invariant-loop-place
invariant-loop-place l = record {
  same : number_from l.number (drop l.behind l.rest) (drop l.place l.rest) ≡ number_from 0 l.rest l.rest;
  within : l.behind ≤ l.place;
  below : l.number ≤ 65535;
}
