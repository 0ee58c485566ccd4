use Rattle.std.proofs.Common.{◌≡◌, ◌+◌, drop, false, if◌then◌else◌}
use Rattle.edit_rules.specs.FormatParts.{written_size}
use Rattle.edit_rules.proofs.format_parts.written_len.Given as goal

abbrev pub invariant-loop-place : goal.invariant-loop-place
invariant-loop-place l = record {
  same : l.size + written_size l.quoted (drop l.place l.rest) ≡ written_size false l.rest;
  at : l.place ≡ l.size + (if l.quoted then 1 else 0);
}
