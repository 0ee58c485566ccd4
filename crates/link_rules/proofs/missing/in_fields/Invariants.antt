use Rattle.std.proofs.Common.{◌≡◌, drop}
use Rattle.link_rules.specs.Mentioned.{in_fields}
use Rattle.link_rules.proofs.missing.in_fields.Given as goal

abbrev pub invariant-loop-field : goal.invariant-loop-field
invariant-loop-field l = in_fields l.names l.fields ≡ in_fields l.names (drop l.field-index l.fields)
