use Rattle.std.proofs.Common.{◌≡◌, drop}
use Rattle.body_mentions.specs.Mentioned.{in_statements}
use Rattle.body_mentions.proofs.statements.+statement.Given as goal

abbrev pub invariant-in_statements-loop-statement : goal.invariant-in_statements-loop-statement
invariant-in_statements-loop-statement l =
    in_statements l.names l.list ≡ in_statements l.names (drop l.statement-index l.list)
