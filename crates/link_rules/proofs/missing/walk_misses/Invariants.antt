use Rattle.std.proofs.Common.{◌≡◌, drop}
use Rattle.expression_linker.specs.Mentions.{has}
use Rattle.first_names.specs.FirstNames.{first_of}
use Rattle.link_rules.specs.Missing.{misses_from, none_before}
use Rattle.link_rules.proofs.missing.walk_misses.Given as goal

abbrev pub invariant-loop-local : goal.invariant-loop-local
invariant-loop-local l =
    misses_from (first_of l.numbers) none_before l.locals l.body ≡ misses_from (first_of l.numbers) (has l.lacking) (drop l.local-index l.locals) l.body
