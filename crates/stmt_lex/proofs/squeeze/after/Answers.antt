use Rattle.std.proofs.Common.{ap, sym, ◌∙◌}
use Rattle.fortran_text.specs.CharactersOfText.{after}
use Rattle.stmt_lex.specs.Standings.{capped}
use Rattle.stmt_lex.proofs.StandingLemmas.{counted_on}
use Rattle.stmt_lex.proofs.squeeze.after.Goals as goal

pub returns-in-Counted : goal.returns-in-Counted
returns-in-Counted c =
    c.counting.ensures ∙ counted_on c.args.counts c.in-Counted.count c.args.c
    ∙ ap (λ s. capped (after c.args.counts s c.args.c)) (sym c.in-Counted.is)
