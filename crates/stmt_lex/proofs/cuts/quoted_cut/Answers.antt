use Rattle.std.proofs.Common.{arith, sym, ◌∙◌}
use Rattle.std.proofs.lemmas.Bool.Decides.{nat_tests}
use Rattle.stmt_lex.proofs.CutLemmas.{open_constant, empty_constant, full_constant}
use Rattle.stmt_lex.proofs.cuts.quoted_cut.Goals as goal

pub returns-in-None-clause-value : goal.returns-in-None-clause-value
returns-in-None-clause-value c = open_constant c.args.first c.args.rest.now (sym c.in-None.is ∙ c.constant_end.ensures.value)

pub returns-in-Some-eq0-clause-value : goal.returns-in-Some-eq0-clause-value
returns-in-Some-eq0-clause-value c = empty_constant c.args.first c.args.rest.now (cc)

pub returns-in-Some-clause-value : goal.returns-in-Some-clause-value
returns-in-Some-clause-value c = full_constant c.args.first c.args.rest.now _ (grind (arith, nat_tests)) (cc)
