use Rattle.std.proofs.Common.{sym, ◌∙◌}
use Rattle.std.specs.Char.{is_ascii_digit}
use Rattle.stmt_lex.specs.CursorWalks.{left}
use Rattle.stmt_lex.proofs.KindLemmas.{passed_on}
use Rattle.stmt_lex.proofs.kinds.behind_digits.Goals as goal

pub loop-c-preserved : goal.loop-c-preserved
loop-c-preserved c =
    c.loop-c.invariant
    ∙ passed_on is_ascii_digit c.in-Some.c (left c.in-Some.behind) (left c.loop-c.rest) c.in-Some.ensures
    (sym c.is_ascii_digit.ensures.value ∙ c.if-not-is_ascii_digit.false)
