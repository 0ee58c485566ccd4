use Rattle.std.proofs.Common.{subst}
use Rattle.memchr.specs.Find.{IsFirstByte, is_byte}
use Rattle.cards.proofs.LineLemmas.{line_found, line_alone}
use Rattle.cards.proofs.lines.line_length.Goals as goal

pub returns-in-Some-clause-first : goal.returns-in-Some-clause-first
returns-in-Some-clause-first c =
    let text = c.args.text.now in
    line_found text c.in-Some.place (subst (IsFirstByte (is_byte 10) text) c.in-Some.is c.memchr.ensures)

pub returns-in-None-clause-first : goal.returns-in-None-clause-first
returns-in-None-clause-first c =
    let text = c.args.text.now in
    line_alone text c.requires (subst (IsFirstByte (is_byte 10) text) c.in-None.is c.memchr.ensures)
