use Rattle.std.proofs.Common.{◌≡◌, ◌++◌, drop, None}
use Rattle.fortran_text.specs.CharactersOfText.{characters_from}
use Rattle.fortran_text.specs.declared.characters.Standing.TheVariants.{Outside}
use Rattle.stmt_lex.proofs.squeeze.squeezed.Given as goal

abbrev pub invariant-loop-c : goal.invariant-loop-c
invariant-loop-c l =
    characters_from l.counts (Outside None) l.text ≡ l.found ++ characters_from l.counts l.standing (drop l.c-index l.text)
