-- Fixed phrases of the house form.
use Rattle.std.specs.Prelude.{ℕ, List, codes}
use Rattle.c_text.specs.declared.phrase.Phrase.{Phrase}
use Rattle.c_text.specs.declared.phrase.Phrase.TheVariants.{Head, Objects, Constants, StaticInteger, StaticChars, Static, Extern, Switch, While, Else, CaseGoto, Return}

unfoldable pub letters : Phrase → List ℕ
letters Head = codes "/* translated by f2c */\n\n#include \"f2c.h\"\n"
letters Objects = codes "\n/* Common Block Declarations */\n\n"
letters Constants = codes "\n/* Table of constant values */\n\n"
letters StaticInteger = codes "static integer "
letters StaticChars = codes "static char "
letters Static = codes "static "
letters Extern = codes "extern "
letters Switch = codes "switch ("
letters While = codes "} while ("
letters Else = codes "} else {"
letters CaseGoto = codes ": goto "
letters Return = codes "return "
