-- What the laws of statements say. ANSI X3.9-1978, sections 7 to 16.
use Rattle.std.specs.Prelude.{◌≡◌, Some}
use Rattle.fortran_grammar.specs.f_tree.declared.statements.Body.{Body}
use Rattle.fortran_grammar.specs.fortran_lexemes.Lexemes.{Lexemes}
use Rattle.fortran_grammar.specs.StatementSpelling.{SpellsBody}
use Rattle.grammar_laws.specs.StatementReader.{read_statement}

-- Pieces spell one statement at most.
abbrev pub OneStatement : Type 0
OneStatement = (one other : Body) (pieces : Lexemes) → SpellsBody pieces one → SpellsBody pieces other → one ≡ other

-- What the reader gives is spelled.
abbrev pub StatementsReadAreSpelled : Type 0
StatementsReadAreSpelled = (b : Body) (pieces : Lexemes) → read_statement pieces ≡ Some b → SpellsBody pieces b

-- What is spelled is what the reader gives.
abbrev pub StatementsSpelledAreRead : Type 0
StatementsSpelledAreRead = (b : Body) (pieces : Lexemes) → SpellsBody pieces b → read_statement pieces ≡ Some b
