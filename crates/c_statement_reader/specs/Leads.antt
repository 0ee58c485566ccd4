-- What words and signs begin, in the words of the definitions (C89, 3.6), and the cases that are read.
use Rattle.std.specs.Prelude.{ℕ, pos, Bool, List}
use Rattle.c_tree.specs.declared.statement.CCase.{CCase}
use Rattle.c_statement_readers.specs.StatementReader as reader
use Rattle.c_statement_reader.specs.declared.leads.StatementLead.{StatementLead}
use Rattle.c_statement_reader.specs.declared.leads.StatementLead.TheVariants as word
use Rattle.c_statement_reader.specs.declared.leads.SignLead.{SignLead}
use Rattle.c_statement_reader.specs.declared.leads.SignLead.TheVariants as sign

unfoldable pub seen_word : StatementLead → reader.StatementLead
seen_word word.Jumps = reader.Jumps
seen_word word.Returns = reader.Returns
seen_word word.Tests = reader.Tests
seen_word word.Switches = reader.Switches
seen_word word.Counts = reader.Counts
seen_word word.Repeats = reader.Repeats

unfoldable pub seen_sign : SignLead → reader.SignLead
seen_sign sign.Nothing = reader.Nothing
seen_sign sign.Opening = reader.Opening
