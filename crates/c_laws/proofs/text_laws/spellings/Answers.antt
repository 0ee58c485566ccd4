-- How the spelling of a token reads back.
use Rattle.c_laws.proofs.TokenSpellings.{word_reads, number_reads, sign_reads, long_sign_reads, space_reads}
use Rattle.c_laws.proofs.text_laws.spellings.Goals as goal

pub returns-clause-word : goal.returns-clause-word
returns-clause-word c = word_reads

pub returns-clause-number : goal.returns-clause-number
returns-clause-number c = number_reads

pub returns-clause-sign : goal.returns-clause-sign
returns-clause-sign c = sign_reads

pub returns-clause-long_sign : goal.returns-clause-long_sign
returns-clause-long_sign c = long_sign_reads

pub returns-clause-space : goal.returns-clause-space
returns-clause-space c = space_reads
