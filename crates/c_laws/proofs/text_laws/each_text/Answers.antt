-- Each text has its tokens, and spells a tree or is refused.
use Rattle.c_laws.proofs.AllTexts as all
use Rattle.c_laws.proofs.text_laws.each_text.Goals as goal

pub returns-clause-has_tokens : goal.returns-clause-has_tokens
returns-clause-has_tokens c = all.has_tokens

pub returns-clause-spells_or_is_refused : goal.returns-clause-spells_or_is_refused
returns-clause-spells_or_is_refused c = all.spells_or_is_refused
