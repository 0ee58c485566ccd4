-- The row, computed.
use Rattle.worked_rows.proofs.PrintedTexts.{first_printed, first_printed_spelled}
use Rattle.worked_rows.proofs.printed_rows.first_worked_text.Goals as goal

pub returns-clause-text : goal.returns-clause-text
returns-clause-text c = first_printed

pub returns-clause-spells : goal.returns-clause-spells
returns-clause-spells c = first_printed_spelled
