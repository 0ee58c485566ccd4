-- The first worked text is printed of its tree, and spells it.
use Rattle.std.specs.Prelude.{◌≡◌}
use Rattle.std.proofs.Common.{refl, sym, subst}
use Rattle.c_text.specs.c_tree.Opened.{trees_opened}
use Rattle.c_text.specs.c_tree.CText.{CText}
use Rattle.c_text_rows.specs.TextRows.{first_text, first_tree}
use Rattle.c_text_rows.proofs.c_laws.TextReading.{spelled_by}
use Rattle.c_text.specs.Printed.{printed}
use Rattle.c_text.specs.Opened.{printed_opened}

pub first_printed : printed first_tree ≡ first_text
unfolding printed_opened
first_printed = refl

pub first_spelled : CText first_text first_tree
unfolding trees_opened
first_spelled = spelled_by first_text first_tree refl

pub first_printed_spelled : CText (printed first_tree) first_tree
first_printed_spelled = subst (λ z. CText z first_tree) (sym first_printed) first_spelled
