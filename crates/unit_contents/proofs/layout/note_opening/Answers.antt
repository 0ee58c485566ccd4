use Rattle.std.proofs.Common.{false, get_or, sym, ◌∙◌}
use Rattle.unit_contents.proofs.LayoutLaws.{opening_noted, opening_kept}
use Rattle.unit_contents.proofs.layout.note_opening.Goals as goal

pub returns-then-is_opening_by : goal.returns-then-is_opening_by
returns-then-is_opening_by c =
    λ n h. c.note.ensures n h ∙ opening_noted c.args.once c.args.marked n (get_or c.args.openings.now n false) (sym c.is_opening_by.ensures ∙ c.if-is_opening_by.true)

pub returns-else-is_opening_by : goal.returns-else-is_opening_by
returns-else-is_opening_by c = λ n h. opening_kept c.args.once c.args.marked n (get_or c.args.openings.now n false) (sym c.is_opening_by.ensures ∙ c.if-is_opening_by.false)
