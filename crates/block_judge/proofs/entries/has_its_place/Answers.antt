use Rattle.std.proofs.Common.{◌&&◌, sym, ap, ◌∙◌}
use Rattle.declaration_rows.specs.BlockRows.{has_entries}
use Rattle.block_judge.proofs.entries.has_its_place.Goals as goal

pub returns-then-is_procedure : goal.returns-then-is_procedure
returns-then-is_procedure c = λ ss known.
    ap (λ b. b && c.is_outside-is_outside.result) (sym c.if-is_procedure.true ∙ c.has_entries-is_procedure.ensures)
    ∙ ap (λ b. has_entries c.args.kind.now && b) (c.is_outside-is_outside.ensures ss known)

pub returns-else-is_procedure : goal.returns-else-is_procedure
returns-else-is_procedure c = λ ss known.
    c.if-is_procedure.false ∙ ap (λ b. b && c.is_outside-is_outside.result) (sym c.if-is_procedure.false ∙ c.has_entries-is_procedure.ensures)
    ∙ ap (λ b. has_entries c.args.kind.now && b) (c.is_outside-is_outside.ensures ss known)
