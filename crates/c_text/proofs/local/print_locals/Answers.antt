use Rattle.std.proofs.Common.{◌∙◌}
use Rattle.c_text.proofs.LocalLemmas.{locals-next, locals-end, on-ok}
use Rattle.c_text.proofs.local.print_locals.Goals as goal

pub loop-local-preserved : goal.loop-local-preserved
loop-local-preserved c =
    locals-next _ _ _ _ _ _ _ _ _ c.loop-local-test.true c.local-item.is c.part_of-part.ensures c.in_ok-print_heading.ensures
    c.in_ok-print_local_line.ensures c.loop-local.invariant

pub returns : goal.returns
returns c =
    on-ok c.print_parts_end.result c.print_parts_end.ensures
    (λ written. written ∙ locals-end _ _ _ _ _ c.loop-local-test.false c.loop-local.invariant)
