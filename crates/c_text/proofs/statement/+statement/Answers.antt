use Rattle.c_text.proofs.ArmLemmas.{with-else}
use Rattle.c_text.proofs.LocalLemmas.{on-ok}
use Rattle.c_text.proofs.statement.+statement.Goals as goal

pub print_stmt-returns-in_ok-print_inner-in-Some : goal.print_stmt-returns-in_ok-print_inner-in-Some
print_stmt-returns-in_ok-print_inner-in-Some t c =
    on-ok c.print_line-in-Some-2.result c.print_line-in-Some-2.ensures
    (λ last. with-else _ _ _ _ _ _ _ _ _ _ _ _ _ _ _ c.in-If.is c.in-Some.is c.as_slice-in-If.ensures c.as_slice-in-Some.ensures c.letters.ensures
    c.in_ok-print_if_head-in-If.ensures c.in_ok-print_inner-in-If.ensures c.in_ok-print_line-in-Some.ensures c.in_ok-print_inner-in-Some.ensures last)
