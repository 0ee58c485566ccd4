use Rattle.std.proofs.Common.{ap, ◌∙◌}
use Rattle.statement_parts.proofs.found_rows.Walks.{put_two}
use Rattle.f_tree.specs.declared.statements.DummyArgument.{DummyArgument}
use Rattle.f_tree.specs.declared.statements.Stmt.{Stmt}
use Rattle.std.specs.Prelude.{List, ◌++◌}
use Rattle.f_tree.specs.Attributes.{from_all}
use Rattle.call_check.specs.ProceduresSeen.{seen_own, seen_entry, seen_procedures}
use Rattle.call_check.proofs.procedures.add_seen.Goals as goal

pub returns : goal.returns
unfolding seen_procedures
returns c =
    let names = c.args.names.now in
    let u = c.args.unit.now in
    put_two c.add_entries.result _ _ _ (seen_own names u.kind c.as_slice-dummies.result.now u.name) (from_all (seen_entry names u.kind) c.as_slice.result.now) _
    c.in_ok-add_own.ensures c.add_entries.ensures
    (ap (λ (ds : List DummyArgument). seen_own names u.kind ds u.name ++ from_all (seen_entry names u.kind) c.as_slice.result.now) c.as_slice-dummies.ensures
    ∙ ap (λ (ss : List Stmt). seen_own names u.kind u.dummies u.name ++ from_all (seen_entry names u.kind) ss) c.as_slice.ensures)
