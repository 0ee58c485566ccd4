use Rattle.std.proofs.Common.{◌++◌, map, false, sym, ap, ◌∙◌}
use Rattle.std.proofs.lemmas.List.{append-nil}
use Rattle.declaration_rows.specs.GlobalRows.{global_at}
use Rattle.set_judge.specs.GlobalSteps.{globals_in}
use Rattle.set_judge.proofs.NameLemmas.{entry_names_other}
use Rattle.set_judge.proofs.globals.add_entry_name.Goals as goal

pub returns-in_default : goal.returns-in_default
returns-in_default c =
    let earlier = globals_in c.args.names.now.items in
    sym (append-nil earlier) ∙ ap (λ xs. earlier ++ map (global_at c.args.statement.now false) xs) (sym (entry_names_other c.args.statement.now.body c.in_default.not-Entry))
