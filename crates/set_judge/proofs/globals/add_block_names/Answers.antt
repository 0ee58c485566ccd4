use Rattle.std.proofs.Common.{◌++◌, map, true, sym, ap, ◌∙◌}
use Rattle.std.proofs.lemmas.List.{append-nil}
use Rattle.declaration_rows.specs.GlobalRows.{global_at, block_names}
use Rattle.set_judge.specs.GlobalSteps.{globals_in}
use Rattle.set_judge.proofs.NameLemmas.{common_other}
use Rattle.set_judge.proofs.globals.add_block_names.Goals as goal

pub returns-in_default : goal.returns-in_default
unfolding block_names
returns-in_default c =
    let earlier = globals_in c.args.names.now.items in
    sym (append-nil earlier) ∙ ap (λ gs. earlier ++ map (global_at c.args.statement.now true) (block_names gs)) (sym (common_other c.args.statement.now.body c.in_default.not-Common))
