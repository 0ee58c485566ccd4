use Rattle.std.proofs.Common.{not, ap, ◌∙◌}
use Rattle.f_tree.specs.Nests.{is_no_loop}
use Rattle.loop_entries.specs.ReadLines.{loop_there}
use Rattle.loop_entries.proofs.nested.begins_loop_at.Goals as goal

pub returns-in-Some : goal.returns-in-Some
unfolding loop_there
returns-in-Some c = c.begins_loop.ensures ∙ ap (λ o. not (is_no_loop (loop_there o))) c.in-Some.ensures

pub returns-in-None : goal.returns-in-None
unfolding loop_there is_no_loop
returns-in-None c = ap (λ o. not (is_no_loop (loop_there o))) c.in-None.ensures
