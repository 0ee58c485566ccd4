use Rattle.std.proofs.Common.{Option, ap, ◌∙◌}
use Rattle.std.specs.Prelude.{is_some}
use Rattle.run_state.specs.Units.{UnitState, zero_blanks_of}
use Rattle.unit_table_rows.proofs.placing.look.Goals as goal

pub returns-clause-connected : goal.returns-clause-connected
returns-clause-connected g c = λ state has. c.is_connected.ensures.means ∙ ap (λ (s : Option UnitState). is_some s) has.is

pub returns-clause-zeros : goal.returns-clause-zeros
returns-clause-zeros g c = λ state has. c.zero_blanks.ensures.means ∙ ap (λ (s : Option UnitState). zero_blanks_of s) has.is
