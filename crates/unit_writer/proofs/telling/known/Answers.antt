use Rattle.std.proofs.Common.{map, refl, ap, ◌∙◌}
use Rattle.item_emitter.specs.Knowing.{variable_in, routine_in}
use Rattle.unit_writer.specs.Told.{seen_among, step_of_list}
use Rattle.unit_writer.proofs.TableLemmas.{texts}
use Rattle.unit_writer.proofs.telling.known.Goals as goal

pub returns : goal.returns
unfolding variable_in routine_in
returns c = record {
  variables = λ x. c.in_ok-variables.ensures x ∙ ap (λ kept. seen_among c.args.table.now kept (texts c.args.names.now) x) c.deref.ensures.value;
  routines = c.in_ok-routines.ensures;
  gives = c.in_ok-giving.ensures;
  temporaries = refl;
  constants = c.in_ok-from_slice.ensures.items;
  lists = c.in_ok-steps_of_lists.ensures ∙ ap (map step_of_list) c.deref-2.ensures.value;
  labels = c.in_ok-labels.ensures;
}
