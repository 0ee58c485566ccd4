use Rattle.std.specs.HashMap.{get_by}
use Rattle.std.proofs.Common.{Option, ◌++◌, bytes_eq, map, ◌∙◌}
use Rattle.f_tree.specs.Values.{Bytes}
use Rattle.main_translation.specs.main_file.MainFile.{call_for, lists_from, temporaries_from}
use Rattle.unit_translation.specs.unit_file.UnitFile.{result_local}
use Rattle.unit_translation.specs.UnitContents.{returned_by}
use Rattle.unit_contents.specs.ContentsOf.{listing_of}
use Rattle.unit_writer.specs.declared.heading.Procedure.{Procedure}
use Rattle.unit_writer.specs.Functions.{calls_by, local_of, locals_by}
use Rattle.unit_writer.specs.ToldUnits.{stored_names}
use Rattle.unit_writer.proofs.LocalLaws.{bounds_behind, procedures_behind}
use Rattle.unit_writer.proofs.TableLemmas.{texts}
use Rattle.unit_writer.proofs.Walks.{put_seven}
use Rattle.unit_writer.proofs.locals.locals.Goals as goal

pub returns : goal.returns
unfolding locals_by
returns c =
    let procedures : Bytes → Option Procedure = λ x. get_by (λ k. bytes_eq x k.now) c.args.procedures.now in
    let result = result_local (returned_by c.args.basic) in
    let temporaries = temporaries_from 1 c.args.contents.now.temporaries in
    let calls = map call_for (calls_by c.args.contents.now.calls) in
    let variables = map (local_of c.args.table.now) (stored_names c.args.table.now (texts c.args.names.now)) in
    c.from_vec.ensures
    ∙ put_seven c.new-found.result.items _ _ _ _ _ _ _ _ _ _ _ _ _ _ c.new-found.ensures.items c.in_ok-add_result.ensures c.in_ok-add_temporaries.ensures c.in_ok-add_bounds.ensures
    c.in_ok-add_calls.ensures c.in_ok-add_procedures.ensures c.in_ok-add_variables.ensures c.in_ok-add_lists.ensures
    ∙ (λ i. result ++ (temporaries ++ (bounds_behind c.args.bounds.now ++ (calls ++ (procedures_behind procedures (c.deref.ensures.value i) ++ (variables ++ lists_from 1 (map listing_of (c.deref-2.ensures.value i))))))))
