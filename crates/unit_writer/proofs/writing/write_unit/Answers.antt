use Rattle.std.specs.HashMap.{get_by}
use Rattle.std.proofs.Common.{◌≡◌, bytes_eq, map, option_map, Option}
use Rattle.f_tree.specs.Values.{Bytes}
use Rattle.unit_writer.specs.declared.heading.Procedure.{Procedure}
use Rattle.c_tree.specs.declared.file.CFunction.{CFunction}
use Rattle.item_emitter.specs.Knowing.{known_of}
use Rattle.lowered_tree.specs.Shapes.{steps_of}
use Rattle.unit_writer.specs.Functions.{body_by, function_by}
use Rattle.unit_writer.specs.ToldUnits.{IsWrittenUnit, bound_told}
use Rattle.unit_writer.proofs.FunctionLaws.{function_is_written}
use Rattle.unit_writer.proofs.TableLemmas.{texts}
use Rattle.unit_writer.proofs.Walks.{ok_then}
use Rattle.unit_writer.proofs.writing.write_unit.Goals as goal

pub returns : goal.returns
returns c =
    let table = c.args.table.now in
    let names = texts c.args.names.now in
    let heading = c.args.heading.now in
    let procedures : Bytes → Option Procedure = λ x. get_by (λ k. bytes_eq x k.now) c.args.procedures.now in
    let constants = c.args.constants.now in
    let text = c.args.text.now in
    let contents = c.args.contents.now in
    let known = c.in_ok-known.known in
    ok_then (λ (function : Option CFunction). function ≡ option_map (function_by table names heading procedures contents) (body_by (known_of known) (map bound_told heading.bounds.items) contents (steps_of text.steps.items)))
    (λ (function : Option CFunction). IsWrittenUnit table names heading procedures constants text contents function) c.written.result
    (λ function. function_is_written table names heading procedures constants text contents known function c.in_ok-known.ensures) c.written.ensures
