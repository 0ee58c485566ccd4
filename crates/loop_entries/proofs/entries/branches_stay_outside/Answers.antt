use Rattle.std.proofs.lemmas.Result.{IfOk-weaker}
use Rattle.f_tree.specs.Lines.{unit_read}
use Rattle.name_facts.specs.declaration_rows.NameRows.{given_names}
use Rattle.loop_entries.proofs.FitLemmas.{reads_as, places_are}
use Rattle.loop_entries.proofs.FunctionLaws.{unit_told}
use Rattle.loop_entries.proofs.entries.branches_stay_outside.Goals as goal

pub returns : goal.returns
returns c =
    let u = c.args.unit.now in
    let ss = c.as_slice-statements.result.now in
    IfOk-weaker c.each_branches_well.result _ _
    (λ well told options are.
    told (unit_read options u) (given_names u) (reads_as options u ss c.as_slice-statements.ensures) are
    (places_are options u ss c.in_ok-places.places c.as_slice-statements.ensures c.in_ok-places.ensures)
    (unit_told u c.args.table.now c.in_ok-functions.functions c.requires c.in_ok-functions.ensures))
    c.each_branches_well.ensures
