use Rattle.std.specs.Borrow.{Bor}
use Rattle.std.proofs.Common.{List, ℕ, get_or, refl, arith}
use Rattle.found_rows.proofs.Walks.{each_more, each_end}
use Rattle.declaration_rows.specs.ReferenceRows.{dummy_procedure_rows}
use Rattle.name_table.specs.Named.{texts}
use Rattle.reference_judge.specs.PassedFunctions.{dummy_row}
use Rattle.reference_judge.proofs.BindingLaws.{no_name}
use Rattle.reference_judge.proofs.PassedLaws.{dummies_step, dummies_end}
use Rattle.reference_judge.proofs.functions.add_dummy_rows.Goals as goal

pub loop-name-preserved : goal.loop-name-preserved
loop-name-preserved c =
    let u = c.args.unit.now in
    each_more (λ (ds : List (Bor (List ℕ))). dummy_procedure_rows u (texts ds)) (λ (d : Bor (List ℕ)). dummy_row u d.now)
    (λ (d : Bor (List ℕ)) (ds : List (Bor (List ℕ))). dummies_step u d.now (texts ds)) c.args.listed.now c.loop-name.name-index (get_or c.args.listed.now c.loop-name.name-index no_name) no_name
    _ _ _ c.loop-name-test.true refl c.loop-name.invariant c.in_ok-add_dummy_row.ensures

pub returns : goal.returns
returns c =
    let u = c.args.unit.now in
    each_end (λ (ds : List (Bor (List ℕ))). dummy_procedure_rows u (texts ds)) (λ (d : Bor (List ℕ)). dummy_row u d.now) (dummies_end u) c.args.listed.now c.loop-name.name-index _ _ (omega arith)
    c.loop-name.invariant
