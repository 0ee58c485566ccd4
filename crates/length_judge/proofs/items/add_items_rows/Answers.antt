use Rattle.std.proofs.Common.{List, ℕ, get_or, refl, arith}
use Rattle.std.specs.Borrow.{Bor}
use Rattle.found_rows.proofs.Walks.{each_more, each_end}
use Rattle.declaration_rows.specs.LengthRows.{item_rows}
use Rattle.name_table.specs.Named.{texts}
use Rattle.length_judge.specs.ItemsSeen.{item_row}
use Rattle.length_judge.proofs.ItemLaws.{items_step, items_end}
use Rattle.length_judge.proofs.KnownLaws.{no_name}
use Rattle.length_judge.proofs.items.add_items_rows.Goals as goal

pub loop-name-preserved : goal.loop-name-preserved
loop-name-preserved c =
    let u = c.args.unit.now in
    each_more (λ (ds : List (Bor (List ℕ))). item_rows u (texts ds)) (λ (d : Bor (List ℕ)). item_row u d.now) (λ d ds. items_step u d.now (texts ds))
    c.args.names.now c.loop-name.name-index (get_or c.args.names.now c.loop-name.name-index no_name) no_name _ _ _ c.loop-name-test.true refl c.loop-name.invariant c.in_ok-add_item_rows.ensures

pub returns : goal.returns
returns c =
    let u = c.args.unit.now in
    each_end (λ (ds : List (Bor (List ℕ))). item_rows u (texts ds)) (λ (d : Bor (List ℕ)). item_row u d.now) (items_end u) c.args.names.now c.loop-name.name-index _ _ (omega arith)
    c.loop-name.invariant
