use Rattle.std.proofs.Common.{List, ℕ, get_or, refl, arith}
use Rattle.std.specs.Borrow.{Bor}
use Rattle.found_rows.proofs.Walks.{each_more, each_end}
use Rattle.declaration_rows.specs.NameRows.{names_rows}
use Rattle.name_table.specs.Named.{texts}
use Rattle.name_judge.specs.FactRows.{given_rows}
use Rattle.name_judge.proofs.KindLemmas.{no_name, names_step, names_none}
use Rattle.name_judge.proofs.judge.add_names_rows.Goals as goal

pub loop-name-preserved : goal.loop-name-preserved
loop-name-preserved c =
    each_more (λ (ds : List (Bor (List ℕ))). names_rows c.args.unit.now (texts ds)) (λ (d : Bor (List ℕ)). given_rows c.args.unit.now d.now) (λ d ds. names_step c.args.unit.now d.now (texts ds))
    c.args.names.now c.loop-name.name-index (get_or c.args.names.now c.loop-name.name-index no_name) no_name _ _ _ c.loop-name-test.true refl c.loop-name.invariant c.in_ok-add_name_rows.ensures

pub returns : goal.returns
returns c =
    each_end (λ (ds : List (Bor (List ℕ))). names_rows c.args.unit.now (texts ds)) (λ (d : Bor (List ℕ)). given_rows c.args.unit.now d.now) (names_none c.args.unit.now) c.args.names.now
    c.loop-name.name-index _ _ (omega arith) c.loop-name.invariant
