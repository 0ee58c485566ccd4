use Rattle.std.proofs.Common.{Bool, List, ℕ, ◌++◌, get_or, refl, ap, ◌∙◌, arith}
use Rattle.std.specs.Borrow.{Bor}
use Rattle.found_rows.proofs.Walks.{each_more, each_end}
use Rattle.f_tree.specs.declared.refusals.Kind.TheVariants.{NameNotDeclared}
use Rattle.declaration_rows.specs.Judgement.{unless}
use Rattle.declaration_rows.specs.NameRows.{stood}
use Rattle.declaration_rows.specs.UndeclaredRows.{is_declared, undeclared_dummies}
use Rattle.name_table.specs.Named.{texts}
use Rattle.unit_names.proofs.RowLemmas.{no_name, dummies_step, dummies_none}
use Rattle.unit_names.proofs.definition_rows.add_dummies_rows.Goals as goal

pub loop-dummy-preserved : goal.loop-dummy-preserved
loop-dummy-preserved c =
    let u = c.args.unit.now in
    let s = c.args.statement.now in
    each_more (λ (ds : List (Bor (List ℕ))). stood s (undeclared_dummies u (texts ds))) (λ (d : Bor (List ℕ)). stood s (unless (is_declared u d.now) NameNotDeclared))
    (λ d ds. dummies_step u s d.now (texts ds)) c.args.dummies.now c.loop-dummy.dummy-index (get_or c.args.dummies.now c.loop-dummy.dummy-index no_name) no_name _ _ _ c.loop-dummy-test.true
    refl c.loop-dummy.invariant (c.in_ok-add_unless.ensures ∙ ap (λ (b : Bool). c.loop-dummy.found.items ++ stood s (unless b NameNotDeclared)) c.is_declared-is_declared.ensures)

pub returns : goal.returns
returns c =
    let u = c.args.unit.now in
    let s = c.args.statement.now in
    each_end (λ (ds : List (Bor (List ℕ))). stood s (undeclared_dummies u (texts ds))) (λ (d : Bor (List ℕ)). stood s (unless (is_declared u d.now) NameNotDeclared)) (dummies_none u s)
    c.args.dummies.now c.loop-dummy.dummy-index _ _ (omega arith) c.loop-dummy.invariant
