use Rattle.std.proofs.Common.{List, ℕ, ◌++◌, ◌∷◌, [], map, get_or, refl, sym, ap, ◌∙◌, arith}
use Rattle.std.specs.Borrow.{Bor}
use Rattle.name_uses.proofs.found_rows.Walks.{each_more, each_end}
use Rattle.f_tree.specs.declared.names.Basic.{Basic}
use Rattle.declaration_rows.specs.NameRows.{own_attributes}
use Rattle.name_table.specs.Named.{texts}
use Rattle.definition_judge.proofs.TableLemmas.{no_name}
use Rattle.definition_judge.proofs.dummies.dummy_basics.Goals as goal

pub loop-dummy-init : goal.loop-dummy-init
loop-dummy-init c = ap (λ (bs : List Basic). bs ++ map (λ y. (own_attributes c.args.unit.now y).basic) (texts c.args.dummies.now)) (sym c.new-basics.ensures.items)

pub loop-dummy-preserved : goal.loop-dummy-preserved
loop-dummy-preserved c =
    each_more (λ (ds : List (Bor (List ℕ))). map (λ y. (own_attributes c.args.unit.now y).basic) (texts ds)) (λ (d : Bor (List ℕ)). (own_attributes c.args.unit.now d.now).basic ∷ [])
    (λ d ds. refl) c.args.dummies.now c.loop-dummy.dummy-index (get_or c.args.dummies.now c.loop-dummy.dummy-index no_name) no_name _ _ _ c.loop-dummy-test.true refl c.loop-dummy.invariant
    (c.in_ok-push.ensures.items ∙ ap (λ (b : Basic). c.loop-dummy.basics.items ++ b ∷ []) c.own_basic.ensures)

pub returns : goal.returns
returns c =
    each_end (λ (ds : List (Bor (List ℕ))). map (λ y. (own_attributes c.args.unit.now y).basic) (texts ds)) (λ (d : Bor (List ℕ)). (own_attributes c.args.unit.now d.now).basic ∷ [])
    refl c.args.dummies.now c.loop-dummy.dummy-index _ _ (omega arith) c.loop-dummy.invariant
