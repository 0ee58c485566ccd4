use Rattle.std.proofs.Common.{List, ℕ, get_or, refl, sym, ◌∙◌, arith}
use Rattle.std.specs.Borrow.{Bor}
use Rattle.std.specs.List.{list_any}
use Rattle.name_table.specs.Named.{texts}
use Rattle.length_judge.specs.KnownNames.{is_star_dummy}
use Rattle.length_judge.proofs.AnyWalks.{any_here, any_more, any_end}
use Rattle.length_judge.proofs.KnownLaws.{no_name}
use Rattle.length_judge.proofs.definitions.any_star_dummy.Goals as goal

pub returns-then-is_star_dummy : goal.returns-then-is_star_dummy
returns-then-is_star_dummy c =
    any_here (λ (ds : List (Bor (List ℕ))). list_any (is_star_dummy c.args.unit.now) (texts ds)) (λ (d : Bor (List ℕ)). is_star_dummy c.args.unit.now d.now) (λ d ds. refl)
    c.args.dummies.now c.loop-dummy.dummy-index (get_or c.args.dummies.now c.loop-dummy.dummy-index no_name) no_name _ c.loop-dummy-test.true refl c.loop-dummy.invariant
    (sym c.is_star_dummy.ensures ∙ c.if-is_star_dummy.true)

pub loop-dummy-preserved : goal.loop-dummy-preserved
loop-dummy-preserved c =
    any_more (λ (ds : List (Bor (List ℕ))). list_any (is_star_dummy c.args.unit.now) (texts ds)) (λ (d : Bor (List ℕ)). is_star_dummy c.args.unit.now d.now) (λ d ds. refl)
    c.args.dummies.now c.loop-dummy.dummy-index (get_or c.args.dummies.now c.loop-dummy.dummy-index no_name) no_name _ c.loop-dummy-test.true refl c.loop-dummy.invariant
    (sym c.is_star_dummy.ensures ∙ c.if-is_star_dummy.false)

pub returns : goal.returns
returns c =
    any_end (λ (ds : List (Bor (List ℕ))). list_any (is_star_dummy c.args.unit.now) (texts ds)) (λ (d : Bor (List ℕ)). is_star_dummy c.args.unit.now d.now) (λ d ds. refl)
    refl c.args.dummies.now c.loop-dummy.dummy-index _ (omega arith) c.loop-dummy.invariant
