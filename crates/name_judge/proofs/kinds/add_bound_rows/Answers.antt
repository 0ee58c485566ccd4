use Rattle.std.proofs.Common.{refl}
use Rattle.f_tree.specs.declared.names.Class.{Class}
use Rattle.f_tree.specs.declared.names.Class.TheVariants as class
use Rattle.name_judge.specs.FactRows.{bound_by}
use Rattle.name_judge.proofs.KindLemmas.{nothing_at, of_three, of_four}
use Rattle.name_judge.proofs.kinds.add_bound_rows.Goals as goal

pub returns-in-Constant : goal.returns-in-Constant
unfolding bound_by
returns-in-Constant c =
    nothing_at c.args.place _ _
    (of_four (λ (k : Class). bound_by k c.args.row c.args.are_bounds c.args.fact.now) c.args.fact.now.class class.Constant class.Result class.Procedure class.DummyProcedure refl refl refl refl c.in-Constant.is)

pub returns-in-StatementFunction : goal.returns-in-StatementFunction
unfolding bound_by
returns-in-StatementFunction c =
    nothing_at c.args.place _ _
    (of_three (λ (k : Class). bound_by k c.args.row c.args.are_bounds c.args.fact.now) c.args.fact.now.class class.StatementFunction class.Intrinsic class.Unit refl refl refl c.in-StatementFunction.is)
