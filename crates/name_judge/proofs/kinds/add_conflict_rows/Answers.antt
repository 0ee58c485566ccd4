use Rattle.std.proofs.Common.{refl}
use Rattle.f_tree.specs.declared.names.Class.{Class}
use Rattle.f_tree.specs.declared.names.Class.TheVariants as class
use Rattle.name_judge.specs.FactRows.{conflict_by}
use Rattle.name_judge.proofs.KindLemmas.{nothing_at, of_three}
use Rattle.name_judge.proofs.kinds.add_conflict_rows.Goals as goal

pub returns-in-Stored : goal.returns-in-Stored
unfolding conflict_by
returns-in-Stored c =
    nothing_at c.args.place _ _
    (of_three (λ (k : Class). conflict_by k c.args.is_function c.args.fact.now) c.args.fact.now.class class.Stored class.Dummy class.Procedure refl refl refl c.in-Stored.is)

pub returns-in-StatementFunction : goal.returns-in-StatementFunction
unfolding conflict_by
returns-in-StatementFunction c =
    nothing_at c.args.place _ _
    (of_three (λ (k : Class). conflict_by k c.args.is_function c.args.fact.now) c.args.fact.now.class class.StatementFunction class.Intrinsic class.Unit refl refl refl c.in-StatementFunction.is)
