use Rattle.std.proofs.Common.{refl}
use Rattle.f_tree.specs.declared.names.Class.{Class}
use Rattle.f_tree.specs.declared.names.Class.TheVariants as class
use Rattle.name_judge.specs.FactRows.{constant_by}
use Rattle.name_judge.proofs.KindLemmas.{nothing_at, of_two, of_four}
use Rattle.name_judge.proofs.kinds.add_constant_row.Goals as goal

pub returns-in-Stored : goal.returns-in-Stored
unfolding constant_by
returns-in-Stored c =
    nothing_at c.args.place _ _
    (of_four (λ (k : Class). constant_by k c.args.fact.now) c.args.fact.now.class class.Stored class.Dummy class.Result class.Procedure refl refl refl refl c.in-Stored.is)

pub returns-in-DummyProcedure : goal.returns-in-DummyProcedure
unfolding constant_by
returns-in-DummyProcedure c =
    nothing_at c.args.place _ _
    (of_two (λ (k : Class). constant_by k c.args.fact.now) c.args.fact.now.class class.DummyProcedure class.StatementFunction refl refl c.in-DummyProcedure.is)

pub returns-in-Intrinsic : goal.returns-in-Intrinsic
unfolding constant_by
returns-in-Intrinsic c =
    nothing_at c.args.place _ _
    (of_two (λ (k : Class). constant_by k c.args.fact.now) c.args.fact.now.class class.Intrinsic class.Unit refl refl c.in-Intrinsic.is)
