use Rattle.std.specs.Prelude.{◌≡◌, codes}
use Rattle.std.proofs.Common.{refl}
use Rattle.agreeing_runs.specs.f_tree.declared.names.Class.TheVariants as class
use Rattle.agreeing_runs.specs.f_tree.Meaning.{everything}
use Rattle.agreeing_runs.specs.f_tree.Runs.{runs_opened}
use Rattle.agreeing_runs.specs.Mismatches.{at_call, mismatches_opened}
use Rattle.mismatch_rows.specs.MismatchSources.{mismatch_sources_opened}
use Rattle.mismatch_rows.proofs.rows.disagreeing_calls_are_mismatched.Goals as goal

pub returns-clause-number : goal.returns-clause-number
unfolding everything runs_opened mismatch_sources_opened mismatches_opened
returns-clause-number c =
    at_call _ _ _ _ (record {
      name = codes "s";
      named = refl;
      direct = λ is. absurd (let bad : class.Procedure ≡ class.DummyProcedure = is in cc);
      procedure = record { is_name = refl; place = 1; found = refl; unit = _; unit_is = refl; entry = _; entry_is = refl };
      waiting = _;
      ready = _;
      passed = _;
      calls = refl;
      amiss = refl;
    })

pub returns-clause-argument_type : goal.returns-clause-argument_type
unfolding everything runs_opened mismatch_sources_opened mismatches_opened
returns-clause-argument_type c =
    at_call _ _ _ _ (record {
      name = codes "s";
      named = refl;
      direct = λ is. absurd (let bad : class.Procedure ≡ class.DummyProcedure = is in cc);
      procedure = record { is_name = refl; place = 1; found = refl; unit = _; unit_is = refl; entry = _; entry_is = refl };
      waiting = _;
      ready = _;
      passed = _;
      calls = refl;
      amiss = refl;
    })

pub returns-clause-procedure_kind : goal.returns-clause-procedure_kind
unfolding everything runs_opened mismatch_sources_opened mismatches_opened
returns-clause-procedure_kind c =
    at_call _ _ _ _ (record {
      name = codes "s";
      named = refl;
      direct = λ is. absurd (let bad : class.Procedure ≡ class.DummyProcedure = is in cc);
      procedure = record { is_name = refl; place = 1; found = refl; unit = _; unit_is = refl; entry = _; entry_is = refl };
      waiting = _;
      ready = _;
      passed = _;
      calls = refl;
      amiss = refl;
    })
