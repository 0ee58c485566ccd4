-- A set whose run comes to a form without meaning is not well formed.
use Rattle.std.specs.Prelude.{◌≡◌, ℕ, suc, false, []}
use Rattle.f_tree.specs.declared.units.FileSet.{FileSet}
use Rattle.f_tree.specs.Values.{NoMeaning}
use Rattle.f_tree.specs.Meaning.{units_of}
use Rattle.f_tree.specs.Runs.{no_options, standard_units, setting_apart, MeetsApart}
use Rattle.f_tree.specs.Checks.{is_set_formed, IsIllFormed}
use Rattle.fortran_totality.proofs.AnswerLemmas.{each_answer}
use Rattle.fortran_totality.proofs.RunLemmas.{each_run}
use Rattle.fortran_totality.proofs.StartLemmas.{each_start}
use Rattle.fortran_totality.proofs.StepLemmas.{each_step}

pub ill_formed : (set : FileSet) (n : ℕ) → is_set_formed no_options (setting_apart (units_of no_options set)) set ≡ false → MeetsApart no_options set [] n NoMeaning →
    IsIllFormed set n
ill_formed set n found meets = record {
  found = found;
  meets = meets;
  not_formed = λ formed.
      each_run each_step each_start each_answer (setting_apart (units_of no_options set)) (units_of no_options set) (standard_units []) (suc n) formed meets.meets;
}
