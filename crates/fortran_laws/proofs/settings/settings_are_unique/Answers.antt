use Rattle.fortran_laws.proofs.OneSetting.{one_setting}
use Rattle.fortran_laws.proofs.OneSettingTies.{one_setting_of_files}
use Rattle.fortran_laws.proofs.settings.settings_are_unique.Goals as goal

pub returns-clause-of_units : goal.returns-clause-of_units
returns-clause-of_units c = one_setting

pub returns-clause-of_files : goal.returns-clause-of_files
returns-clause-of_files c = one_setting_of_files
