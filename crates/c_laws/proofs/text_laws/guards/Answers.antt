-- What a text's tree keeps.
use Rattle.c_laws.proofs.GuardLaws.{text_fits_file, unknown_name, constant_field}
use Rattle.c_laws.proofs.text_laws.guards.Goals as goal

pub returns-clause-kept : goal.returns-clause-kept
returns-clause-kept c = text_fits_file

pub returns-clause-unknown_name : goal.returns-clause-unknown_name
returns-clause-unknown_name c = unknown_name

pub returns-clause-constant_field : goal.returns-clause-constant_field
returns-clause-constant_field c = constant_field
