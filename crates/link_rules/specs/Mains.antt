-- The main program and its parameters.
use Rattle.std.specs.Prelude.{◌&&◌, Bool}
use Rattle.c_tree.specs.declared.file.CFunction.{CFunction}
use Rattle.c_tree.specs.Linking.{named, main_name, has_parameters}

abbrev pub takes_as_main : CFunction → Bool
takes_as_main function = named main_name function && has_parameters function
