-- Programs that are loaded, and why files are not (C89, 3.1.2.4, 3.3.2.2 and 3.7).
use Rattle.std.specs.Prelude.{◌≡◌, List, length, Some, None}
use Rattle.c_tree.specs.declared.file.CFile.{CFile}
use Rattle.c_tree.specs.Linking as linking
use Rattle.linked_programs.specs.LinkedPrograms.{program_of}
use Rattle.run_library.specs.Room.{HasRoom}
use Rattle.program_runner.specs.Outcomes.{FramesStand, HasArgumentRoom}
use Rattle.link_rules.specs.Rules.{or_bytes, has_too_many_bytes}
use Rattle.program_loader.specs.declared.links.LoadFail.{LoadFail}
use Rattle.program_loader.specs.declared.links.LoadFail.TheVariants as fail
use Rattle.program_loader.specs.declared.loading.LoadedProgram.{LoadedProgram}

-- files that keep the rules of linking, loaded: their program, its objects as they start, and what is room enough
pub record IsLoaded (files : List CFile) (loaded : LoadedProgram) : Type 0 where
  pub rules : linking.first_broken_rule files ≡ None
  pub program : program_of loaded.program ≡ linking.program files
  pub objects : loaded.objects ≡ (linking.program files).objects
  -- the frame of each function stands among the objects
  pub frames : FramesStand loaded.program loaded.objects
  -- each function can be active once
  pub depth : length loaded.frames.items ≡ length loaded.program.functions
  pub arguments : HasArgumentRoom loaded.program (length loaded.arguments.items)
  pub texts : HasRoom (length loaded.texts.items) loaded.objects

-- files that are not loaded break this rule, the least one, or memory ran out
abbrev pub IsNotLoaded : List CFile → LoadFail → Type 0
IsNotLoaded files fail.NoMemory = Unit {0}
IsNotLoaded files (fail.Link rule) = linking.first_broken_rule files ≡ Some rule

-- files break at most the rule on bytes
abbrev pub KeepsFirstRules : List CFile → Type 0
KeepsFirstRules files = linking.first_broken_rule files ≡ or_bytes None (has_too_many_bytes files)
