use Rattle.std.proofs.Common.{◌≡◌, ◌-◌, ◌≤◌, Option, length}
use Rattle.c_tree.specs.simulation.Machine as machine
use Rattle.c_tree.specs.run_state.Units.{Units}
use Rattle.c_tree.specs.Meaning as meaning
use Rattle.c_tree.specs.Steps.{language}
use Rattle.c_tree.specs.World.{Transfer}
use Rattle.linked_programs.specs.LinkedPrograms.{program_of}
use Rattle.item_deeds.specs.Deeds.{world_of}
use Rattle.item_deeds.specs.Forms.{SameForms}
use Rattle.run_library.specs.Replies.{StandsIn}
use Rattle.run_library.specs.Devices.{NoFailure}
use Rattle.program_runner.specs.Stacks.{state_of, IsStack}
use Rattle.program_runner.proofs.runs.run.Given as goal

abbrev pub invariant-loop-taken : goal.invariant-loop-taken
invariant-loop-taken g l = record {
  reached : (units : Units) → (transfer : Option Transfer) → g.L.Library.stands l.initial.library units transfer →
      StandsIn (g.L.Library.stands l.library) l.run (λ after.
      machine.run language (meaning.machine (program_of l.program)) l.taken (state_of l.initial.stack (world_of l.initial.run units transfer)) ≡ state_of l.stack after);
  texts : g.L.Library.room l.library ≡ g.L.Library.room l.initial.library;
  quiet : NoFailure g.L.Library.none_failed l.initial.library l.library;
  stack : IsStack (length l.program.functions) l.stack;
  kept : SameForms l.initial.run l.run;
  few : l.taken ≤ l.steps;
}

abbrev pub decreases-loop-taken : goal.decreases-loop-taken
decreases-loop-taken g l = l.steps - l.taken
