use Rattle.std.proofs.Common.{List}
use Rattle.edit_meaning.specs.Formats as formats
use Rattle.edit_rules.specs.Walks.{Stands, StandsIn}
use Rattle.edit_rules.proofs.WalkSteps.{Comes}
use Rattle.edit_rules.proofs.format_walk.FormatWalk.next.Given as goal

abbrev pub invariant-loop-turn : goal.invariant-loop-turn
invariant-loop-turn l = record {
  stands : StandsIn l.self l.text;
  comes : (again rest : List formats.Edit) → Stands l.text again l.initial.self rest → Comes l.wants_item l.text again rest l._turn l.self;
}
