use Rattle.std.proofs.Common.{map, subst, sym}
use Rattle.f2c_outside.specs.Memory.{IsTargetOf}
use Rattle.f2c_outside.specs.Entries.{named}
use Rattle.f2c_outside.specs.declared.shelves.Place.{Place}
use Rattle.f2c_outside.specs.declared.memory_shelf.Opened.TheVariants.{Last}
use Rattle.f2c_outside.proofs.MemoryLaws.{file_begun}
use Rattle.f2c_outside.proofs.memory_shelf.target_of.Goals as goal

pub returns-in_ok-push_empty-in-File-clause-ok : goal.returns-in_ok-push_empty-in-File-clause-ok
returns-in_ok-push_empty-in-File-clause-ok c =
    subst
    (λ (place : Place). IsTargetOf place (map named c.args.entries.now.items) (map named c.push_empty.new.entries.items) Last)
    (sym c.in-File.is)
    (file_begun c.in-File.name (map named c.args.entries.now.items) (map named c.push_empty.new.entries.items)
    c.in_ok-push_empty-in-File.ensures.ok)
