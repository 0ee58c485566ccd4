use Rattle.std.proofs.Common.{◌≤◌}
use Rattle.f2c_outside.specs.Rows.{rows_of}
use Rattle.item_deeds.specs.Forms.{SameForms}
use Rattle.listed_input.specs.Reading.{place_of}
use Rattle.listed_input.specs.Searching.{Seeking}
use Rattle.listed_input.proofs.items.read_item.Given as goal

-- no value is found so far
abbrev pub invariant-loop : goal.invariant-loop
invariant-loop g l =
    (l.done ≤ l.item.size) × SameForms l.fn.run l.run
    × Seeking (record {
      unit = l.unit;
      item = l.item;
      place = place_of l.fn.reading;
      objects = l.fn.run;
      rows = rows_of (λ b. (goal.Device-dyn g (b.vtable, b.value)).device_state b.value) l.fn.units;
      steps = l.counter;
    }) l.reading l.run (rows_of (λ b. (goal.Device-dyn g (b.vtable, b.value)).device_state b.value) l.units) l.done
