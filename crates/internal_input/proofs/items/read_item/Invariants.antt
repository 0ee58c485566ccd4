use Rattle.std.proofs.Common.{◌≡◌, ◌≤◌}
use Rattle.internal_output.specs.Files.{file_of}
use Rattle.listed_input.specs.Reading.{place_of}
use Rattle.internal_input.specs.Searching.{Seeking, left}
use Rattle.internal_input.proofs.ItemSteps.{search_at}
use Rattle.internal_input.proofs.items.read_item.Given as goal

-- no value is found so far
abbrev pub invariant-loop-behind : goal.invariant-loop-behind
invariant-loop-behind l =
    (l.done ≤ l.item.size) × (l.run ≡ l.fn.run) × Seeking (search_at l.item (place_of l.fn.reading) l.fn.run (file_of l.fn.file)) l.reading (file_of l.file) l.buffer l.done

abbrev pub decreases-loop-behind : goal.decreases-loop-behind
decreases-loop-behind l = left (place_of l.reading) (file_of l.file)
