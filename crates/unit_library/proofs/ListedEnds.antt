-- The end of list-directed output on a unit has no fault (ANSI X3.9-1978, 12.9.5.2 and 13.6.2).
use Rattle.std.proofs.Common.{◌≡◌, ℤ, true, List, [], Some, None, refl, ap, sym, ◌∙◌}
use Rattle.std.specs.Prelude.{Result, Ok, Err}
use Rattle.run_state.specs.declared.refusals.UnitRefusal.{UnitRefusal}
use Rattle.run_state.specs.declared.refusals.UnitRefusal.TheVariants.{NotConnected, NotOffered, Taken, PastEnd, Failed}
use Rattle.c_tree.specs.run_state.Units.{Units}
use Rattle.c_tree.specs.declared.outcome.CFault.{CFault}
use Rattle.c_tree.specs.Faults.{Break, NoMeaning, Faults, Or, after, failing}
use Rattle.c_tree.specs.Objects.{Object}
use Rattle.c_tree.specs.World as media
use Rattle.c_tree.specs.World.{Direction, Output, Layout, Listed, Medium, Transfer, World, Reply}
use Rattle.c_tree.specs.Builtins.{Finish}
use Rattle.c_tree.specs.Library.{library}
use Rattle.c_tree.specs.TransferCalls.{ends}
use Rattle.c_tree.specs.TransferOutput.{put_on_unit, put_last, write_all, new_records}
use Rattle.item_deeds.specs.Deeds.{world_of}
use Rattle.listed_output.specs.declared.calls.ListedOutput.{ListedOutput}
use Rattle.listed_output.specs.Transferring.{StandsFor, listed_kind}

replied-well : (reply : Reply) (why : CFault) → Ok reply ≡ failing why → ⊥
replied-well reply why is = let wrong : Ok reply ≡ failing why = is in cc

abbrev erring : Break → Or Reply
erring reason = Err reason

meant-well : (why : CFault) → erring NoMeaning ≡ failing why → ⊥
meant-well why is = let wrong : NoMeaning ≡ Faults why = cc in cc

-- the last record is written, or refused by a number
abbrev last_put : ℤ → World → Transfer → Result Units UnitRefusal → Or Reply
last_put unit world transfer found = after (put_on_unit unit world found) λ putting. Ok (put_last transfer None putting)

put-well : (unit : ℤ) (world : World) (transfer : Transfer) (found : Result Units UnitRefusal) (why : CFault) → last_put unit world transfer found ≡ failing why → ⊥
put-well unit world transfer (Ok units) why is = replied-well _ why is
put-well unit world transfer (Err NotConnected) why is = replied-well _ why is
put-well unit world transfer (Err NotOffered) why is = replied-well _ why is
put-well unit world transfer (Err Taken) why is = replied-well _ why is
put-well unit world transfer (Err PastEnd) why is = replied-well _ why is
put-well unit world transfer (Err Failed) why is = meant-well why is

-- the transfer, with what is known of it
abbrev shown : ListedOutput → Transfer → Transfer
shown output transfer = record transfer { direction = Output; layout = Listed; medium = media.Unit output.unit }

is-shown : (output : ListedOutput) (transfer : Transfer) → StandsFor output transfer → transfer ≡ shown output transfer
is-shown output transfer stands =
    ap (λ (direction : Direction). record transfer { direction = direction }) stands.direction
    ∙ ap (λ (layout : Layout). record transfer { direction = Output; layout = layout }) stands.layout
    ∙ ap (λ (medium : Medium). record transfer { direction = Output; layout = Listed; medium = medium }) stands.medium

end-called : (objects : List Object) (units : Units) (output : ListedOutput) (transfer : Transfer) →
    library (Finish listed_kind) (world_of objects units (Some (shown output transfer))) []
    ≡ last_put output.unit (world_of objects units (Some (shown output transfer))) (shown output transfer) (write_all output.unit (new_records (shown output transfer) true) units)
unfolding library ends
end-called objects units output transfer = refl

pub ends-well : (output : ListedOutput) (objects : List Object) (units : Units) (transfer : Transfer) (why : CFault) → StandsFor output transfer →
    library (Finish listed_kind) (world_of objects units (Some transfer)) [] ≡ failing why → ⊥
ends-well output objects units transfer why stands is =
    put-well output.unit (world_of objects units (Some (shown output transfer))) (shown output transfer) (write_all output.unit (new_records (shown output transfer) true) units) why
    (sym (ap (λ (one : Transfer). library (Finish listed_kind) (world_of objects units (Some one)) []) (is-shown output transfer stands) ∙ end-called objects units output transfer) ∙ is)
