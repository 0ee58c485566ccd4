-- A formatted transfer in either direction: the edits of a format over a list of items. ANSI X3.9-1978, sections 13.3 and 13.5.
use Rattle.std.specs.Prelude.{ℕ, zero, suc, Bool, true, false, Option, None, Some, List, [], ◌∷◌, ◌++◌, length}
use Rattle.edit_meaning.specs.Formats.{Descriptor, Control, Format, Edit, Item, Act, Stop, Served, served, has_item, pass, reverted, before_more, edits_for}
use Rattle.edit_meaning.specs.Halts.{Halt, Number}

-- a direction: whether the transfer goes no further, what a control does, what a descriptor does with an item, and that the transfer halts
pub record Direction (State : Type 0) (Thing : Type 0) : Type 0 where
  pub halted : State → Option Halt
  pub act : Control → State → State
  pub item : Descriptor → Thing → State → State
  pub halt : Halt → State → State

-- the edits over the items, until the transfer goes no further
abbrev pub edited : {State Thing : Type 0} → Direction State Thing → Option Halt → List Edit → List Thing → State → State
edited d (Some halt) edits things state = state
edited d None [] things state = state
edited d None (Item descriptor ∷ edits) [] state = state
edited d None (Item descriptor ∷ edits) (thing ∷ things) state =
    edited d (d.halted (d.item descriptor thing state)) edits things (d.item descriptor thing state)
edited d None (Act control ∷ edits) things state = edited d (d.halted (d.act control state)) edits things (d.act control state)
edited d None (Stop ∷ edits) things state = edited d None edits things state

-- an item that gets no descriptor is error number 4, where nothing halted the transfer before
abbrev pub unserved_by : {State Thing : Type 0} → Direction State Thing → ℕ → Option Halt → State → State
unserved_by d zero halted state = state
unserved_by d (suc more) None state = d.halt (Number 4) state
unserved_by d (suc more) (Some halt) state = state

-- edits over items, and items that get no descriptor
abbrev pub served_over : {State Thing : Type 0} → Direction State Thing → Served → List Thing → State → State
served_over d served things state =
    unserved_by d served.unserved (d.halted (edited d (d.halted state) served.edits things state)) (edited d (d.halted state) served.edits things state)

-- the items of a list under a format, up to the last one's descriptor
abbrev pub transferred : {State Thing : Type 0} → Direction State Thing → Format → List Thing → State → State
transferred d format things state = served_over d (edits_for format (length things)) things state

-- what a format gives behind the last item
abbrev pub closed_by : {State Thing : Type 0} → Direction State Thing → List Edit → State → State
closed_by d edits state = edited d (d.halted state) edits [] state

-- one item at a time: the edits that are left of the pass, and how far the transfer has come
pub record Progress (State : Type 0) : Type 0 where
  pub left : List Edit
  pub state : State

abbrev pub begun : {State : Type 0} → Format → State → Progress State
begun format state = record { left = pass format; state = state }

-- the edits of one more item, from what is left of a pass and, where that has no descriptor, from the format gone on with
abbrev pub turned : Bool → List Edit → Served → Served
turned true again first = before_more first.unserved first (served 1 again)
turned false again first = first

abbrev pub for_next : List Edit → List Edit → Served
for_next again left = turned (has_item again) again (served 1 left)

-- the transfer with one more item
abbrev pub with_next : {State Thing : Type 0} → Direction State Thing → Format → Thing → Progress State → Progress State
with_next d format thing progress =
    let next = for_next (pass (reverted format)) progress.left in
    record { left = next.left; state = served_over d next (thing ∷ []) progress.state }

-- the transfer with the items one by one
abbrev pub with_each : {State Thing : Type 0} → Direction State Thing → Format → List Thing → Progress State → Progress State
with_each d format [] progress = progress
with_each d format (thing ∷ things) progress = with_each d format things (with_next d format thing progress)

-- the edits of items with one more: where those before were all served, it is served from what they left
abbrev pub behind : Served → Served → Served
behind first next = record { edits = first.edits ++ next.edits; unserved = next.unserved; left = next.left }

abbrev pub and_one : ℕ → List Edit → Served → Served
and_one zero again first = behind first (for_next again first.left)
and_one (suc more) again first = record first { unserved = suc (suc more) }

-- the edits with one more item than these serve
abbrev pub one_more : Format → Served → Served
one_more format first = and_one first.unserved (pass (reverted format)) first
