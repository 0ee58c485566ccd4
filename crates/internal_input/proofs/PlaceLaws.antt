-- An item at a place whose offset has more than 64 bits.
use Rattle.std.proofs.Common.{◌≡◌, ℕ, pos, ◌+◌, ◌-◌, ◌<◌, Bool, true, false, List, length, take, refl, ap, ◌∙◌, inl, inr}
use Rattle.std.specs.Prelude.{Ok}
use Rattle.c_tree.specs.declared.outcome.CValue.{CValue}
use Rattle.c_tree.specs.Faults.{Or, after}
use Rattle.c_tree.specs.Objects.{Object}
use Rattle.c_tree.specs.World.{Transfer, World}
use Rattle.c_tree.specs.LibraryArguments.{text_stored, fitted}
use Rattle.c_tree.specs.Transfers.{Upcoming, GoesOn, Answers, ended_by, upcoming}
use Rattle.c_tree.specs.TransferOutput.{ItemKind}
use Rattle.c_tree.specs.TransferInput.{kind_of, value_taken, behind, given, world_behind, line_behind, listed_stop, listed_taken, unless_slashed, listed_item, records_needed}
use Rattle.edit_rules.specs.edit_meaning.ListInput.{Kind}
use Rattle.edit_rules.specs.edit_meaning.ListItems.{Value, IntValue, LogicalValue, TextValue, Kept, Outcome, Filled, Slashed, Failed, EndOfRecords, Item, Takes, Stops, item_over}
use Rattle.library_calls.specs.Room.{HasRoom}
use Rattle.unit_answers.proofs.OrLemmas.{same-rest}
use Rattle.internal_input.specs.Texts.{saturated}
use Rattle.internal_input.proofs.TextLaws.{text-saturated, number-saturated, StandsAt}

same-found : {A B : Type 0} (one other : Or A) (rest : A → Or B) → one ≡ other → after one rest ≡ after other rest
same-found one other rest same = ap (λ found. after found rest) same

value-same : (objects : List Object) (pointer : CValue) (size room : ℕ) (value : Value) → HasRoom room objects → room < 18446744073709551615 →
    value_taken objects (saturated pointer) size value ≡ value_taken objects pointer size value
value-same objects pointer size room (IntValue number) large below = number-saturated objects pointer room number large below
value-same objects pointer size room (LogicalValue true) large below = number-saturated objects pointer room _ large below
value-same objects pointer size room (LogicalValue false) large below = number-saturated objects pointer room _ large below
value-same objects pointer size room (TextValue text) large below = text-saturated objects pointer room (fitted size text) large below
value-same objects pointer size room Kept large below = refl

stop-same : (pointer : CValue) (size room needed : ℕ) (transfer : Transfer) (world : World) (next : Upcoming) (outcome : Outcome) → HasRoom room world.objects → room < 18446744073709551615 →
    listed_stop (saturated pointer) size transfer world next needed outcome ≡ listed_stop pointer size transfer world next needed outcome
stop-same pointer size room needed transfer world next Filled large below = refl
stop-same pointer size room needed transfer world next Slashed large below = refl
stop-same pointer size room needed transfer world next (Failed number text) large below =
    same-found (text_stored world.objects (saturated pointer) (take size text)) (text_stored world.objects pointer (take size text))
    (λ objects. Ok (Answers (ended_by (pos number) transfer (world_behind needed objects transfer world)))) (text-saturated world.objects pointer room (take size text) large below)
stop-same pointer size room needed transfer world next (EndOfRecords text) large below =
    same-rest next.then_comes _ _
    (λ number. same-found (text_stored world.objects (saturated pointer) (take size text)) (text_stored world.objects pointer (take size text))
    (λ objects. Ok (Answers (ended_by number transfer (world_behind (length next.lines + 1) objects transfer world)))) (text-saturated world.objects pointer room (take size text) large below))

taken-same : (kind : Kind) (pointer : CValue) (size room : ℕ) (transfer : Transfer) (world : World) (next : Upcoming) (item : Item) → HasRoom room world.objects → room < 18446744073709551615 →
    listed_taken kind (saturated pointer) size transfer world next item ≡ listed_taken kind pointer size transfer world next item
taken-same kind pointer size room transfer world next (Takes value place later) large below =
    same-found (value_taken world.objects (saturated pointer) size value) (value_taken world.objects pointer size value)
    (λ objects. Ok
    (GoesOn
    (record (given value (behind (length next.lines - length later) transfer)) { place = place; line = line_behind (length next.lines - length later) next.lines transfer.line })
    (world_behind (length next.lines - length later) objects transfer world)))
    (value-same world.objects pointer size room value large below)
taken-same kind pointer size room transfer world next (Stops outcome) large below =
    stop-same pointer size room (records_needed (length next.lines) 0 transfer.place next.lines kind) transfer world next outcome large below

unless-same : (slashed : Bool) (kind : Kind) (pointer : CValue) (size room : ℕ) (transfer : Transfer) (world : World) (next : Upcoming) → HasRoom room world.objects → room < 18446744073709551615 →
    unless_slashed slashed kind size (saturated pointer) transfer world next ≡ unless_slashed slashed kind size pointer transfer world next
unless-same true kind pointer size room transfer world next large below = refl
unless-same false kind pointer size room transfer world next large below = taken-same kind pointer size room transfer world next (item_over transfer.place next.lines kind) large below

-- an item at a place that stands for a pointer
pub item-same : (kind : ItemKind) (place pointer : CValue) (size room : ℕ) (transfer : Transfer) (world : World) → HasRoom room world.objects → room < 18446744073709551615 → StandsAt place pointer →
    listed_item kind size place transfer world ≡ listed_item kind size pointer transfer world
item-same kind place pointer size room transfer world large below (inl same) = ap (λ (at : CValue). listed_item kind size at transfer world) same
item-same kind place pointer size room transfer world large below (inr cut) =
    ap (λ (at : CValue). listed_item kind size at transfer world) cut
    ∙ unless-same transfer.slashed (kind_of kind) pointer size room transfer world (upcoming world transfer.medium) large below
