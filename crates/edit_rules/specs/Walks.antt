-- A walk that stands in the text of a format: the edits that are still to come in its pass, and those of a pass gone on with.
-- ANSI X3.9-1978, section 13.3.
use Rattle.std.specs.Prelude.{◌≡◌, ℕ, suc, ◌+◌, ◌-◌, ◌≤◌, nat_le, Bool, true, false, if◌then◌else◌, Option, None, Some, unwrap_or, List, [], ◌∷◌, ◌++◌, length, drop, get_or}
use Rattle.edit_meaning.specs.Formats as formats
use Rattle.edit_meaning.specs.Formats.{Format, Item, Act, Stop, Served, led_by, copies, pass, last_group, closing}
use Rattle.edit_meaning.specs.FormatGrammar.{Joint, Wanted, Behind, SpellsList}
use Rattle.edit_rules.specs.FormatParts.{giving, part_of}
use Rattle.edit_rules.specs.FormatScans.{weight_of, heaviest}
use Rattle.edit_rules.specs.PartPlaces.{edit_in}
use Rattle.edit_meaning.specs.Transfers.{for_next}
use Rattle.edit_rules.specs.declared.edits.Edit.{Edit}
use Rattle.edit_rules.specs.declared.edits.Edit.TheVariants as edit
use Rattle.edit_rules.specs.declared.format_walk.Group.{Group}
use Rattle.edit_rules.specs.declared.format_walk.FormatWalk.{FormatWalk}
use Rattle.edit_rules.specs.declared.format_walk.Step.{Step}
use Rattle.edit_rules.specs.declared.format_walk.Step.TheVariants as step

abbrev pub group_of : List Group → ℕ → Group
group_of groups depth = get_or groups depth (record { start = 0; left = 0 })

-- what is to come behind the list in which the walk stands: further copies of each open group and what follows it, outwards. `top` is
-- what is to come outside all groups
pub data Below (text : List ℕ) (groups : List Group) (top : Format) : ℕ → Format → List ℕ → List formats.Edit → Type 0 where
  outermost : {current : Format} {after : List ℕ} {rest : List formats.Edit} → current ≡ top → rest ≡ [] → Below text groups top 0 current after rest
  within : {depth : ℕ} {current : Format} {after : List ℕ} {rest : List formats.Edit} (inner later : Format) (behind : List ℕ) (outer : List formats.Edit)
      → SpellsList (suc (suc depth)) Wanted inner (drop (group_of groups depth).start text) after → 1 ≤ (group_of groups depth).start
      → (group_of groups depth).start ≤ length text → 2 ≤ heaviest (pass inner) → SpellsList (suc depth) Behind later after behind
      → Below text groups top depth later behind outer → rest ≡ copies (group_of groups depth).left (pass inner) ++ (pass later ++ outer)
      → Below text groups top (suc depth) current after rest

-- the rest of the list in which the walk stands: the walk is before a part, or so many copies of an edit are left
pub data Here (text : List ℕ) (place left depth : ℕ) (current : Format) (after : List ℕ) (here : List formats.Edit) : Type 0 where
  fresh : (joint : Joint) → left ≡ 0 → SpellsList (suc depth) joint current (drop place text) after → here ≡ pass current
      → Here text place left depth current after here
  begun : (count : ℕ) (given : formats.Edit) (joint : Joint) (middle : List ℕ) → 1 ≤ left → 2 ≤ weight_of given
      → part_of (drop place text) ≡ giving count given middle → SpellsList (suc depth) joint current middle after
      → here ≡ copies left (given ∷ []) ++ pass current → Here text place left depth current after here

-- the walk stands in the text; `rest` is to come in this pass, and `again` is the pass that the format is gone on with
pub record Stands (text : List ℕ) (again : List formats.Edit) (walk : FormatWalk) (rest : List formats.Edit) : Type 0 where
  pub within : walk.place ≤ length text
  pub begins_within : walk.again ≤ length text
  pub deep : suc walk.depth ≤ 20
  pub current : Format
  pub top : Format
  pub after : List ℕ
  pub here : List formats.Edit
  pub outer : List formats.Edit
  pub stands : Here text walk.place walk.left walk.depth current after here
  pub below : Below text walk.groups top walk.depth current after outer
  pub whole : rest ≡ here ++ outer
  pub reverted : Format
  pub joint : Joint
  pub end : List ℕ
  pub spells : SpellsList 1 joint reverted (drop walk.again text) end
  pub target : Format
  pub goes_on : target ≡ unwrap_or (last_group top) reverted
  pub goes_round : target ≡ unwrap_or (last_group target) target
  pub repeats : again ≡ pass target

-- how far a walk can go before it gives an edit
abbrev pub reach_by : List ℕ → ℕ → List formats.Edit → ℕ
reach_by text place here = (length text - place) + (if nat_le 2 (heaviest here) then 0 else length text)

abbrev pub reach : {text : List ℕ} {again : List formats.Edit} {walk : FormatWalk} {rest : List formats.Edit} → Stands text again walk rest → ℕ
reach {text = text} {walk = walk} stands = reach_by text walk.place stands.here

-- what the edit that a walk gives is, by what was to come: with an item wanted
abbrev pub GivenItem : List ℕ → List formats.Edit → List formats.Edit → FormatWalk → Edit → Option formats.Edit → Type 0
GivenItem text again rest walk given (Some (Item descriptor)) =
    (left : List formats.Edit) × Stands text again walk left × (for_next again rest ≡ record { edits = Item descriptor ∷ []; unserved = 0; left = left })
GivenItem text again rest walk given (Some (Act control)) =
    (left : List formats.Edit) × Stands text again walk left × (for_next again rest ≡ led_by (Act control) (for_next again left))
GivenItem text again rest walk given (Some Stop) = ⊥
GivenItem text again rest walk given None =
    (given ≡ edit.NoDescriptor) × ((left : List formats.Edit) × Stands text again walk left × (for_next again left ≡ for_next again rest))
    × ((for_next again rest).edits ≡ []) × ((for_next again rest).unserved ≡ 1)

-- and with none wanted
abbrev pub GivenNone : List ℕ → List formats.Edit → List formats.Edit → FormatWalk → Edit → Option formats.Edit → Type 0
GivenNone text again rest walk given (Some (Item descriptor)) = ⊥
GivenNone text again rest walk given (Some (Act control)) =
    (left : List formats.Edit) × Stands text again walk left × (closing rest ≡ Act control ∷ closing left)
GivenNone text again rest walk given (Some Stop) = ⊥
GivenNone text again rest walk given None = (given ≡ edit.Done) × Stands text again walk rest × (closing rest ≡ [])

abbrev pub Given : Bool → List ℕ → List formats.Edit → List formats.Edit → FormatWalk → Edit → Type 0
Given true text again rest walk given = GivenItem text again rest walk given (edit_in text given)
Given false text again rest walk given = GivenNone text again rest walk given (edit_in text given)

-- what is to come is the same for a transfer that wants an item, or that wants none
abbrev pub SameFor : Bool → List formats.Edit → List formats.Edit → List formats.Edit → Type 0
SameFor true again rest left = for_next again left ≡ for_next again rest
SameFor false again rest left = left ≡ rest

-- the walk goes on without an edit, and can go less far
pub record GoesOn (wants : Bool) (text : List ℕ) (again rest : List formats.Edit) (bound : ℕ) (walk : FormatWalk) : Type 0 where
  pub left : List formats.Edit
  pub stands : Stands text again walk left
  pub same : SameFor wants again rest left
  pub less : suc (reach stands) ≤ bound

abbrev pub Steps : Bool → List ℕ → List formats.Edit → List formats.Edit → ℕ → Step → Type 0
Steps wants text again rest bound (step.On walk) = GoesOn wants text again rest bound walk
Steps wants text again rest bound (step.Gives given walk) = Given wants text again rest walk given

-- the walk stands in the text
pub record StandsIn (walk : FormatWalk) (text : List ℕ) : Type 0 where
  pub again : List formats.Edit
  pub rest : List formats.Edit
  pub stands : Stands text again walk rest
