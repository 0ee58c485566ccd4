-- How much the edits of a list do: whether they take an item, do something, or may end the walk.
use Rattle.std.specs.Prelude.{◌≡◌, ℕ, suc, max, List, [], ◌∷◌}
use Rattle.edit_rules.specs.declared.edits.Edit as code
use Rattle.edit_rules.specs.declared.edits.Edit.TheVariants as edit
use Rattle.edit_meaning.specs.Formats.{Format, Edit, Item, Act, Stop, pass}
use Rattle.edit_meaning.specs.FormatGrammar.{Joint, Behind, SpellsList}

-- an edit that takes an item weighs 3, another that does something 2, a colon 1
abbrev pub weight_of : Edit → ℕ
weight_of (Item descriptor) = 3
weight_of (Act control) = 2
weight_of Stop = 1

-- the weight of the heaviest one
abbrev pub heaviest : List Edit → ℕ
heaviest [] = 0
heaviest (edit ∷ edits) = max (weight_of edit) (heaviest edits)

abbrev pub weight_in : code.Edit → ℕ
weight_in (edit.Int width least) = 3
weight_in (edit.Logical width) = 3
weight_in (edit.Text width) = 3
weight_in (edit.Literal from to doubled) = 2
weight_in (edit.Column column) = 2
weight_in (edit.Left columns) = 2
weight_in (edit.Right columns) = 2
weight_in edit.NextRecord = 2
weight_in (edit.ShowPlus plus) = 2
weight_in (edit.ZeroBlanks zeros) = 2
weight_in edit.Done = 0
weight_in edit.NoDescriptor = 0

-- what is to come behind lists that are open one in the other: where the outermost ends, and how much it weighs
pub data Under (end : List ℕ) : ℕ → List ℕ → ℕ → Type 0 where
  last : {after : List ℕ} {more : ℕ} → after ≡ end → more ≡ 0 → Under end 0 after more
  within : {depth more : ℕ} {after : List ℕ} (inside : ℕ) (later : Format) (behind : List ℕ) (rest : ℕ) → SpellsList inside Behind later after behind
      → Under end depth behind rest → more ≡ max (heaviest (pass later)) rest → Under end (suc depth) after more

-- a list is gone through as far as a place: so many lists are open in it, and what is found there and to come weighs what it weighs
pub record Scanning (total : ℕ) (end : List ℕ) (depth weight : ℕ) (before : List ℕ) : Type 0 where
  pub inside : ℕ
  pub joint : Joint
  pub format : Format
  pub after : List ℕ
  pub more : ℕ
  pub spells : SpellsList inside joint format before after
  pub under : Under end depth after more
  pub sum : max weight (max (heaviest (pass format)) more) ≡ total

-- the list that is gone through ends
pub record Scanned (total : ℕ) (end : List ℕ) (weight : ℕ) (behind : List ℕ) : Type 0 where
  pub weighs : weight ≡ total
  pub ends : behind ≡ end
