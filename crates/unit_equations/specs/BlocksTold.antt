-- What tables tell of blocks, as the meaning has it. ANSI X3.9-1978, sections 5.1, 8.3 and 17.1.
use Rattle.std.specs.Prelude.{suc, ℕ, List, [], ◌∷◌, map, Option, None, option_copied, if◌then◌else◌}
use Rattle.f_tree.specs.Values.{Bytes}
use Rattle.f_tree.specs.Facts as facts
use Rattle.f_tree.specs.Facts.{Attribute}
use Rattle.f_tree.specs.Lines.{Naming, same_block}
use Rattle.declaration_rows.specs.PlacingRows.{Equation}
use Rattle.name_facts.specs.declared.fact.NameFact.{NameFact}
use Rattle.name_facts.specs.declared.table.NameFacts.{NameFacts}
use Rattle.name_facts.specs.GivenFacts.{bounds_of, fact_in}
use Rattle.unit_equations.specs.declared.blocks.Member.{Member}
use Rattle.unit_equations.specs.declared.blocks.Block.{Block}
use Rattle.unit_equations.specs.declared.equations.NamedEquation.{NamedEquation}

-- a name by what a table tells of its size
unfoldable pub attribute_by : NameFact → Attribute
attribute_by f =
    record { basic = f.basic; class = f.class; width = f.width; dimensions = []; bounds = map bounds_of f.bounds; constant = None; expansion = None }

unfoldable pub naming_by : NameFacts → Naming
naming_by table x = attribute_by (fact_in table x)

abbrev pub member_in : Member → facts.Member
member_in m = record { name = m.name.now; size = m.size }

abbrev pub block_in : Block → facts.Block
block_in b = record { name = option_copied b.name; members = map member_in b.members.items }

abbrev pub equation_in : NamedEquation → Equation
equation_in e = record { one = e.one.now; other = e.other.now; by = e.by }

-- the place of a block among blocks; their number where it is not among them
unfoldable pub place_in : Option Bytes → List facts.Block → ℕ
place_in x [] = 0
place_in x (b ∷ bs) = if same_block b.name x then 0 else suc (place_in x bs)
