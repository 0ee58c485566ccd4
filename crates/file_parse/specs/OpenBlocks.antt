-- What is kept of the blocks that are open, and the first of some refusals.
use Rattle.std.specs.Prelude.{◌≡◌, ◌<◌, ◌+◌, ◌^◌, ℕ, suc, nat_eq, nat_lt, Bool, true, false, List, [], ◌∷◌, ◌++◌, length, unwrap_or, Option, Some, None, if◌then◌else◌}
use Rattle.std.specs.HashMap.{get}
use Rattle.f_tree.specs.declared.refusals.Kind.TheVariants.{NestingTooDeep}
use Rattle.f_tree.specs.declared.refusals.Refusal.{Refusal}
use Rattle.f_tree.specs.declared.statements.Body.{Body}
use Rattle.f_tree.specs.declared.statements.Stmt.{Stmt}
use Rattle.fortran_grammar.specs.SyntaxRows.{Block, IfBlock, LoopTo, is_loop_to, ends_labelled_loop, without_loop, opened_by, open_behind, opens_too_many}
use Rattle.file_parse.specs.declared.nests.OpenBlocks.{OpenBlocks}

abbrev pub is_conditional : Block → Bool
is_conditional IfBlock = true
is_conditional (LoopTo label) = false

abbrev pub is_unlabelled : Block → Bool
is_unlabelled IfBlock = false
is_unlabelled (LoopTo None) = true
is_unlabelled (LoopTo (Some label)) = false

abbrev pub is_labelled : Block → Bool
is_labelled IfBlock = false
is_labelled (LoopTo None) = false
is_labelled (LoopTo (Some label)) = true

-- How many of some blocks pass a test.
abbrev pub raised : Bool → ℕ → ℕ
raised true n = suc n
raised false n = n

unfoldable pub tally : (Block → Bool) → List Block → ℕ
tally test [] = 0
tally test (block ∷ blocks) = raised (test block) (tally test blocks)

-- The loops up to a label.
abbrev pub loops_to : OpenBlocks → ℕ → ℕ
loops_to kept label = unwrap_or (get nat_eq kept.by_label label) 0

-- What is kept of blocks.
pub record Counts (blocks : List Block) (kept : OpenBlocks) : Type 0 where
  pub conditional : kept.conditional ≡ tally is_conditional blocks
  pub unlabelled : kept.unlabelled ≡ tally is_unlabelled blocks
  pub labelled : kept.labelled ≡ tally is_labelled blocks
  pub by_label : (label : ℕ) → loops_to kept label ≡ tally (is_loop_to label) blocks

-- What is kept of blocks becomes what is kept of others.
abbrev pub Becomes : (List Block → List Block) → OpenBlocks → OpenBlocks → Type 0
Becomes change old new = (blocks : List Block) → Counts blocks old → Counts (change blocks) new

-- A block is opened, where there is room for its number.
abbrev pub Opens : Block → OpenBlocks → OpenBlocks → Type 0
Opens block old new = (blocks : List Block) → length blocks + 1 < 2 ^ 64 → Counts blocks old → Counts (block ∷ blocks) new

-- The blocks that are open behind an END DO.
unfoldable pub ended_do : Option ℕ → List Block → List Block
ended_do label blocks = if ends_labelled_loop label blocks then blocks else without_loop blocks

-- What a statement opens, and whether it opens a block.
pub record OpensBody (b : Body) (opens : Bool) (old new : OpenBlocks) : Type 0 where
  pub some : opens ≡ nat_lt 0 (length (opened_by b))
  pub open_now : (blocks : List Block) → length blocks + 1 < 2 ^ 64 → Counts blocks old → Counts (opened_by b ++ blocks) new

-- What is open behind a statement, and whether it is F17.
abbrev pub Passes : Stmt → Bool → OpenBlocks → OpenBlocks → Type 0
Passes s deep old new =
    (blocks : List Block) → length blocks + 1 < 2 ^ 64 → Counts blocks old → Counts (open_behind blocks s) new × (deep ≡ opens_too_many blocks s)

abbrev pub deep_at : Stmt → Refusal
deep_at s = record { file = s.file; card = s.card; kind = NestingTooDeep }
