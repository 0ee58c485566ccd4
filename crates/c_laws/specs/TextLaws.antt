-- What holds of each text: it has its tokens, and it does not neither spell a tree nor be refused.
use Rattle.std.specs.Prelude.{ℕ, List}
use Rattle.c_tree.specs.declared.file.CFile.{CFile}
use Rattle.c_tree.specs.Tokens.{Placed, AreTokensOf}
use Rattle.c_tree.specs.CText.{CText, RefusedLine}

-- the tokens of a text
pub record HasTokens (bytes : List ℕ) : Type 0 where
  pub tokens : List Placed
  pub are : AreTokensOf bytes tokens

-- it cannot be that a text spells no tree and is refused at no line
abbrev pub SpellsOrIsRefused : List ℕ → Type 0
SpellsOrIsRefused bytes = ((file : CFile) → CText bytes file → ⊥) → ((line : ℕ) → RefusedLine bytes line → ⊥) → ⊥
