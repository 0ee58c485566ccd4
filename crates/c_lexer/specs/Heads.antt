-- What stands at the head of a text, and what is known of the text (C89, 3.1).
use Rattle.std.specs.Prelude.{◌≡◌, ◌<◌, ◌≤◌, ℕ, Bool, true, List, None, length, take, drop}
use Rattle.c_tree.specs.Tokens.{to_comment_end, head_of}
use Rattle.c_tree.specs.Tokens as c
use Rattle.c_lexer.specs.declared.head.Head.{Head}
use Rattle.c_lexer.specs.declared.head.Head.TheVariants as head
use Rattle.c_lexer.specs.declared.head.Known.{Known}
use Rattle.c_lexer.specs.declared.head.Found.{Found}
use Rattle.c_lexer.specs.SeenTokens.{seen}
use Rattle.c_lexer.specs.Strings.{BeginNone}

-- a head, by how many bytes of a text it takes
unfoldable pub seen_head : List ℕ → Head → c.Head
seen_head text (head.Gap len) = c.Gap (take len text) (drop len text)
seen_head text (head.Lexeme token len) = c.Lexeme (seen token) (drop len text)

abbrev pub head_len : Head → ℕ
head_len (head.Gap len) = len
head_len (head.Lexeme token len) = len

-- what is known of the strings and the comments of a text
pub record IsKnown (text : List ℕ) (given : Known) : Type 0 where
  pub quotes : BeginNone text given.quotes
  pub comments : given.comments ≡ true → to_comment_end (drop 2 text) ≡ None

-- the head of a text is this one, and takes some of its bytes
pub record IsHead (text : List ℕ) (wanted : c.Head) (found : Found) : Type 0 where
  pub value : seen_head text found.head ≡ wanted
  pub known : IsKnown text found.known
  pub some : 0 < head_len found.head
  pub within : head_len found.head ≤ length text

abbrev pub IsHeadOf : Bool → List ℕ → Found → Type 0
IsHeadOf alone text found = IsHead text (head_of alone text) found
