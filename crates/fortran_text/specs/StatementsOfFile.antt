-- The statements of a file: label, text, file and first card. ANSI X3.9-1978, sections 3.3 and 3.4: a statement is written on an initial
-- card and the continuation cards after it, and comments may stand between them. A continuation card without a statement before it is in none.
use Rattle.std.specs.Prelude.{ℕ, suc, List, [], ◌∷◌, ◌++◌, length, if◌then◌else◌}
use Rattle.fortran_text.specs.Cards.{Card, cards_of}
use Rattle.fortran_text.specs.CharactersOfText.{is_end}
use Rattle.fortran_text.specs.KindsOfCards.{kind_of, field_of, text_of, label_of}
use Rattle.fortran_text.specs.declared.source.CardKind.{CardKind}
use Rattle.fortran_text.specs.declared.source.CardKind.TheVariants.{Comment, Initial, Continuation}
use Rattle.fortran_text.specs.declared.source.Statement.{Statement}

-- The text of a card of a kind, before the text of the cards after it, up to the next initial card.
unfoldable pub before_text : CardKind → List ℕ → List ℕ → List ℕ
before_text Comment text later = later
before_text Initial text later = []
before_text Continuation text later = text ++ later

-- The text of the continuation cards before the next initial card.
unfoldable pub continued : List Card → List ℕ
continued [] = []
continued (card ∷ more) = before_text (kind_of card.columns) (text_of card.columns) (continued more)

-- The statement of an initial card, with the cards after it. A card that is END by itself is the whole statement.
unfoldable pub statement : ℕ → ℕ → Card → List Card → Statement
statement file number card more = record {
  label = label_of (field_of card.columns);
  text = if is_end (text_of card.columns) then text_of card.columns else text_of card.columns ++ continued more;
  file = file;
  card = number;
}

-- The statement that a card of a kind begins, before those of the cards after it.
unfoldable pub before_statements : CardKind → Statement → List Statement → List Statement
before_statements Comment begun later = later
before_statements Initial begun later = begun ∷ later
before_statements Continuation begun later = later

-- The statements of cards, the first of which has the given number.
unfoldable pub statements : ℕ → ℕ → List Card → List Statement
statements file number [] = []
statements file number (card ∷ more) =
    before_statements (kind_of card.columns) (statement file number card more) (statements file (suc number) more)

-- What a file with the given number says: its statements, and how many cards it has.
pub record FileCards : Type 0 where
  pub statements : List Statement
  pub cards : ℕ

unfoldable pub file_cards : ℕ → List ℕ → FileCards
file_cards file bytes = record {
  statements = statements file 1 (cards_of bytes);
  cards = length (cards_of bytes);
}
