use Rattle.std.proofs.Common.{ap, ◌∙◌}
use Rattle.fortran_text.specs.Cards.{Card, card_of}
use Rattle.fortran_text.specs.CharactersOfText.{is_end}
use Rattle.fortran_text.specs.KindsOfCards.{text_of}
use Rattle.cards.proofs.kinds.says_end.Goals as goal

pub returns : goal.returns
unfolding card_of
returns c = c.is_end.ensures ∙ ap is_end c.text_of.ensures ∙ ap (λ (card : Card). is_end (text_of card.columns)) c.card_of.ensures
