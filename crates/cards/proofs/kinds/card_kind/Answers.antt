use Rattle.std.proofs.Common.{ap, ◌∙◌}
use Rattle.fortran_text.specs.Cards.{Card, card_of}
use Rattle.fortran_text.specs.KindsOfCards.{kind_of}
use Rattle.cards.proofs.kinds.card_kind.Goals as goal

pub returns : goal.returns
unfolding card_of
returns c = c.kind_of.ensures ∙ ap (λ (card : Card). kind_of card.columns) c.card_of.ensures
