use Rattle.std.proofs.Common.{◌≡◌, drop}
use Rattle.std.specs.Str.{bytes_eq}
use Rattle.cards.specs.Squeezed.{squeezed}
use Rattle.cards.proofs.kinds.is_word.Given as goal

abbrev pub invariant-loop-letter : goal.invariant-loop-letter
invariant-loop-letter l = bytes_eq (squeezed l.fn.text) l.fn.word ≡ bytes_eq (squeezed l.rest) (drop l.letter-index l.word)
