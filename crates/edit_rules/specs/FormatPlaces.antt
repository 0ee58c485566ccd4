-- The places of the code that checks formats, as those of the reader of formats.
use Rattle.std.specs.Prelude.{ℕ, zero, suc, Bool, true, false}
use Rattle.edit_meaning.specs.FormatGrammar as grammar
use Rattle.edit_meaning.specs.FormatTexts as texts
use Rattle.edit_rules.specs.declared.format_signs.Sign.{Sign}
use Rattle.edit_rules.specs.declared.format_signs.Sign.TheVariants as sign
use Rattle.edit_rules.specs.declared.format_places.Joint.{Joint}
use Rattle.edit_rules.specs.declared.format_places.Joint.TheVariants as joint
use Rattle.edit_rules.specs.declared.format_places.Kind.{Kind}
use Rattle.edit_rules.specs.declared.format_places.Kind.TheVariants as kind
use Rattle.edit_rules.specs.declared.format_places.Place.{Place}
use Rattle.edit_rules.specs.declared.format_places.Place.TheVariants as place
use Rattle.edit_rules.specs.declared.format_places.Mode.{Mode}
use Rattle.edit_rules.specs.declared.format_places.Mode.TheVariants as mode
use Rattle.edit_rules.specs.declared.format_places.Move.{Move}
use Rattle.edit_rules.specs.declared.format_places.Move.TheVariants as move

abbrev pub sign_in : Sign → texts.Sign
sign_in sign.LeftParen = texts.LeftParen
sign_in sign.RightParen = texts.RightParen
sign_in sign.Comma = texts.Comma
sign_in sign.Slash = texts.Slash
sign_in sign.Period = texts.Period
sign_in sign.Colon = texts.Colons
sign_in sign.Quote = texts.Quote
sign_in sign.PlusMinus = texts.PlusMinus
sign_in (sign.Digit digit) = texts.Digit digit
sign_in sign.LetterA = texts.LetterA
sign_in sign.LetterB = texts.LetterB
sign_in sign.LetterH = texts.LetterH
sign_in sign.LetterI = texts.LetterI
sign_in sign.LetterL = texts.LetterL
sign_in sign.LetterN = texts.LetterN
sign_in sign.LetterP = texts.LetterP
sign_in sign.LetterR = texts.LetterR
sign_in sign.LetterS = texts.LetterS
sign_in sign.LetterT = texts.LetterT
sign_in sign.LetterX = texts.LetterX
sign_in sign.LetterZ = texts.LetterZ
sign_in sign.Unknown = texts.Unknown

abbrev pub joint_in : Joint → grammar.Joint
joint_in joint.Opened = grammar.Opened
joint_in joint.Wanted = grammar.Wanted
joint_in joint.Free = grammar.Free
joint_in joint.Behind = grammar.Behind

abbrev pub kind_in : Kind → texts.Kind
kind_in kind.Count = texts.Count
kind_in kind.Signed = texts.Signed
kind_in kind.IntWidth = texts.IntWidth
kind_in (kind.Least width) = texts.Least width
kind_in kind.LogicalWidth = texts.LogicalWidth
kind_in kind.TextWidth = texts.TextWidth
kind_in kind.Column = texts.Column
kind_in kind.Left = texts.Left
kind_in kind.Right = texts.Right

abbrev pub place_in : Place → texts.Place
place_in place.Start = texts.Start
place_in (place.At joint) = texts.At (joint_in joint)
place_in (place.Before kind) = texts.Before (kind_in kind)
place_in (place.Inside kind number) = texts.Inside (kind_in kind) number
place_in place.BehindA = texts.BehindA
place_in place.BehindB = texts.BehindB
place_in place.BehindS = texts.BehindS
place_in place.BehindT = texts.BehindT

abbrev pub mode_in : Mode → texts.Mode
mode_in (mode.Outside place) = texts.Outside (place_in place)
mode_in (mode.InText some) = texts.InText some
mode_in (mode.BehindQuote some) = texts.BehindQuote some
mode_in (mode.Verbatim more) = texts.Verbatim more

-- the signs before which a number is a repeat, or a number of characters or columns
abbrev pub is_repeated : texts.Sign → Bool
is_repeated texts.LeftParen = true
is_repeated texts.Slash = true
is_repeated texts.LetterA = true
is_repeated texts.LetterI = true
is_repeated texts.LetterL = true
is_repeated sign = false

abbrev pub has_length : texts.Sign → Bool
has_length texts.LetterH = true
has_length texts.LetterX = true
has_length sign = false

-- a move without what it makes
pub data Shape : Type 0 where
  Refuses : Shape
  Leads : texts.Mode → Shape
  Opening : Shape
  Closing : Shape

abbrev pub shape : texts.Move → Shape
shape texts.Refused = Refuses
shape (texts.To mode change) = Leads mode
shape (texts.Opens repeat) = Opening
shape (texts.Closes change) = Closing

abbrev pub shape_in : Move → Shape
shape_in move.Refused = Refuses
shape_in (move.To mode) = Leads (mode_in mode)
shape_in move.Opens = Opening
shape_in move.Closes = Closing

-- how far a text has come in a format, where so many parentheses are open
pub data Progress : Type 0 where
  Stuck : Progress
  Stands : ℕ → texts.Mode → Progress
  Ended : Progress

abbrev pub closing_at : ℕ → Progress
closing_at zero = Ended
closing_at (suc zero) = Ended
closing_at (suc (suc depth)) = Stands (suc depth) (texts.Outside (texts.At grammar.Behind))

abbrev pub progress_by : ℕ → Shape → Progress
progress_by depth Refuses = Stuck
progress_by depth (Leads mode) = Stands depth mode
progress_by depth Opening = Stands (suc depth) (texts.Outside (texts.At grammar.Wanted))
progress_by depth Closing = closing_at depth
