-- Whether characters are a format, by which a transfer goes. ANSI X3.9-1978, section 13.1: what stands behind its closing
-- parenthesis does not count, and may be undefined.
use Rattle.std.specs.Prelude.{ℕ, suc, nat_le, List, [], ◌∷◌, Option, Some, None, if◌then◌else◌}
use Rattle.edit_meaning.specs.Formats.{Format}
use Rattle.edit_meaning.specs.FormatTexts.{State, Going, Done, next_state, starting}

-- what characters begin with
pub data Found : Type 0 where
  IsFormat : Format → Found
  -- no format, as a character stands where no format goes on, or one of more than 2,048 characters
  NoFormat : Found
  -- a character of it that is undefined
  NotDefined : Found
  -- they end before a format does that begins so
  TooShort : Found

unfoldable pub led_on : Option State → (State → Found) → Found
led_on None later = NoFormat
led_on (Some state) later = later state

-- the format that goes on with these characters, behind so many others; of one that is undefined there is none
unfoldable pub format_from : ℕ → List (Option ℕ) → State → Found
format_from size cs (Done format) = if nat_le size 2048 then IsFormat format else NoFormat
format_from size [] (Going mode made outer) = TooShort
format_from size (None ∷ cs) (Going mode made outer) = NotDefined
format_from size (Some c ∷ cs) (Going mode made outer) = led_on (next_state (Going mode made outer) c) (λ state. format_from (suc size) cs state)

-- the format at the front of characters, which are come to one after the other
unfoldable pub format_found : List (Option ℕ) → Found
format_found cs = format_from 0 cs starting

unfoldable pub format_choice_opened : Unit {0}
unfolding led_on format_from format_found
format_choice_opened = tt
