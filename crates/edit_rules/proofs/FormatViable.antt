-- Where a format can go on. Each place that the reader comes to has bytes that complete the format.
use Rattle.std.proofs.Common.{◌≡◌, ℕ, zero, suc, ◌+◌, ◌*◌, ◌<◌, ◌≤◌, ◌==◌, nat_le, nat_lt, Bool, true, false, ◌&&◌, if◌then◌else◌, Option, None, Some, IsTrue, List, [], ◌∷◌, ◌++◌, length, take, drop, refl, sym, ap, subst, ◌∙◌, arith}
use Rattle.std.specs.Prelude.{⊤}
use Rattle.std.specs.List.{list_all}
use Rattle.edit_meaning.specs.Formats.{Format, Empty, Group, NextRecord, PlusSigns, ZeroBlanks, IntIn, LogicalIn, TextIn, ToColumn, LeftBy, RightBy}
use Rattle.edit_meaning.specs.FormatGrammar.{is_from, Joint, Opened, Wanted, Free, Behind, may_close, takes_comma, takes_item, IsFormat}
use Rattle.edit_meaning.specs.FormatTexts.{Sign, LeftParen, RightParen, Comma, Slash, Period, Colons, Quote, PlusMinus, Digit, LetterA, LetterB, LetterH, LetterI, LetterL, LetterN, LetterP, LetterR, LetterS, LetterT, LetterX, LetterZ, Unknown, sign_of, Kind, Count, Signed, IntWidth, Least, LogicalWidth, TextWidth, Column, Left, Right, most, Place, Start, At, Before, Inside, BehindA, BehindB, BehindS, BehindT, Mode, Outside, InText, BehindQuote, Verbatim, Made, Move, Refused, To, Opens, Closes, same, keeps, takes, does, has_text, only_if, behind, opens, in_number, item, between, ended, counted, scaled, wide, behind_a, behind_b, behind_s, behind_t, at_start, first_digit, next_digit, in_text_of, in_text, behind_number, behind_quote, verbatim, outside_text, outside, moved, State, Going, Done, Frame, closed, state_by, next_state, starting, Nothing, Front, from_state, found}
use Rattle.edit_rules.specs.FormatChecks.{IsCompletable, IsFront, IsRefusedAt}
use Rattle.edit_rules.proofs.FormatSpelled.{format_run, le_of, within_most}
use Rattle.edit_rules.proofs.FormatFound.{format_found}
use Rattle.edit_rules.proofs.FormatLaws.{spelled_front}

-- the state behind all bytes of a front
abbrev pub then_reach : Option State → (State → Option State) → Option State
then_reach None continue = None
then_reach (Some state) continue = continue state

abbrev pub reach : List ℕ → State → Option State
reach [] state = Some state
reach (c ∷ cs) state = then_reach (next_state state c) (λ next. reach cs next)

-- a number that is begun is no greater than it may be
abbrev LiveKind : Place → Type 0
LiveKind Start = ⊤
LiveKind (At joint) = ⊤
LiveKind (Before kind) = ⊤
LiveKind (Inside kind number) = number ≤ most kind
LiveKind BehindA = ⊤
LiveKind BehindB = ⊤
LiveKind BehindS = ⊤
LiveKind BehindT = ⊤

abbrev pub LiveMode : Mode → Type 0
LiveMode (Outside place) = LiveKind place
LiveMode (InText some) = ⊤
LiveMode (BehindQuote some) = ⊤
LiveMode (Verbatim more) = ⊤

abbrev LiveMove : Move → Type 0
LiveMove Refused = ⊤
LiveMove (To mode change) = LiveMode mode
LiveMove (Opens repeat) = ⊤
LiveMove (Closes change) = ⊤

abbrev pub Live : State → Type 0
Live (Going mode made outer) = LiveMode mode
Live (Done format) = ⊤

live_if : (ok : Bool) (move : Move) → LiveMove move → LiveMove (only_if ok move)
live_if true move h = h
live_if false move h = tt

live_number_by : (ok : Bool) (kind : Kind) (number : ℕ) → nat_le number (most kind) ≡ ok → LiveMove (only_if ok (To (Outside (Inside kind number)) same))
live_number_by true kind number h = le_of number (most kind) h
live_number_by false kind number h = tt

live_number : (kind : Kind) (number : ℕ) → LiveMove (in_number kind number)
live_number kind number = live_number_by (nat_le number (most kind)) kind number refl

live_item : (depth : ℕ) (sign : Sign) → LiveMove (item depth sign)
live_item depth LeftParen = live_if (nat_lt depth 20) (Opens 1) tt
live_item depth Quote = tt
live_item depth PlusMinus = tt
live_item depth (Digit digit) = live_number Count digit
live_item depth LetterA = tt
live_item depth LetterB = tt
live_item depth LetterI = tt
live_item depth LetterL = tt
live_item depth LetterS = tt
live_item depth LetterT = tt
live_item depth _ = tt

live_between : (depth : ℕ) (joint : Joint) (sign : Sign) → LiveMove (between depth joint sign)
live_between depth joint RightParen = live_if (may_close joint) (Closes same) tt
live_between depth joint Comma = live_if (takes_comma joint) (To (Outside (At Wanted)) same) tt
live_between depth joint Slash = tt
live_between depth joint Colons = tt
live_between depth joint LeftParen = live_if (takes_item joint) (item depth LeftParen) (live_item depth LeftParen)
live_between depth joint (Digit digit) = live_if (takes_item joint) (item depth (Digit digit)) (live_item depth (Digit digit))
live_between depth joint Period = live_if (takes_item joint) Refused tt
live_between depth joint Quote = live_if (takes_item joint) (item depth Quote) tt
live_between depth joint PlusMinus = live_if (takes_item joint) (item depth PlusMinus) tt
live_between depth joint LetterA = live_if (takes_item joint) (item depth LetterA) tt
live_between depth joint LetterB = live_if (takes_item joint) (item depth LetterB) tt
live_between depth joint LetterH = live_if (takes_item joint) Refused tt
live_between depth joint LetterI = live_if (takes_item joint) (item depth LetterI) tt
live_between depth joint LetterL = live_if (takes_item joint) (item depth LetterL) tt
live_between depth joint LetterN = live_if (takes_item joint) Refused tt
live_between depth joint LetterP = live_if (takes_item joint) Refused tt
live_between depth joint LetterR = live_if (takes_item joint) Refused tt
live_between depth joint LetterS = live_if (takes_item joint) (item depth LetterS) tt
live_between depth joint LetterT = live_if (takes_item joint) (item depth LetterT) tt
live_between depth joint LetterX = live_if (takes_item joint) Refused tt
live_between depth joint LetterZ = live_if (takes_item joint) Refused tt
live_between depth joint Unknown = live_if (takes_item joint) Refused tt

live_behind : (change : Made → Made) (move : Move) → LiveMove move → LiveMove (behind change move)
live_behind change Refused h = h
live_behind change (To mode next) h = h
live_behind change (Opens repeat) h = h
live_behind change (Closes next) h = h

live_ended : (ok : Bool) (change : Made → Made) (depth : ℕ) (sign : Sign) → LiveMove (ended ok change depth sign)
live_ended ok change depth sign = live_if ok (behind change (between depth Behind sign)) (live_behind change (between depth Behind sign) (live_between depth Behind sign))

live_in_text_of : (number : ℕ) → LiveMove (in_text_of number)
live_in_text_of zero = tt
live_in_text_of (suc more) = tt

live_counted : (depth number : ℕ) (sign : Sign) → LiveMove (counted depth number sign)
live_counted depth number LeftParen = live_if (is_from 1 32767 number) (opens depth number) (live_if (nat_lt depth 20) (Opens number) tt)
live_counted depth number Slash = live_if (is_from 1 32767 number) _ tt
live_counted depth number LetterA = live_if (is_from 1 32767 number) _ tt
live_counted depth number LetterI = live_if (is_from 1 32767 number) _ tt
live_counted depth number LetterL = live_if (is_from 1 32767 number) _ tt
live_counted depth number LetterH = live_if (is_from 1 1024 number) (in_text_of number) (live_in_text_of number)
live_counted depth number LetterX = live_if (is_from 1 1024 number) _ tt
live_counted depth number LetterP = live_if (nat_le number 127) _ tt
live_counted depth number _ = tt

live_scaled : (number : ℕ) (sign : Sign) → LiveMove (scaled number sign)
live_scaled number LetterP = live_if (nat_le number 127) _ tt
live_scaled number _ = tt

live_wide : (depth width : ℕ) (sign : Sign) → LiveMove (wide depth width sign)
live_wide depth width Period = live_if (is_from 1 1024 width) _ tt
live_wide depth width RightParen = live_ended (is_from 1 1024 width) (takes (IntIn width None)) depth RightParen
live_wide depth width Comma = live_ended (is_from 1 1024 width) (takes (IntIn width None)) depth Comma
live_wide depth width Slash = live_ended (is_from 1 1024 width) (takes (IntIn width None)) depth Slash
live_wide depth width Colons = live_ended (is_from 1 1024 width) (takes (IntIn width None)) depth Colons
live_wide depth width (Digit digit) = live_ended (is_from 1 1024 width) (takes (IntIn width None)) depth (Digit digit)
live_wide depth width _ = live_if (is_from 1 1024 width) Refused tt

live_behind_number : (depth : ℕ) (kind : Kind) (number : ℕ) (sign : Sign) → LiveMove (behind_number depth kind number sign)
live_behind_number depth Count number sign = live_counted depth number sign
live_behind_number depth Signed number sign = live_scaled number sign
live_behind_number depth IntWidth number sign = live_wide depth number sign
live_behind_number depth (Least width) number sign = live_ended (nat_le number width) (takes (IntIn width (Some number))) depth sign
live_behind_number depth LogicalWidth number sign = live_ended (is_from 1 1024 number) (takes (LogicalIn number)) depth sign
live_behind_number depth TextWidth number sign = live_ended (is_from 1 1024 number) (takes (TextIn (Some number))) depth sign
live_behind_number depth Column number sign = live_ended (is_from 1 1024 number) (does 1 (ToColumn number)) depth sign
live_behind_number depth Left number sign = live_ended (is_from 1 1024 number) (does 1 (LeftBy number)) depth sign
live_behind_number depth Right number sign = live_ended (is_from 1 1024 number) (does 1 (RightBy number)) depth sign

live_next_digit : (depth : ℕ) (kind : Kind) (number : ℕ) (sign : Sign) → LiveMove (next_digit depth kind number sign)
live_next_digit depth kind number (Digit digit) = live_number kind (number * 10 + digit)
live_next_digit depth kind number RightParen = live_behind_number depth kind number RightParen
live_next_digit depth kind number sign = live_behind_number depth kind number sign

live_first_digit : (kind : Kind) (sign : Sign) → LiveMove (first_digit kind sign)
live_first_digit kind (Digit digit) = live_number kind digit
live_first_digit kind _ = tt

live_a : (depth : ℕ) (sign : Sign) → LiveMove (behind_a depth sign)
live_a depth (Digit digit) = live_number TextWidth digit
live_a depth RightParen = tt
live_a depth Comma = tt
live_a depth Slash = tt
live_a depth Colons = tt
live_a depth _ = tt

live_b : (sign : Sign) → LiveMove (behind_b sign)
live_b LetterN = tt
live_b LetterZ = tt
live_b _ = tt

live_s : (depth : ℕ) (sign : Sign) → LiveMove (behind_s depth sign)
live_s depth LetterS = tt
live_s depth LetterP = tt
live_s depth RightParen = tt
live_s depth Comma = tt
live_s depth Slash = tt
live_s depth Colons = tt
live_s depth _ = tt

live_t : (sign : Sign) → LiveMove (behind_t sign)
live_t (Digit digit) = live_number Column digit
live_t LetterL = tt
live_t LetterR = tt
live_t _ = tt

live_start : (sign : Sign) → LiveMove (at_start sign)
live_start LeftParen = tt
live_start _ = tt

live_outside : (depth : ℕ) (place : Place) (sign : Sign) → LiveMove (outside depth place sign)
live_outside depth Start sign = live_start sign
live_outside depth (At joint) sign = live_between depth joint sign
live_outside depth (Before kind) sign = live_first_digit kind sign
live_outside depth (Inside kind number) sign = live_next_digit depth kind number sign
live_outside depth BehindA sign = live_a depth sign
live_outside depth BehindB sign = live_b sign
live_outside depth BehindS sign = live_s depth sign
live_outside depth BehindT sign = live_t sign

live_outside_text : (blank : Bool) (depth : ℕ) (place : Place) (sign : Sign) → LiveKind place → LiveMove (if blank then To (Outside place) same else outside depth place sign)
live_outside_text true depth place sign h = h
live_outside_text false depth place sign h = live_outside depth place sign

live_in_text : (quote some : Bool) (c : ℕ) → LiveMove (in_text quote some c)
live_in_text true some c = tt
live_in_text false some c = tt

live_behind_quote : (quote some : Bool) (depth c : ℕ) → LiveMove (behind_quote quote some depth c)
live_behind_quote true some depth c = tt
live_behind_quote false some depth c =
    live_if some (behind has_text (outside_text depth (At Behind) c)) (live_behind has_text (outside_text depth (At Behind) c) (live_outside_text (c == 32) depth (At Behind) (sign_of c) tt))

live_verbatim : (more c : ℕ) → LiveMove (verbatim more c)
live_verbatim zero c = tt
live_verbatim (suc more) c = tt

live_moved : (depth : ℕ) (mode : Mode) (c : ℕ) → LiveMode mode → LiveMove (moved depth mode c)
live_moved depth (Outside place) c h = live_outside_text (c == 32) depth place (sign_of c) h
live_moved depth (InText some) c h = live_in_text (c == 39) some c
live_moved depth (BehindQuote some) c h = live_behind_quote (c == 39) some depth c
live_moved depth (Verbatim more) c h = live_verbatim more c

abbrev LiveNext : Option State → Type 0
LiveNext None = ⊤
LiveNext (Some state) = Live state

live_closed : (inner : Format) (outer : List Frame) → Live (closed inner outer)
live_closed inner [] = tt
live_closed inner (frame ∷ outer) = tt

live_by : (move : Move) (made : Made) (outer : List Frame) → LiveMove move → LiveNext (state_by move made outer)
live_by Refused made outer h = tt
live_by (To mode change) made outer h = h
live_by (Opens repeat) made outer h = tt
live_by (Closes change) made outer h = live_closed ((change made).items Empty) outer

live_next : (state : State) (c : ℕ) → Live state → LiveNext (next_state state c)
live_next (Going mode made outer) c h = live_by (moved (suc (length outer)) mode c) made outer (live_moved (suc (length outer)) mode c h)
live_next (Done format) c h = tt

live_reach_by : (cs : List ℕ) (next : Option State) (state : State) → LiveNext next → ((begun : State) → Live begun → reach cs begun ≡ Some state → Live state)
    → then_reach next (λ begun. reach cs begun) ≡ Some state → Live state
live_reach_by cs None state l ih h = absurd (cc)
live_reach_by cs (Some begun) state l ih h = ih begun l h

-- each state that is reached is live
pub live_reach : (front : List ℕ) (begun state : State) → Live begun → reach front begun ≡ Some state → Live state
live_reach [] begun state l h = let e : begun ≡ state = cc in subst Live e l
live_reach (c ∷ cs) begun state l h = live_reach_by cs (next_state begun c) state (live_next begun c l) (λ next k g. live_reach cs next state k g) h

-- bytes that lead from a state to the end of the format
pub record Completes (state : State) : Type 0 where
  pub tail : List ℕ
  pub format : Format
  pub bytes : IsTrue (list_all (λ c. nat_lt c 256) tail)
  pub reaches : reach tail state ≡ Some (Done format)

-- one byte before others
byte_before : (c : ℕ) (state next : State) → IsTrue (nat_lt c 256) → next_state state c ≡ Some next → Completes next → Completes state
byte_before c state next b e completes = record {
  tail = c ∷ completes.tail;
  format = completes.format;
  bytes = ap (λ z. z && list_all (λ c. nat_lt c 256) completes.tail) b ∙ completes.bytes;
  reaches = ap (λ z. then_reach z (λ state. reach completes.tail state)) e ∙ completes.reaches;
}

done_completes : (format : Format) → Completes (Done format)
done_completes format = record { tail = []; format = format; bytes = refl; reaches = refl }

-- a right parenthesis for each list that is open
closed_completes : (outer : List Frame) (inner : Format) → Completes (closed inner outer)
closed_completes [] inner = done_completes inner
closed_completes (frame ∷ outer) inner =
    byte_before 41 _ (closed (frame.before (Group frame.repeat inner Empty)) outer) refl refl (closed_completes outer (frame.before (Group frame.repeat inner Empty)))

free_completes : (made : Made) (outer : List Frame) → Completes (Going (Outside (At Free)) made outer)
free_completes made outer = byte_before 41 _ (closed (made.items Empty) outer) refl refl (closed_completes outer (made.items Empty))

at_completes : (joint : Joint) (made : Made) (outer : List Frame) → Completes (Going (Outside (At joint)) made outer)
at_completes Opened made outer = byte_before 41 _ (closed (made.items Empty) outer) refl refl (closed_completes outer (made.items Empty))
at_completes Free made outer = free_completes made outer
at_completes Behind made outer = byte_before 41 _ (closed (made.items Empty) outer) refl refl (closed_completes outer (made.items Empty))
at_completes Wanted made outer =
    byte_before 47 _ (Going (Outside (At Free)) (does 1 NextRecord made) outer) refl refl (free_completes (does 1 NextRecord made) outer)

-- a number behind which an item ends
ended_completes : (kind : Kind) (number : ℕ) (ok : Bool) (change : Made → Made) (made : Made) (outer : List Frame)
    → behind_number (suc (length outer)) kind number RightParen ≡ ended ok change (suc (length outer)) RightParen → IsTrue ok
    → Completes (Going (Outside (Inside kind number)) made outer)
ended_completes kind number ok change made outer e h =
    byte_before 41 _ (closed ((change made).items Empty) outer) refl
    (ap (λ z. state_by z made outer) e ∙ ap (λ z. state_by (only_if z (Closes (λ made. change made))) made outer) h)
    (closed_completes outer ((change made).items Empty))

is_within : (most number : ℕ) → suc number ≤ most → IsTrue (is_from 1 most (suc number))
is_within most number h =
    ap (λ z. z && nat_le (suc number) most) (within_most 1 (suc number) (omega arith)) ∙ within_most (suc number) most h

fits : (number : ℕ) → suc number ≤ 1024 → IsTrue (is_from 1 1024 (suc number))
fits number h = is_within 1024 number h

count_fits : (number : ℕ) → suc number ≤ 32767 → IsTrue (is_from 1 32767 (suc number))
count_fits number h = is_within 32767 number h

inside_completes : (kind : Kind) (number : ℕ) (made : Made) (outer : List Frame) → number ≤ most kind → Completes (Going (Outside (Inside kind number)) made outer)
inside_completes Count zero made outer h = byte_before 80 _ (Going (Outside (At Free)) made outer) refl refl (at_completes Free made outer)
inside_completes Count (suc number) made outer h =
    byte_before 47 _ (Going (Outside (At Free)) (does (suc number) NextRecord made) outer) refl
    (ap (λ z. state_by (only_if z (To (Outside (At Free)) (does (suc number) NextRecord))) made outer) (count_fits number h))
    (at_completes Free (does (suc number) NextRecord made) outer)
inside_completes Signed number made outer h =
    byte_before 80 _ (Going (Outside (At Free)) made outer) refl
    (ap (λ z. state_by (only_if z (To (Outside (At Free)) same)) made outer) (within_most number 127 h)) (at_completes Free made outer)
inside_completes (Least width) number made outer h =
    ended_completes (Least width) number (nat_le number width) (takes (IntIn width (Some number))) made outer refl (within_most number width h)
inside_completes IntWidth (suc number) made outer h =
    ended_completes IntWidth (suc number) (is_from 1 1024 (suc number)) (takes (IntIn (suc number) None)) made outer refl (fits number h)
inside_completes LogicalWidth (suc number) made outer h =
    ended_completes LogicalWidth (suc number) (is_from 1 1024 (suc number)) (takes (LogicalIn (suc number))) made outer refl (fits number h)
inside_completes TextWidth (suc number) made outer h =
    ended_completes TextWidth (suc number) (is_from 1 1024 (suc number)) (takes (TextIn (Some (suc number)))) made outer refl (fits number h)
inside_completes Column (suc number) made outer h =
    ended_completes Column (suc number) (is_from 1 1024 (suc number)) (does 1 (ToColumn (suc number))) made outer refl (fits number h)
inside_completes Left (suc number) made outer h =
    ended_completes Left (suc number) (is_from 1 1024 (suc number)) (does 1 (LeftBy (suc number))) made outer refl (fits number h)
inside_completes Right (suc number) made outer h =
    ended_completes Right (suc number) (is_from 1 1024 (suc number)) (does 1 (RightBy (suc number))) made outer refl (fits number h)
inside_completes IntWidth zero made outer h =
    byte_before 49 _ (Going (Outside (Inside IntWidth 1)) made outer) refl refl (ended_completes IntWidth 1 true (takes (IntIn 1 None)) made outer refl refl)
inside_completes LogicalWidth zero made outer h =
    byte_before 49 _ (Going (Outside (Inside LogicalWidth 1)) made outer) refl refl (ended_completes LogicalWidth 1 true (takes (LogicalIn 1)) made outer refl refl)
inside_completes TextWidth zero made outer h =
    byte_before 49 _ (Going (Outside (Inside TextWidth 1)) made outer) refl refl (ended_completes TextWidth 1 true (takes (TextIn (Some 1))) made outer refl refl)
inside_completes Column zero made outer h =
    byte_before 49 _ (Going (Outside (Inside Column 1)) made outer) refl refl (ended_completes Column 1 true (does 1 (ToColumn 1)) made outer refl refl)
inside_completes Left zero made outer h =
    byte_before 49 _ (Going (Outside (Inside Left 1)) made outer) refl refl (ended_completes Left 1 true (does 1 (LeftBy 1)) made outer refl refl)
inside_completes Right zero made outer h =
    byte_before 49 _ (Going (Outside (Inside Right 1)) made outer) refl refl (ended_completes Right 1 true (does 1 (RightBy 1)) made outer refl refl)

zero_fits : (number : ℕ) → 0 ≤ number
zero_fits number = omega arith

before_completes : (kind : Kind) (made : Made) (outer : List Frame) → Completes (Going (Outside (Before kind)) made outer)
before_completes kind made outer =
    byte_before 48 _ (Going (Outside (Inside kind 0)) made outer) refl
    (ap (λ z. state_by (only_if z (To (Outside (Inside kind 0)) same)) made outer) (within_most 0 (most kind) (zero_fits (most kind))))
    (inside_completes kind 0 made outer (zero_fits (most kind)))

place_completes : (place : Place) (made : Made) (outer : List Frame) → LiveKind place → Completes (Going (Outside place) made outer)
place_completes Start made outer h = byte_before 40 _ (Going (Outside (At Opened)) made outer) refl refl (at_completes Opened made outer)
place_completes (At joint) made outer h = at_completes joint made outer
place_completes (Before kind) made outer h = before_completes kind made outer
place_completes (Inside kind number) made outer h = inside_completes kind number made outer h
place_completes BehindA made outer h =
    byte_before 41 _ (closed ((takes (TextIn None) made).items Empty) outer) refl refl (closed_completes outer ((takes (TextIn None) made).items Empty))
place_completes BehindB made outer h =
    byte_before 78 _ (Going (Outside (At Behind)) (does 1 (ZeroBlanks false) made) outer) refl refl (at_completes Behind (does 1 (ZeroBlanks false) made) outer)
place_completes BehindS made outer h =
    byte_before 80 _ (Going (Outside (At Behind)) (does 1 (PlusSigns true) made) outer) refl refl (at_completes Behind (does 1 (PlusSigns true) made) outer)
place_completes BehindT made outer h =
    byte_before 76 _ (Going (Outside (Before Left)) made outer) refl refl (before_completes Left made outer)

verbatim_completes : (more : ℕ) (made : Made) (outer : List Frame) → Completes (Going (Verbatim more) made outer)
verbatim_completes zero made outer =
    byte_before 32 _ (Going (Outside (At Behind)) (has_text (keeps 32 made)) outer) refl refl (at_completes Behind (has_text (keeps 32 made)) outer)
verbatim_completes (suc more) made outer = byte_before 32 _ (Going (Verbatim more) (keeps 32 made) outer) refl refl (verbatim_completes more (keeps 32 made) outer)

quoted_completes : (made : Made) (outer : List Frame) → Completes (Going (BehindQuote true) made outer)
quoted_completes made outer = byte_before 41 _ (closed ((has_text made).items Empty) outer) refl refl (closed_completes outer ((has_text made).items Empty))

filled_completes : (made : Made) (outer : List Frame) → Completes (Going (InText true) made outer)
filled_completes made outer = byte_before 39 _ (Going (BehindQuote true) made outer) refl refl (quoted_completes made outer)

text_completes : (some : Bool) (made : Made) (outer : List Frame) → Completes (Going (InText some) made outer)
text_completes true made outer = filled_completes made outer
text_completes false made outer = byte_before 32 _ (Going (InText true) (keeps 32 made) outer) refl refl (filled_completes (keeps 32 made) outer)

mode_completes : (mode : Mode) (made : Made) (outer : List Frame) → LiveMode mode → Completes (Going mode made outer)
mode_completes (Outside place) made outer h = place_completes place made outer h
mode_completes (InText some) made outer h = text_completes some made outer
mode_completes (BehindQuote true) made outer h = quoted_completes made outer
mode_completes (BehindQuote false) made outer h = byte_before 39 _ (Going (InText true) (keeps 39 made) outer) refl refl (filled_completes (keeps 39 made) outer)
mode_completes (Verbatim more) made outer h = verbatim_completes more made outer

-- a format is found where its end is reached
found_by : (cs : List ℕ) (next : Option State) (format : Format) → ((state : State) → reach cs state ≡ Some (Done format) → found cs state ≡ Front format [])
    → then_reach next (λ state. reach cs state) ≡ Some (Done format) → from_state next (λ state. found cs state) ≡ Front format []
found_by cs None format ih h = absurd (cc)
found_by cs (Some state) format ih h = ih state h

found_reached : (text : List ℕ) (state : State) (format : Format) → reach text state ≡ Some (Done format) → found text state ≡ Front format []
found_reached [] (Going mode made outer) format h = absurd (cc)
found_reached [] (Done other) format h = let e : other ≡ format = cc in ap (λ z. Front z []) e
found_reached (c ∷ cs) (Going mode made outer) format h = found_by cs (next_state (Going mode made outer) c) format (λ state g. found_reached cs state format g) h
found_reached (c ∷ cs) (Done other) format h = absurd (cc)

reached_by : (cs : List ℕ) (next : Option State) (format : Format) → ((state : State) → found cs state ≡ Front format [] → reach cs state ≡ Some (Done format))
    → from_state next (λ state. found cs state) ≡ Front format [] → then_reach next (λ state. reach cs state) ≡ Some (Done format)
reached_by cs None format ih h = absurd (cc)
reached_by cs (Some state) format ih h = ih state h

reached_found : (text : List ℕ) (state : State) (format : Format) → found text state ≡ Front format [] → reach text state ≡ Some (Done format)
reached_found [] (Going mode made outer) format h = absurd (cc)
reached_found [] (Done other) format h = let e : other ≡ format = cc in ap (λ z. Some (Done z)) e
reached_found (c ∷ cs) (Going mode made outer) format h = reached_by cs (next_state (Going mode made outer) c) format (λ state g. reached_found cs state format g) h
reached_found (c ∷ cs) (Done other) format h = absurd (cc)

reach_by : (cs more : List ℕ) (next : Option State) → ((state : State) → reach (cs ++ more) state ≡ then_reach (reach cs state) (λ state. reach more state))
    → then_reach next (λ state. reach (cs ++ more) state) ≡ then_reach (then_reach next (λ state. reach cs state)) (λ state. reach more state)
reach_by cs more None ih = refl
reach_by cs more (Some state) ih = ih state

-- further bytes
pub reach_append : (front more : List ℕ) (state : State) → reach (front ++ more) state ≡ then_reach (reach front state) (λ state. reach more state)
reach_append [] more state = refl
reach_append (c ∷ cs) more state = reach_by cs more (next_state state c) (λ next. reach_append cs more next)

-- a front at which the reader stands can become a format
pub completable : (front : List ℕ) (mode : Mode) (made : Made) (outer : List Frame) → reach front starting ≡ Some (Going mode made outer) → IsCompletable front
completable front mode made outer h =
    let l : LiveMode mode = live_reach front starting (Going mode made outer) tt h in
    let completes = mode_completes mode made outer l in
    record {
      tail = completes.tail;
      format = completes.format;
      bytes = completes.bytes;
      spelled = format_found (front ++ completes.tail) completes.format []
          (found_reached (front ++ completes.tail) starting completes.format
          (reach_append front completes.tail starting ∙ ap (λ z. then_reach z (λ state. reach completes.tail state)) h ∙ completes.reaches));
    }

-- a front at which it stands nowhere can not
pub not_completable : (front tail : List ℕ) (format : Format) → reach front starting ≡ None → IsFormat format (front ++ tail) → ⊥
not_completable front tail format h f =
    let e : reach (front ++ tail) starting ≡ Some (Done format) = reached_found (front ++ tail) starting format (format_run f) in
    let g : reach (front ++ tail) starting ≡ None = reach_append front tail starting ∙ ap (λ z. then_reach z (λ state. reach tail state)) h in
    let n : None ≡ Some (Done format) = sym g ∙ e in
    cc

-- the format of a front whose end is reached
pub front_reached : (text : List ℕ) (size : ℕ) (format : Format) → size ≤ length text → reach (take size text) starting ≡ Some (Done format) → IsFront text size
front_reached text size format l h = record {
  format = format;
  within = l;
  spelled = format_found (take size text) format [] (found_reached (take size text) starting format h);
}

nothing_by : (place : ℕ) (cs : List ℕ) (next : Option State) (mode : Mode) (made : Made) (outer : List Frame)
    → ((state : State) → reach (take place cs) state ≡ Some (Going mode made outer) → (place < length cs → reach (take (suc place) cs) state ≡ None) → found cs state ≡ Nothing)
    → then_reach next (λ state. reach (take place cs) state) ≡ Some (Going mode made outer)
    → (place < length cs → then_reach next (λ state. reach (take (suc place) cs) state) ≡ None) → from_state next (λ state. found cs state) ≡ Nothing
nothing_by place cs None mode made outer ih h n = refl
nothing_by place cs (Some state) mode made outer ih h n = ih state h n

none_by : (cs : List ℕ) (next : Option State) → then_reach next (λ state. Some state) ≡ None → from_state next (λ state. found cs state) ≡ Nothing
none_by cs None h = refl
none_by cs (Some state) h = absurd (cc)

-- nothing is found where the reader stands at a place and nowhere behind it
nothing_found : (place : ℕ) (text : List ℕ) (state : State) (mode : Mode) (made : Made) (outer : List Frame) → reach (take place text) state ≡ Some (Going mode made outer)
    → (place < length text → reach (take (suc place) text) state ≡ None) → found text state ≡ Nothing
nothing_found place [] (Going m d o) mode made outer h n = refl
nothing_found zero [] (Done format) mode made outer h n = absurd (cc)
nothing_found (suc place) [] (Done format) mode made outer h n = absurd (cc)
nothing_found zero (c ∷ cs) (Going m d o) mode made outer h n = none_by cs (next_state (Going m d o) c) (n (omega arith))
nothing_found zero (c ∷ cs) (Done format) mode made outer h n = absurd (cc)
nothing_found (suc place) (c ∷ cs) (Done format) mode made outer h n = absurd (cc)
nothing_found (suc place) (c ∷ cs) (Going m d o) mode made outer h n =
    nothing_by place cs (next_state (Going m d o) c) mode made outer (λ state g k. nothing_found place cs state mode made outer g k) h (λ l. n (omega arith))

-- the place at which a text is refused
pub refused_at : (text : List ℕ) (place : ℕ) (mode : Mode) (made : Made) (outer : List Frame) → place ≤ length text → reach (take place text) starting ≡ Some (Going mode made outer)
    → (place < length text → reach (take (suc place) text) starting ≡ None) → IsRefusedAt text place
refused_at text place mode made outer l h n = record {
  none = λ size format f.
      let e : found text starting ≡ Front format (drop size text) = format_run (spelled_front text size format f) in
      let k : found text starting ≡ Nothing = nothing_found place text starting mode made outer h n in
      let never : Nothing ≡ Front format (drop size text) = sym k ∙ e in
      cc;
  within = l;
  before = completable (take place text) mode made outer h;
  after = λ k tail format f. not_completable (take (suc place) text) tail format (n k) f;
}
