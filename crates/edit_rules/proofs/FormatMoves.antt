-- Moves without what they make, and how far a text has come in a format.
use Rattle.std.proofs.Common.{◌≡◌, ℕ, zero, suc, ◌+◌, ◌-◌, ◌<◌, ◌≤◌, true, false, Option, None, Some, List, [], ◌∷◌, ◌++◌, length, get_or, take, refl, sym, ap, ◌∙◌, arith, add-one}
use Rattle.std.proofs.lemmas.List.{take_more}
use Rattle.edit_meaning.specs.Formats.{Format, Empty, IntIn, TextIn, PlusSigns}
use Rattle.edit_meaning.specs.FormatGrammar.{Behind, is_from}
use Rattle.edit_meaning.specs.FormatTexts.{Made, Mode, Outside, At, Move, Refused, To, Opens, Closes, behind, takes, does, ended, behind_a, behind_s, wide, moved, State, Going, Done, Frame, closed, state_by, next_state, starting}
use Rattle.edit_rules.specs.FormatPlaces.{sign_in, Shape, Refuses, Leads, Opening, Closing, shape, Progress, Stuck, Stands, Ended, closing_at, progress_by}
use Rattle.edit_rules.specs.FormatChecks.{IsFront, IsRefusedAt}
use Rattle.edit_rules.specs.declared.format_signs.Sign.{Sign}
use Rattle.edit_rules.specs.declared.format_signs.Sign.TheVariants as sign
use Rattle.edit_rules.proofs.FormatViable.{then_reach, reach, reach_append, front_reached, refused_at}

pub shape_behind : (change : Made → Made) (move : Move) → shape (behind change move) ≡ shape move
shape_behind change Refused = refl
shape_behind change (To mode next) = refl
shape_behind change (Opens repeat) = refl
shape_behind change (Closes next) = refl

pub a_else : (depth : ℕ) (s : Sign) → ((digit : ℕ) → s ≡ sign.Digit digit → ⊥) → behind_a depth (sign_in s) ≡ ended true (takes (TextIn None)) depth (sign_in s)
a_else depth (sign.Digit digit) h = absurd (h digit refl)
a_else depth _ h = refl

pub s_else : (depth : ℕ) (s : Sign) → (s ≡ sign.LetterP → ⊥) → (s ≡ sign.LetterS → ⊥) → behind_s depth (sign_in s) ≡ ended true (does 1 (PlusSigns false)) depth (sign_in s)
s_else depth sign.LetterP h k = absurd (h refl)
s_else depth sign.LetterS h k = absurd (k refl)
s_else depth _ h k = refl

pub width_else : (depth width : ℕ) (s : Sign) → (s ≡ sign.Period → ⊥) → wide depth width (sign_in s) ≡ ended (is_from 1 1024 width) (takes (IntIn width None)) depth (sign_in s)
width_else depth width sign.Period h = absurd (h refl)
width_else depth width _ h = refl

-- how far the reader has come
abbrev pub progress : Option State → Progress
progress None = Stuck
progress (Some (Going mode made outer)) = Stands (suc (length outer)) mode
progress (Some (Done format)) = Ended

closed_progress : (inner : Format) (outer : List Frame) → progress (Some (closed inner outer)) ≡ closing_at (suc (length outer))
closed_progress inner [] = refl
closed_progress inner (frame ∷ outer) = refl

pub progress_is : (move : Move) (made : Made) (outer : List Frame) → progress (state_by move made outer) ≡ progress_by (suc (length outer)) (shape move)
progress_is Refused made outer = refl
progress_is (To mode change) made outer = refl
progress_is (Opens repeat) made outer = refl
progress_is (Closes change) made outer = closed_progress ((change made).items Empty) outer

pub closing_one : (depth : ℕ) → depth ≤ 1 → closing_at depth ≡ Ended
closing_one zero h = refl
closing_one (suc zero) h = refl
closing_one (suc (suc depth)) h = absurd (omega arith)

pub closing_more : (depth : ℕ) → 1 < depth → closing_at depth ≡ Stands (depth - 1) (Outside (At Behind))
closing_more zero h = absurd (omega arith)
closing_more (suc zero) h = absurd (omega arith)
closing_more (suc (suc depth)) h = let e : suc depth ≡ suc (suc depth) - 1 = omega arith in ap (λ z. Stands z (Outside (At Behind))) e

-- where the reader stands
pub record StandsAt (o : Option State) (depth : ℕ) (mode : Mode) : Type 0 where
  pub made : Made
  pub outer : List Frame
  pub is : o ≡ Some (Going mode made outer)
  pub deep : depth ≡ suc (length outer)

pub stands_at : (o : Option State) (depth : ℕ) (mode : Mode) → progress o ≡ Stands depth mode → StandsAt o depth mode
stands_at None depth mode h = absurd (cc)
stands_at (Some (Done format)) depth mode h = absurd (cc)
stands_at (Some (Going other made outer)) depth mode h =
    let e : other ≡ mode = cc in
    let f : suc (length outer) ≡ depth = cc in
    record { made = made; outer = outer; is = ap (λ z. Some (Going z made outer)) e; deep = sym f }

stuck_is : (o : Option State) → progress o ≡ Stuck → o ≡ None
stuck_is None h = refl
stuck_is (Some (Done format)) h = absurd (cc)
stuck_is (Some (Going mode made outer)) h = absurd (cc)

record EndsWith (o : Option State) : Type 0 where
  format : Format
  is : o ≡ Some (Done format)

ended_is : (o : Option State) → progress o ≡ Ended → EndsWith o
ended_is None h = absurd (cc)
ended_is (Some (Done format)) h = record { format = format; is = refl }
ended_is (Some (Going mode made outer)) h = absurd (cc)

then_some : (o : Option State) → then_reach o (λ state. Some state) ≡ o
then_some None = refl
then_some (Some state) = refl

-- one byte more
pub progress_next : (text : List ℕ) (place depth : ℕ) (mode : Mode) → place < length text → progress (reach (take place text) starting) ≡ Stands depth mode
    → progress (reach (take (suc place) text) starting) ≡ progress_by depth (shape (moved depth mode (get_or text place 0)))
progress_next text place depth mode l h =
    let s = stands_at (reach (take place text) starting) depth mode h in
    let more : take (suc place) text ≡ take place text ++ get_or text place 0 ∷ [] = rw (← add-one) (take_more text place 0 l) in
    ap (λ z. progress (reach z starting)) more
    ∙ ap progress (reach_append (take place text) (get_or text place 0 ∷ []) starting)
    ∙ ap (λ z. progress (then_reach z (λ state. reach (get_or text place 0 ∷ []) state))) s.is
    ∙ ap progress (then_some (next_state (Going mode s.made s.outer) (get_or text place 0)))
    ∙ progress_is (moved (suc (length s.outer)) mode (get_or text place 0)) s.made s.outer
    ∙ ap (λ z. progress_by z (shape (moved z mode (get_or text place 0)))) (sym s.deep)

-- the byte at the place leads nowhere
pub refused_here : (text : List ℕ) (place depth : ℕ) (mode : Mode) → place < length text → progress (reach (take place text) starting) ≡ Stands depth mode
    → progress_by depth (shape (moved depth mode (get_or text place 0))) ≡ Stuck → IsRefusedAt text place
refused_here text place depth mode l h n =
    let s = stands_at (reach (take place text) starting) depth mode h in
    refused_at text place mode s.made s.outer (omega arith) s.is
    (λ k. stuck_is (reach (take (suc place) text) starting) (progress_next text place depth mode l h ∙ n))

-- the byte at the place ends the format
pub front_here : (text : List ℕ) (place depth : ℕ) (mode : Mode) → place < length text → progress (reach (take place text) starting) ≡ Stands depth mode
    → progress_by depth (shape (moved depth mode (get_or text place 0))) ≡ Ended → IsFront text (suc place)
front_here text place depth mode l h n =
    let e = ended_is (reach (take (suc place) text) starting) (progress_next text place depth mode l h ∙ n) in
    front_reached text (suc place) e.format (omega arith) e.is

-- the text ends too early
pub refused_end : (text : List ℕ) (depth : ℕ) (mode : Mode) → progress (reach (take (length text) text) starting) ≡ Stands depth mode → IsRefusedAt text (length text)
refused_end text depth mode h =
    let s = stands_at (reach (take (length text) text) starting) depth mode h in
    refused_at text (length text) mode s.made s.outer (omega arith) s.is (λ k. absurd (omega arith))

deeper_by : (depth other : ℕ) (move : Shape) (mode : Mode) → progress_by depth move ≡ Stands other mode → other ≤ depth + 1
deeper_by depth other Refuses mode h = absurd (cc)
deeper_by depth other (Leads next) mode h = let e : depth ≡ other = cc in omega arith
deeper_by depth other Opening mode h = let e : suc depth ≡ other = cc in omega arith
deeper_by zero other Closing mode h = absurd (cc)
deeper_by (suc zero) other Closing mode h = absurd (cc)
deeper_by (suc (suc depth)) other Closing mode h = let e : suc depth ≡ other = cc in omega arith

-- one byte opens one parenthesis at most
pub deeper : (depth other : ℕ) (move : Shape) (mode : Mode) → progress_by depth move ≡ Stands other mode → other ≤ depth + 1
deeper depth other move mode h = deeper_by depth other move mode h
