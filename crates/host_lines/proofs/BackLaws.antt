-- Where the last line of a text begins, once a piece of the text has a line feed and what stands behind the piece has none.
use Rattle.std.proofs.Common.{◌≡◌, ℕ, zero, suc, ◌+◌, ◌-◌, ◌<◌, Bool, true, false, ◌||◌, List, [], ◌∷◌, ◌++◌, length, take, drop, refl, ap, sym, ◌∙◌, subst, arith, append_assoc}
use Rattle.std.specs.Prelude.{Option, if◌then◌else◌}
use Rattle.std.specs.List.{list_any}
use lib.Seq.{take-add}
use Rattle.host_lines.specs.Lines.{is_end, HasNoEnd, IsLastEndAt, TakesAt, ReadBack, FoundBack, last_line, line_start, HasAt}
use Rattle.host_lines.specs.Lines.ReadBack.{Nothing, Piece}
use Rattle.host_lines.proofs.LineLaws.{no-end-joined}

-- a text with a line feed has one
has-end : (front back : List ℕ) → list_any is_end (front ++ 10 ∷ back) ≡ true
has-end [] back = refl
has-end (byte ∷ front) back = or-true (is_end byte) (list_any is_end (front ++ 10 ∷ back)) (has-end front back)
  where
    or-true : (one two : Bool) → two ≡ true → (one || two) ≡ true
    or-true true two is = refl
    or-true false two is = is

-- a text without a line feed has one line
last-line-none : (bytes : List ℕ) → HasNoEnd bytes → last_line bytes ≡ 0
last-line-none [] none = refl
last-line-none (byte ∷ bytes) none = ap (λ (b : Bool). if b then suc (last_line bytes) else 0) none

-- the last line begins behind the last line feed
last-line-behind : (front back : List ℕ) → HasNoEnd back → last_line (front ++ 10 ∷ back) ≡ suc (length front)
last-line-behind [] back none = ap suc (last-line-none back none)
last-line-behind (byte ∷ front) back none =
    ap (λ (b : Bool). if b then suc (last_line (front ++ 10 ∷ back)) else 0) (has-end (byte ∷ front) back)
    ∙ ap suc (last-line-behind front back none)

-- a piece that is not empty stands behind a front of its whole length
front-long : (text : List ℕ) (from : ℕ) → 0 < length (drop from text) → length (take from text) ≡ from
front-long text zero some = refl
front-long [] (suc from) some = absurd (omega arith)
front-long (byte ∷ text) (suc from) some = ap suc (front-long text from some)

length-joined : (front back : List ℕ) → length (front ++ back) ≡ length front + length back
length-joined [] back = omega arith
length-joined (byte ∷ front) back = let rest = length-joined front back in omega arith

taken-some : (n : ℕ) (bytes : List ℕ) → 0 < length (take n bytes) → 0 < length bytes
taken-some zero bytes some = absurd (omega arith)
taken-some (suc n) [] some = some
taken-some (suc n) (byte ∷ bytes) some = omega arith

-- what stands before an offset, where it is known what stands before it from another on
taken-whole : (text seen : List ℕ) (from upto : ℕ) → from + length seen ≡ upto → HasAt from seen text → take upto text ≡ take from text ++ seen
taken-whole text seen from upto is at =
    ap (λ (n : ℕ). take n text) (sym is)
    ∙ take-add from (length seen) text
    ∙ ap (λ (l : List ℕ). take from text ++ l) at

-- the line feed of a piece is the last where none stands behind the piece
pub line-found :
    (offset from number : ℕ) (piece seen : List ℕ)
    → IsLastEndAt number piece
    → HasNoEnd seen
    → from + length (piece ++ seen) ≡ offset - 1
    → (text : List ℕ)
    → HasAt from (piece ++ seen) text
    → from + number + 1 ≡ line_start text offset
line-found offset from number piece seen end none is text at =
    let front : List ℕ = take from text ++ end.front
    in let parts : piece ++ seen ≡ end.front ++ 10 ∷ (end.back ++ seen) =
    ap (λ (l : List ℕ). l ++ seen) end.is ∙ append_assoc end.front (10 ∷ end.back) seen
    in let whole : take (offset - 1) text ≡ front ++ 10 ∷ (end.back ++ seen) =
    taken-whole text (piece ++ seen) from (offset - 1) is at
    ∙ ap (λ (l : List ℕ). take from text ++ l) parts
    ∙ sym (append_assoc (take from text) end.front (10 ∷ (end.back ++ seen)))
    in let behind : line_start text offset ≡ suc (length front) =
    ap last_line whole ∙ last-line-behind front (end.back ++ seen) (no-end-joined end.back seen end.none none)
    in let parted : length (piece ++ seen) ≡ length end.front + suc (length (end.back ++ seen)) =
    ap length parts ∙ length-joined end.front (10 ∷ (end.back ++ seen))
    in let some : 0 < length (take (length (piece ++ seen)) (drop from text)) =
    let long : length (take (length (piece ++ seen)) (drop from text)) ≡ length (piece ++ seen) = ap length at
    in omega (arith, long, parted)
    in let long : length (take from text) ≡ from =
    front-long text from (taken-some (length (piece ++ seen)) (drop from text) some)
    in let sum : length front ≡ length (take from text) + length end.front = length-joined (take from text) end.front
    in let number-is : number ≡ length end.front = end.at
    in omega (arith, behind, long, sum, number-is)

-- without a line feed before the offset the line begins at the first byte
pub line-at-start :
    (offset from : ℕ) (seen : List ℕ)
    → HasNoEnd seen
    → from ≡ 0
    → from + length seen ≡ offset - 1
    → (text : List ℕ)
    → HasAt from seen text
    → 0 ≡ line_start text offset
line-at-start offset zero seen none at-start is text at =
    sym (ap last_line (taken-whole text seen 0 (offset - 1) is at) ∙ last-line-none seen none)
line-at-start offset (suc from) seen none at-start is text at = absurd (omega arith)

module _ {F : Type 0} (position : F → Option ℕ) (bytes remaining : F → Option (List ℕ)) where
  -- what was read backwards down to an offset, without a line feed
  abbrev pub ReadSoFar : (upto : ℕ) (first : F) (end : ℕ) (file : F) → Type 0
  ReadSoFar upto first end file =
      (seen : List ℕ) × ReadBack position bytes remaining upto first end file seen × (end + length seen ≡ upto) × HasNoEnd seen

  pub nothing-read : (upto end : ℕ) (file : F) → end ≡ upto → ReadSoFar upto file end file
  nothing-read upto end file is = (
    [],
    subst (λ (n : ℕ). ReadBack position bytes remaining upto file n file []) (sym is) Nothing,
    omega arith,
    refl,
  )

  -- a piece without a line feed
  pub read-on :
      (upto from end count : ℕ) (first before after : F) (piece : List ℕ)
      → ReadSoFar upto first end before
      → TakesAt position bytes remaining from before after piece
      → HasNoEnd piece
      → length piece ≡ count
      → from + count ≡ end
      → ReadSoFar upto first from after
  read-on upto from end count first before after piece so-far taken none long is =
      let (seen, read, sum, none-seen) = so-far
      in let whole : from + length piece ≡ end = omega arith
      in let joined : length (piece ++ seen) ≡ length piece + length seen = length-joined piece seen
      in (
        piece ++ seen,
        Piece from end before after piece seen read taken whole,
        omega (arith, joined, whole, sum),
        no-end-joined piece seen none none-seen,
      )

  -- a piece with the line feed
  pub found-back :
      (offset from end count number : ℕ) (first before after : F) (piece : List ℕ)
      → ReadSoFar (offset - 1) first end before
      → TakesAt position bytes remaining from before after piece
      → IsLastEndAt number piece
      → length piece ≡ count
      → from + count ≡ end
      → FoundBack position bytes remaining offset first after (from + number + 1)
  found-back offset from end count number first before after piece so-far taken end-at long is =
      let (seen, read, sum, none-seen) = so-far
      in let whole : from + length piece ≡ end = omega arith
      in let joined : length (piece ++ seen) ≡ length piece + length seen = length-joined piece seen
      in record {
        from = from;
        seen = piece ++ seen;
        read = Piece from end before after piece seen read taken whole;
        start_of = line-found offset from number piece seen end-at none-seen (omega (arith, joined, whole, sum));
      }

  -- no line feed down to the first byte
  pub found-at-start :
      (offset end : ℕ) (first file : F)
      → ReadSoFar (offset - 1) first end file
      → end ≡ 0
      → FoundBack position bytes remaining offset first file 0
  found-at-start offset end first file so-far at-start =
      let (seen, read, sum, none-seen) = so-far
      in record { from = end; seen = seen; read = read; start_of = line-at-start offset end seen none-seen at-start sum }
