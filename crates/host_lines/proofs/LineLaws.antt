-- What reading and writing lines rests on: where line feeds stand in joined texts, and what several reads or writes do.
use Rattle.std.proofs.Common.{◌≡◌, ℕ, zero, suc, min, ◌+◌, ◌-◌, ◌<◌, ◌≤◌, Bool, true, false, not, ◌||◌, List, [], ◌∷◌, ◌++◌, length, take, drop, get_or, Option, Some, None, refl, ap, sym, ◌∙◌, subst, arith, append_assoc, length-drop}
use Rattle.std.specs.Prelude.{Result, Ok, Err, OnErr, IfSome, if◌then◌else◌}
use Rattle.std.specs.List.{list_any}
use Rattle.std.proofs.lemmas.List.Folds.{list_any-append}
use Rattle.std.specs.Io.KnownBytes.{Consumes, Appends, Keeps}
use Rattle.std.proofs.KnownBytes.{Consumes-trans, Appends-nil, Appends-trans}
use lib.Seq.{take-add}
use Rattle.host_lines.specs.Lines.{is_end, HasNoEnd, ends_in, inside_after, LosesPart, HasFirst, AddsPart, PutFront, IsLastEnd, Moved, WritesFrontAt}
use Rattle.host_lines.specs.declared.reading.Found.TheVariants.{Line}

-- two texts without a line feed, joined
pub no-end-joined : (front back : List ℕ) → HasNoEnd front → HasNoEnd back → HasNoEnd (front ++ back)
no-end-joined front back one two = list_any-append is_end front back ∙ ap (λ (b : Bool). b || list_any is_end back) one ∙ two

counted-on : (is : Bool) (both front back : ℕ) → both ≡ front + back → (if is then suc both else both) ≡ (if is then suc front else front) + back
counted-on true both front back is = omega arith
counted-on false both front back is = is

pub ends-joined : (front back : List ℕ) → ends_in (front ++ back) ≡ ends_in front + ends_in back
ends-joined [] back = omega arith
ends-joined (byte ∷ front) back =
    counted-on (is_end byte) (ends_in (front ++ back)) (ends_in front) (ends_in back) (ends-joined front back)

pub inside-joined : (inside : Bool) (front back : List ℕ) → inside_after inside (front ++ back) ≡ inside_after (inside_after inside front) back
inside-joined inside [] back = refl
inside-joined inside (byte ∷ front) back = inside-joined (not (is_end byte)) front back

-- a byte of a line was taken and is lost
pub byte-lost :
    {T E : Type 0} (result : Result T E) (old mid new : Option (List ℕ)) (line : List ℕ) (byte : ℕ)
    → HasNoEnd line
    → Consumes old mid line
    → is_end byte ≡ false
    → Consumes mid new (byte ∷ [])
    → OnErr result (LosesPart old new)
byte-lost (Ok x) old mid new line byte none taken no-end more = tt
byte-lost (Err e) old mid new line byte none taken no-end more =
    record {
      lost = line ++ byte ∷ [];
      taken = Consumes-trans old mid new line (byte ∷ []) taken more;
      none = no-end-joined line (byte ∷ []) none (ap (λ (b : Bool). b || false) no-end);
    }

-- the line so far and the part before the first line feed of what was taken behind it
pub first-line :
    (old mid new : Option (List ℕ)) (line bytes line' : List ℕ)
    → HasNoEnd line
    → Consumes old mid line
    → Consumes mid new bytes
    → AddsPart bytes line line'
    → IfSome old (HasFirst Line line')
first-line None mid new line bytes line' none taken more added = tt
first-line (Some xs) None new line bytes line' none taken more added = absurd taken
first-line (Some xs) (Some ys) None line bytes line' none taken more added = absurd more
first-line (Some xs) (Some ys) (Some zs) line bytes line' none taken more added =
    let rest : List ℕ = added.line.rest ++ zs
    in let behind : ys ≡ added.part ++ 10 ∷ rest =
    more ∙ ap (λ (l : List ℕ). l ++ zs) added.line.is ∙ append_assoc added.part (10 ∷ added.line.rest) zs
    in record {
      rest = rest;
      is =
          taken
          ∙ ap (λ (l : List ℕ). line ++ l) behind
          ∙ sym (append_assoc line added.part (10 ∷ rest))
          ∙ ap (λ (l : List ℕ). l ++ 10 ∷ rest) (sym added.is);
      none = subst HasNoEnd (sym added.is) (no-end-joined line added.part none added.line.none);
    }

-- a front of bytes and a front of the rest are a front
pub put-more :
    (before mid after : Option (List ℕ)) (bytes piece : List ℕ) (done n : ℕ)
    → done ≤ length bytes
    → piece ≡ drop done bytes
    → n ≤ length piece
    → Appends before mid (take done bytes)
    → Appends mid after (take n piece)
    → (done + n ≤ length bytes) × Appends before after (take (done + n) bytes)
put-more before mid after bytes piece done n within is fits put more =
    let long : length piece ≡ length bytes - done = ap length is ∙ length-drop done bytes
    in (
      omega (arith, long),
      subst (Appends before after)
          (ap (λ (l : List ℕ). take done bytes ++ take n l) is ∙ sym (take-add done n bytes))
          (Appends-trans before mid after (take done bytes) (take n piece) put more),
    )

length-joined : (front back : List ℕ) → length (front ++ back) ≡ length front + length back
length-joined [] back = omega arith
length-joined (byte ∷ front) back = let rest = length-joined front back in omega arith

take-behind : (front back : List ℕ) (n : ℕ) → take (length front + n) (front ++ back) ≡ front ++ take n back
take-behind front back n =
    take-add (length front) n (front ++ back)
    ∙ ap (λ (l : List ℕ). l ++ take n (drop (length front) (front ++ back))) (take-append-length front back)
    ∙ ap (λ (l : List ℕ). front ++ take n l) (drop-append-length front back)
  where
    take-append-length : (xs ys : List ℕ) → take (length xs) (xs ++ ys) ≡ xs
    take-append-length [] ys = refl
    take-append-length (x ∷ xs) ys = ap (λ (l : List ℕ). x ∷ l) (take-append-length xs ys)

    drop-append-length : (xs ys : List ℕ) → drop (length xs) (xs ++ ys) ≡ ys
    drop-append-length [] ys = refl
    drop-append-length (x ∷ xs) ys = drop-append-length xs ys

-- all of a text went out, and a front of the next
pub front-behind :
    {T E : Type 0} (result : Result T E) (before mid after : Option (List ℕ)) (first second : List ℕ)
    → Appends before mid first
    → OnErr result (PutFront mid after second)
    → OnErr result (PutFront before after (first ++ second))
front-behind (Ok x) before mid after first second one two = tt
front-behind (Err e) before mid after first second one two =
    let long : length (first ++ second) ≡ length first + length second = length-joined first second
    in record {
      count = length first + two.count;
      fits = let fits : two.count ≤ length second = two.fits in omega (arith, long);
      put =
          subst (Appends before after) (sym (take-behind first second two.count))
          (Appends-trans before mid after first (take two.count second) one two.put);
    }

-- the byte where a line feed stands, and what is before and behind it
pub split-at : (bytes : List ℕ) (n byte : ℕ) → n < length bytes → byte ≡ get_or bytes n 0 → bytes ≡ take n bytes ++ byte ∷ drop (suc n) bytes
split-at [] n byte within is = absurd (omega arith)
split-at (x ∷ bytes) zero byte within is = ap (λ (y : ℕ). y ∷ bytes) (sym is)
split-at (x ∷ bytes) (suc n) byte within is = ap (λ (rest : List ℕ). x ∷ rest) (split-at bytes n byte (omega arith) is)

pub long-front : (bytes : List ℕ) (n : ℕ) → n < length bytes → n ≡ length (take n bytes)
long-front [] n within = absurd (omega arith)
long-front (x ∷ bytes) zero within = refl
long-front (x ∷ bytes) (suc n) within = ap suc (long-front bytes n (omega arith))

-- counts that stay at a bound, added up
pub capped-sum : (bound lines ends all more : ℕ) → lines ≡ min ends bound → all ≡ ends + more → min (lines + more) bound ≡ min all bound
capped-sum bound lines ends all more is sum = omega arith

-- the last line feed of a piece stands in it
pub last_end_within : (piece : List ℕ) (found : Option ℕ) → IsLastEnd piece found → IfSome found (λ number. number < length piece)
last_end_within piece None end = tt
last_end_within piece (Some number) end =
    let at : number ≡ length end.front = end.at
    in let sum : length piece ≡ length end.front + suc (length end.back) =
    ap length end.is ∙ length-joined end.front (10 ∷ end.back)
    in omega (arith, at, sum)

module _ {F : Type 0} (position : F → Option ℕ) (bytes contents : F → Option (List ℕ)) (offset : ℕ) where
  -- a file that did not move
  pub nothing-written :
      {T E : Type 0} (result : Result T E) (before after : F) (text : List ℕ)
      → Keeps (bytes before) (bytes after)
      → OnErr result (WritesFrontAt position bytes contents offset before after text)
  nothing-written (Ok x) before after text kept = tt
  nothing-written (Err e) before after text kept =
      record {
        there = after;
        kept = kept;
        put = record { count = 0; fits = omega arith; put = Appends-nil (contents after) };
        moved = λ some. absurd (omega arith);
      }

  -- a file that moved, and took a front
  pub front-written :
      {T E : Type 0} (result : Result T E) (before there after : F) (text : List ℕ)
      → Moved position bytes offset before there
      → OnErr result (PutFront (contents there) (contents after) text)
      → OnErr result (WritesFrontAt position bytes contents offset before after text)
  front-written (Ok x) before there after text moved put = tt
  front-written (Err e) before there after text moved put =
      record { there = there; kept = moved.kept; put = put; moved = λ some. moved.moved }
