-- Positions as they are summed up.
use Rattle.std.proofs.Common.{◌≡◌, ℕ, zero, suc, ◌+◌, ◌<◌, List, [], ◌∷◌, get_or, length, Some, refl, sym, ap, ◌∙◌, arith}
use Rattle.std.specs.Prelude.{slice_get}
use Rattle.statement_places.specs.declared.positions.Position.{Position}
use Rattle.statement_places.specs.declared.sizes.Size.{Size}
use Rattle.statement_places.specs.StepPositions.{whole_size, start_in, position_from}
use Rattle.statement_places.proofs.ListLemmas.{same_read}

pub start_none : (sizes : List Size) → start_in sizes 0 ≡ 0
unfolding start_in
start_none [] = refl
start_none (size ∷ sizes) = refl

-- one statement more
start_more : (sizes : List Size) (i : ℕ) (size d : Size) → i < length sizes → size ≡ get_or sizes i d → start_in sizes (i + 1) ≡ start_in sizes i + whole_size size
unfolding start_in
start_more [] i size d h is = absurd (omega (arith, h))
start_more (x ∷ sizes) zero size d h is =
    let one : start_in (x ∷ sizes) (0 + 1) ≡ whole_size x + start_in sizes 0 = refl in
    let none = start_none sizes in
    let e : whole_size x + start_in sizes 0 ≡ 0 + whole_size x = omega (arith, none) in
    one ∙ e ∙ ap (λ (y : Size). 0 + whole_size y) (sym is)
start_more (x ∷ sizes) (suc i) size d h is =
    let more = start_more sizes i size d (let e : suc i < suc (length sizes) = h in omega (arith, e)) is in
    let e : whole_size x + (start_in sizes i + whole_size size) ≡ whole_size x + start_in sizes i + whole_size size = omega arith in
    ap (start_in (x ∷ sizes)) (let f : suc i + 1 ≡ suc (i + 1) = omega arith in f) ∙ ap (λ n. whole_size x + n) more ∙ e

position_end : (start : ℕ) (size : Size) → (position_from start size).own_end + size.turns ≡ start + whole_size size
unfolding position_from whole_size
position_end start size = let e : start + size.skip + size.form + size.turns ≡ start + (size.skip + size.form + size.turns) = omega arith in e

pub end_more : (sizes : List Size) (i : ℕ) (size d : Size) (end after : ℕ) (position : Position) → i < length sizes → size ≡ get_or sizes i d → end ≡ start_in sizes i → position ≡ position_from end size
    → after ≡ position.own_end + size.turns → after ≡ start_in sizes (i + 1)
end_more sizes i size d end after position h is so_far at put =
    put ∙ ap (λ (x : Position). x.own_end + size.turns) at ∙ position_end end size ∙ ap (λ n. n + whole_size size) so_far ∙ sym (start_more sizes i size d h is)

-- where the steps of a statement stand, given those before
abbrev pub Placed : List Size → ℕ → Position → Type 0
Placed sizes k position = (size : Size) → slice_get sizes k ≡ Some size → position ≡ position_from (start_in sizes k) size

pub placed_here : (sizes : List Size) (i : ℕ) (size d : Size) (end : ℕ) (position : Position) → i < length sizes → size ≡ get_or sizes i d → end ≡ start_in sizes i → position ≡ position_from end size
    → Placed sizes i position
placed_here sizes i size d end position h is so_far at =
    λ other there. at ∙ ap (λ n. position_from n size) so_far ∙ ap (position_from (start_in sizes i)) (same_read sizes i size other d h is there)
