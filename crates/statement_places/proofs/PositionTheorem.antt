-- Where the steps of statements stand, by sums of their sizes.
use Rattle.std.proofs.Common.{◌≡◌, ℕ, zero, suc, ◌+◌, ◌≤◌, List, [], ◌∷◌, length, Option, Some, None, refl, sym, ap, subst, ◌∙◌, arith}
use Rattle.std.specs.Prelude.{slice_get}
use Rattle.f_tree.specs.Facts.{Line, ProgramUnit}
use Rattle.lowering.specs.Units.{skip_size, form_size, line_size, size_before, start_of, mark_at, own_start, form_size_at, own_end}
use Rattle.statement_places.specs.declared.positions.Position.{Position}
use Rattle.statement_places.specs.declared.positions.Positions.{Positions}
use Rattle.statement_places.specs.declared.sizes.Size.{Size}
use Rattle.statement_places.specs.StepPositions.{whole_size, start_in, position_from, ArePositions, position_or, position_in}
use Rattle.statement_places.proofs.ListLemmas.{by_option, beside, beside_none, past_of}
use Rattle.statement_places.proofs.SizeTheorem.{SameSize, whole_same}

-- SUMS
pub start_same : (p : ProgramUnit) (j : ℕ) (lines : List Line) (sizes : List Size) (n : ℕ) → length sizes ≡ length lines
    → ((k : ℕ) (line : Line) (size : Size) → slice_get lines k ≡ Some line → slice_get sizes k ≡ Some size → whole_size size ≡ line_size p (j + k) line) → start_in sizes n ≡ size_before p j lines n
unfolding start_in size_before
start_same p j [] [] n same known = refl
start_same p j [] (size ∷ sizes) n same known = absurd (let e : suc (length sizes) ≡ 0 = same in omega (arith, e))
start_same p j (line ∷ lines) [] n same known = absurd (let e : 0 ≡ suc (length lines) = same in omega (arith, e))
start_same p j (line ∷ lines) (size ∷ sizes) zero same known = refl
start_same p j (line ∷ lines) (size ∷ sizes) (suc n) same known =
    ap (λ m. m + start_in sizes n) (known 0 line size refl refl ∙ ap (λ i. line_size p i line) (let e : j + 0 ≡ j = omega arith in e))
    ∙ ap (λ m. line_size p j line + m)
    (start_same p (suc j) lines sizes n (let e : suc (length sizes) ≡ suc (length lines) = same in omega (arith, e))
    (λ k other more at there. known (suc k) other more at there ∙ ap (λ i. line_size p i other) (let e : j + suc k ≡ suc j + k = omega arith in e)))

start_past : (sizes : List Size) (i : ℕ) → length sizes ≤ i → start_in sizes i ≡ start_in sizes (length sizes)
unfolding start_in
start_past [] i h = refl
start_past (size ∷ sizes) zero h = absurd (let e : suc (length sizes) ≤ 0 = h in omega (arith, e))
start_past (size ∷ sizes) (suc i) h = ap (λ n. whole_size size + n) (start_past sizes i (let e : suc (length sizes) ≤ suc i = h in omega (arith, e)))

-- POSITIONS
pub record IsPosition (p : ProgramUnit) (i : ℕ) (position : Position) : Type 0 where
  pub start : position.start ≡ start_of p i
  pub begins : position.own_start ≡ own_start p i
  pub ends : position.own_end ≡ own_end p i

module _ (p : ProgramUnit) (sizes : List Size) (positions : Positions) (count : length sizes ≡ length p.lines)
    (known : (k : ℕ) (line : Line) (size : Size) → slice_get p.lines k ≡ Some line → slice_get sizes k ≡ Some size → SameSize p k line size) (are : ArePositions sizes positions) where
  starts : (i : ℕ) → start_in sizes i ≡ start_of p i
  unfolding start_of
  starts i =
      start_same p 0 p.lines sizes i count
      (λ k line size at there. whole_same p k line size (known k line size at there) ∙ ap (λ n. line_size p n line) (let e : k ≡ 0 + k = omega arith in e))

  own_at : (i : ℕ) (line : Line) → slice_get p.lines i ≡ Some line → own_start p i ≡ start_of p i + skip_size line.mark
  unfolding own_start mark_at
  own_at i line at = ap (λ o. start_of p i + mark_at o) at

  end_at : (i : ℕ) (line : Line) → slice_get p.lines i ≡ Some line → own_end p i ≡ start_of p i + skip_size line.mark + form_size p i line
  unfolding own_end form_size_at
  end_at i line at = ap (λ n. n + form_size_at p i (slice_get p.lines i)) (own_at i line at) ∙ ap (λ o. start_of p i + skip_size line.mark + form_size_at p i o) at

  own_past : (i : ℕ) → slice_get p.lines i ≡ None → own_start p i ≡ start_of p i
  unfolding own_start mark_at
  own_past i at = ap (λ o. start_of p i + mark_at o) at ∙ (let e : start_of p i + 0 ≡ start_of p i = omega arith in e)

  end_past : (i : ℕ) → slice_get p.lines i ≡ None → own_end p i ≡ start_of p i
  unfolding own_end form_size_at
  end_past i at =
      ap (λ n. n + form_size_at p i (slice_get p.lines i)) (own_past i at) ∙ ap (λ o. start_of p i + form_size_at p i o) at ∙ (let e : start_of p i + 0 ≡ start_of p i = omega arith in e)

  from_same : (i : ℕ) (line : Line) (size : Size) → slice_get p.lines i ≡ Some line → slice_get sizes i ≡ Some size → IsPosition p i (position_from (start_in sizes i) size)
  unfolding position_from
  from_same i line size at there =
      let same = known i line size at there in
      record {
        start = starts i;
        begins = ap (λ n. n + size.skip) (starts i) ∙ ap (λ n. start_of p i + n) same.skip ∙ sym (own_at i line at);
        ends = ap (λ n. n + size.skip + size.form) (starts i) ∙ ap (λ n. start_of p i + n + size.form) same.skip ∙ ap (λ n. start_of p i + skip_size line.mark + n) same.form ∙ sym (end_at i line at);
      }

  past_same : (i : ℕ) → slice_get p.lines i ≡ None → length sizes ≤ i → IsPosition p i (position_or positions.end None)
  unfolding position_or
  past_same i at past =
      let end : positions.end ≡ start_of p i = are.end ∙ sym (start_past sizes i past) ∙ starts i in
      record { start = end; begins = end ∙ sym (own_past i at); ends = end ∙ sym (end_past i at) }

  or_some : (i : ℕ) (o : Option Position) (position : Position) → o ≡ Some position → IsPosition p i position → IsPosition p i (position_or positions.end o)
  unfolding position_or
  or_some i o position is same = subst (λ x. IsPosition p i (position_or positions.end x)) (sym is) same

  or_none : (i : ℕ) (o : Option Position) → o ≡ None → IsPosition p i (position_or positions.end None) → IsPosition p i (position_or positions.end o)
  or_none i o is same = subst (λ x. IsPosition p i (position_or positions.end x)) (sym is) same

  pub position_same : (i : ℕ) → IsPosition p i (position_in positions i)
  unfolding position_in
  position_same i =
      by_option (IsPosition p i (position_in positions i)) (slice_get p.lines i)
      (λ line at.
      beside (IsPosition p i (position_in positions i)) p.lines sizes i line count at
      (λ size there.
      beside (IsPosition p i (position_in positions i)) sizes positions.places.items i size are.count there
      (λ position found.
      or_some i (slice_get positions.places.items i) position found
      (subst (IsPosition p i) (sym (are.each i position found size there)) (from_same i line size at there)))))
      (λ at.
      let none = beside_none p.lines sizes i count at in
      or_none i (slice_get positions.places.items i) (beside_none sizes positions.places.items i are.count none) (past_same i at (past_of sizes i none)))
