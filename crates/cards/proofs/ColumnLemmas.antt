-- Lines in columns.
use Rattle.std.proofs.Common.{◌≡◌, ℕ, zero, suc, ◌+◌, ◌-◌, ◌<◌, ◌≤◌, true, false, List, [], ◌∷◌, ◌++◌, length, take, drop, get_or, replicate, refl, sym, ap, subst, ◌∙◌, add-one, append_assoc, arith, inl, inr}
use Rattle.std.specs.Prelude.{◌==◌, ◌⊎◌, ◌&&◌}
use Rattle.std.specs.List.{list_all}
use Rattle.std.proofs.Math.ListN.{set}
use Rattle.std.proofs.Math.Seq.{take-add, take-suc-set, drop-append_seam}
use Rattle.std.proofs.lemmas.Bool.{cases_Bool}
use Rattle.std.proofs.lemmas.List.{take-append-le, take-replicate, drop-replicate, drop-drop, drop-set-lt, take_all, take-append-drop, length-take, append-nil}
use Rattle.std.proofs.lemmas.List.Folds.{list_all-append}
use Rattle.fortran_text.specs.Cards.{tab_width, spread}
use Rattle.fortran_text.specs.CharactersOfText.{is_blank}
use Rattle.cards.specs.Passes.{is_blank_or_tab}

spread-nil : (column : ℕ) → spread column [] ≡ []
unfolding spread
spread-nil column = refl

spread-tab : (column b : ℕ) (rest : List ℕ) → b == 9 ≡ true → spread column (b ∷ rest) ≡ replicate (tab_width column) 32 ++ spread (column + tab_width column) rest
unfolding spread
spread-tab column b rest h = rw h

spread-other : (column b : ℕ) (rest : List ℕ) → b == 9 ≡ false → spread column (b ∷ rest) ≡ b ∷ spread (suc column) rest
unfolding spread
spread-other column b rest h = rw h

tab_within : (column width : ℕ) → column < width → 6 ≤ width → column + tab_width (suc column) ≤ width
unfolding tab_width
tab_within column width low wide = omega arith

-- What is known when columns are filled up to one and the bytes `past` are left.
pub record Spreading (width : ℕ) (line columns : List ℕ) (column : ℕ) (past : List ℕ) : Type 0 where
  pub start : spread 1 line ≡ take column columns ++ spread (suc column) past
  pub blank : drop column columns ≡ replicate (width - column) 32
  pub within : column ≤ width
  pub full : length columns ≡ width

first_byte : (past : List ℕ) → 1 ≤ length past → past ≡ get_or past 0 0 ∷ drop 1 past
first_byte [] some = absurd (omega arith)
first_byte (b ∷ rest) some = refl

-- behind a tab
pub spread_tab : (width : ℕ) (line columns : List ℕ) (column : ℕ) (past : List ℕ) (next : ℕ) → Spreading width line columns column past → 6 ≤ width → column < width
    → 1 ≤ length past
    → get_or past 0 0 == 9 ≡ true → next ≡ column + tab_width (column + 1) → Spreading width line columns next (drop 1 past)
spread_tab width line columns column past next h wide low some tab is =
    let w = tab_width (suc column) in
    let next_is : next ≡ column + w = is ∙ ap (λ n. column + tab_width n) (add-one column) in
    let fits : column + w ≤ width = tab_within column width low wide in
    let filled : take w (drop column columns) ≡ replicate w 32 = ap (λ l. take w l) h.blank ∙ take-replicate w (width - column) 32 (omega arith) in
    let more : take next columns ≡ take column columns ++ replicate w 32 = ap (λ n. take n columns) next_is ∙ take-add column w columns
    ∙ ap (λ l. take column columns ++ l) filled in
    let behind : spread (suc column) past ≡ replicate w 32 ++ spread (suc next) (drop 1 past) =
    ap (λ l. spread (suc column) l) (first_byte past some) ∙ spread-tab (suc column) (get_or past 0 0) (drop 1 past) tab
    ∙ ap (λ n. replicate w 32 ++ spread n (drop 1 past)) (omega arith) in
    record {
      start = h.start ∙ ap (λ l. take column columns ++ l) behind ∙ sym (append_assoc (take column columns) (replicate w 32) (spread (suc next) (drop 1 past)))
          ∙ ap (λ l. l ++ spread (suc next) (drop 1 past)) (sym more);
      blank = ap (λ n. drop n columns) next_is ∙ sym (drop-drop w column columns) ∙ ap (λ l. drop w l) h.blank ∙ drop-replicate w (width - column) 32
          ∙ ap (λ n. replicate n 32) (omega arith);
      within = omega arith;
      full = h.full;
    }

-- behind another byte
pub spread_other : (width : ℕ) (line columns : List ℕ) (column : ℕ) (past : List ℕ) → Spreading width line columns column past → column < width → 1 ≤ length past
    → get_or past 0 0 == 9 ≡ false → length (set columns column (get_or past 0 0)) ≡ length columns
    → Spreading width line (set columns column (get_or past 0 0)) (column + 1) (drop 1 past)
spread_other width line columns column past h low some other same =
    let b = get_or past 0 0 in
    let filled = set columns column b in
    let more : take (suc column) filled ≡ take column columns ++ b ∷ [] = take-suc-set columns column b (omega (arith, h.full)) in
    let more' : take (column + 1) filled ≡ take column columns ++ b ∷ [] = ap (λ n. take n filled) (add-one column) ∙ more in
    let behind : spread (suc column) past ≡ b ∷ spread (suc (column + 1)) (drop 1 past) =
    ap (λ l. spread (suc column) l) (first_byte past some) ∙ spread-other (suc column) b (drop 1 past) other ∙ ap (λ n. b ∷ spread n (drop 1 past)) (omega arith) in
    record {
      start = h.start ∙ ap (λ l. take column columns ++ l) behind ∙ sym (append_assoc (take column columns) (b ∷ []) (spread (suc (column + 1)) (drop 1 past)))
          ∙ ap (λ l. l ++ spread (suc (column + 1)) (drop 1 past)) (sym more');
      blank = drop-set-lt (column + 1) columns column b (omega arith) ∙ sym (drop-drop 1 column columns) ∙ ap (λ l. drop 1 l) h.blank ∙ drop-replicate 1 (width - column) 32
          ∙ ap (λ n. replicate n 32) (omega arith);
      within = omega arith;
      full = same ∙ h.full;
    }

-- at the last column, and where no byte is left
module _ (width : ℕ) (line columns : List ℕ) (column : ℕ) (past : List ℕ) (h : Spreading width line columns column past) where
  full_line : width ≤ column → spread 1 line ≡ columns ++ spread (suc width) past
  full_line high =
      let at : column ≡ width = omega (arith, h.within) in
      h.start ∙ ap (λ l. l ++ spread (suc column) past) (take_all column columns (omega (arith, h.full))) ∙ ap (λ n. columns ++ spread (suc n) past) at

  pub full_columns : width ≤ column → columns ≡ take width (spread 1 line ++ replicate width 32)
  full_columns high =
      sym (ap (λ l. take width (l ++ replicate width 32)) (full_line high)
      ∙ ap (λ l. take width l) (append_assoc columns (spread (suc width) past) (replicate width 32))
      ∙ take-append-le width columns (spread (suc width) past ++ replicate width 32) (omega (arith, h.full))
      ∙ take_all width columns (omega (arith, h.full)))

  pub full_past : width ≤ column → spread (suc width) past ≡ drop width (spread 1 line)
  full_past high =
      sym (ap (λ l. drop width l) (full_line high) ∙ ap (λ n. drop n (columns ++ spread (suc width) past)) (sym h.full)
      ∙ drop-append_seam columns (spread (suc width) past))

  short_line : past ≡ [] → spread 1 line ≡ take column columns
  short_line none = h.start ∙ ap (λ l. take column columns ++ spread (suc column) l) none ∙ ap (λ l. take column columns ++ l) (spread-nil (suc column))
      ∙ append-nil (take column columns)

  length_front : length (take column columns) ≡ column
  length_front = omega (arith, length-take column columns, h.full, h.within)

  pub short_columns : past ≡ [] → columns ≡ take width (spread 1 line ++ replicate width 32)
  short_columns none =
      let front = take column columns in
      let rest : take (width - column) (replicate width 32) ≡ drop column columns = take-replicate (width - column) width 32 (omega arith) ∙ sym h.blank in
      let sum : width ≡ length front + (width - column) = omega (arith, length_front, h.within) in
      let cut : take width (front ++ replicate width 32) ≡ front ++ take (width - column) (replicate width 32) =
      subst (λ n. take n (front ++ replicate width 32) ≡ front ++ take (width - column) (replicate width 32)) (sym sum) (take_past front (replicate width 32) (width
      - column)) in
      sym (ap (λ l. take width (l ++ replicate width 32)) (short_line none) ∙ cut ∙ ap (λ l. front ++ l) rest ∙ take-append-drop column columns)
    where
      take_past : (front more : List ℕ) (n : ℕ) → take (length front + n) (front ++ more) ≡ front ++ take n more
      take_past [] more n = let e : n ≡ length {A = ℕ} [] + n = omega arith in subst (λ w. take w more ≡ take n more) e refl
      take_past (b ∷ front) more n =
          let e : suc (length front + n) ≡ length (b ∷ front) + n = omega arith in
          subst (λ w. take w (b ∷ (front ++ more)) ≡ b ∷ (front ++ take n more)) e (ap (λ w. b ∷ w) (take_past front more n))

  pub short_past : past ≡ [] → spread (suc width) past ≡ drop width (spread 1 line)
  short_past none =
      ap (λ l. spread (suc width) l) none ∙ spread-nil (suc width)
      ∙ sym (ap (λ l. drop width l) (short_line none) ∙ nothing_left width (take column columns) (omega (arith, length_front, h.within)))
    where
      nothing_left : (n : ℕ) (xs : List ℕ) → length xs ≤ n → drop n xs ≡ []
      nothing_left zero [] low = refl
      nothing_left zero (x ∷ xs) low = absurd (omega arith)
      nothing_left (suc n) [] low = refl
      nothing_left (suc n) (x ∷ xs) low = nothing_left n xs (omega arith)

-- whether what is left is blank
blank_run : (n : ℕ) → list_all is_blank (replicate n 32) ≡ true
blank_run zero = refl
blank_run (suc n) = blank_run n

blank_step : (column b : ℕ) (rest : List ℕ) → ((next : ℕ) → list_all is_blank (spread next rest) ≡ list_all is_blank_or_tab rest)
    → (b == 9 ≡ true) ⊎ (b == 9 ≡ false) → (b == 32 ≡ true) ⊎ (b == 32 ≡ false)
    → list_all is_blank (spread column (b ∷ rest)) ≡ list_all is_blank_or_tab (b ∷ rest)
blank_step column b rest later (inl h) k =
    let run = replicate (tab_width column) 32 in
    let behind = spread (column + tab_width column) rest in
    let left : list_all is_blank (spread column (b ∷ rest)) ≡ list_all is_blank_or_tab rest =
    ap (list_all is_blank) (spread-tab column b rest h) ∙ list_all-append is_blank run behind
    ∙ ap (λ x. x && list_all is_blank behind) (blank_run (tab_width column)) ∙ later (column + tab_width column) in
    left ∙ sym (tab k)
  where
    tab : (b == 32 ≡ true) ⊎ (b == 32 ≡ false) → list_all is_blank_or_tab (b ∷ rest) ≡ list_all is_blank_or_tab rest
    tab (inl m) = rw m
    tab (inr m) = rw (m, h)
blank_step column b rest later (inr h) (inl k) =
    let right : list_all is_blank_or_tab (b ∷ rest) ≡ list_all is_blank_or_tab rest = rw k in
    ap (list_all is_blank) (spread-other column b rest h) ∙ ap (λ x. x && list_all is_blank (spread (suc column) rest)) k ∙ later (suc column) ∙ sym right
blank_step column b rest later (inr h) (inr k) =
    let right : list_all is_blank_or_tab (b ∷ rest) ≡ false = rw (k, h) in
    ap (list_all is_blank) (spread-other column b rest h) ∙ ap (λ x. x && list_all is_blank (spread (suc column) rest)) k ∙ sym right

pub blank_past : (column : ℕ) (past : List ℕ) → list_all is_blank (spread column past) ≡ list_all is_blank_or_tab past
blank_past column [] = ap (list_all is_blank) (spread-nil column)
blank_past column (b ∷ rest) = blank_step column b rest (λ next. blank_past next rest) (cases_Bool (b == 9)) (cases_Bool (b == 32))
