-- The columns of a record, as if blanks stood behind it.
use Rattle.std.proofs.Common.{◌≡◌, ℕ, ◌+◌, ◌-◌, ◌≤◌, List, ◌++◌, length, take, drop, replicate, ap, sym, ◌∙◌, rules, arith, length-append, length-drop, append-nil, append_assoc}
use Rattle.std.proofs.lemmas.List.{same_lists, places, length-replicate, length-take-le, take-append-drop, take_all, drop_at, drop-drop, drop-take, drop-replicate, drop-append-le, replicate-append-replicate}
use Rattle.edit_rules.specs.edit_meaning.TakenFields.{text_in}
use Rattle.edit_rules.specs.edit_meaning.TakenRecords.{columns_of}

abbrev blanks : ℕ → List ℕ
blanks n = replicate n 32

-- blanks behind a record in its line
pub blank-behind : (text copied rest : List ℕ) → copied ≡ text → rest ≡ drop (length text) (replicate 1024 32) → drop (length text) (copied ++ rest) ≡ replicate (1024 - length text) 32
blank-behind text copied rest same is = drop_at copied rest (length text) (ap length same) ∙ is ∙ drop-replicate (length text) 1024 32

-- so many characters of a text with blanks behind it
cut-padded : (text : List ℕ) (width more : ℕ) → width ≤ length text + more → take width (text ++ blanks more) ≡ take width text ++ blanks (width - length text)
cut-padded text width more within = same_lists _ _ (search (rules, places)) (λ k d h. grind (arith, places))

-- a text from a position on, with blanks behind it
behind-padded : (text : List ℕ) (before more : ℕ) → before ≤ length text + more → drop before (text ++ blanks more) ≡ drop before text ++ blanks (more - (before - length text))
behind-padded text before more within = same_lists _ _ (search (rules, places)) (λ k d h. grind (arith, places))

-- the columns behind a position
columns-padded : (text : List ℕ) (before width more : ℕ) → before + width ≤ length text + more → columns_of before width text ≡ take width (drop before (text ++ blanks more))
columns-padded text before width more within =
    sym (ap (take width) (behind-padded text before more (omega arith))
    ∙ cut-padded (drop before text) width (more - (before - length text)) (simp length-drop (omega arith)))

-- a line is its record and blanks, and more blanks behind it
line-parts : (line : List ℕ) (used more : ℕ) → used ≤ 1024 → drop used line ≡ replicate (1024 - used) 32 → take used line ++ blanks ((1024 - used) + more) ≡ line ++ blanks more
line-parts line used more within blank =
    sym (ap (λ (text : List ℕ). take used line ++ text) (replicate-both (1024 - used) more))
    ∙ sym (append_assoc (take used line) (blanks (1024 - used)) (blanks more))
    ∙ ap (λ (text : List ℕ). (take used line ++ text) ++ blanks more) (sym blank)
    ∙ ap (λ (text : List ℕ). text ++ blanks more) (take-append-drop used line)
  where
    replicate-both : (n m : ℕ) → blanks n ++ blanks m ≡ blanks (n + m)
    replicate-both n m = replicate-append-replicate n m 32

pub columns-in : (line : List ℕ) (used before width more : ℕ) → length line ≡ 1024 → used ≤ 1024 → before ≤ 1024 → drop used line ≡ replicate (1024 - used) 32 → before + width ≤ 1024 + more →
    columns_of before width (take used line) ≡ take width (drop before line ++ replicate more 32)
columns-in line used before width more whole within stands blank fits =
    let size_is : length (take used line) ≡ used = length-take-le used line (omega arith) in
    columns-padded (take used line) before width ((1024 - used) + more) (omega (arith, size_is))
    ∙ ap (λ (text : List ℕ). take width (drop before text)) (line-parts line used more within blank)
    ∙ ap (take width) (drop-append-le before line (blanks more) (omega arith))

-- a field within the record
pub columns-within : (line : List ℕ) (used before width : ℕ) → length line ≡ 1024 → used ≤ 1024 → before ≤ 1024 → drop used line ≡ replicate (1024 - used) 32 → before + width ≤ 1024 →
    columns_of before width (take used line) ≡ take width (drop before line)
columns-within line used before width whole within stands blank fits =
    columns-in line used before width 0 whole within stands blank (omega arith) ∙ ap (take width) (append-nil (drop before line))

-- a field that goes past the last column
pub columns-past : (line : List ℕ) (used before width : ℕ) → length line ≡ 1024 → used ≤ 1024 → before ≤ 1024 → drop used line ≡ replicate (1024 - used) 32 → 1024 ≤ before + width →
    columns_of before width (take used line) ≡ drop before line ++ replicate (before + width - 1024) 32
columns-past line used before width whole within stands blank past =
    let rest_is : length (drop before line) ≡ 1024 - before = length-drop before line ∙ ap (λ (n : ℕ). n - before) whole in
    let size_is : length (drop before line ++ blanks (before + width - 1024)) ≡ width =
    length-append (drop before line) (blanks (before + width - 1024)) ∙ omega (arith, rest_is, length-replicate {A = ℕ} (before + width - 1024) 32) in
    columns-in line used before width (before + width - 1024) whole within stands blank (omega arith) ∙ take_all width (drop before line ++ blanks (before + width - 1024)) (omega (arith, size_is))

-- the text that an item takes from a field
pub text-taken : (line field : List ℕ) (before width size from to : ℕ) → length line ≡ 1024 → before + width ≤ 1024 → field ≡ take width (drop before line) → from ≡ before + (width - size) → to ≡ before + width →
    text_in field size ≡ take (to - from) (drop from line) ++ replicate (size - width) 32
unfolding text_in
text-taken line field before width size from to whole within is begins ends =
    let rest_is : length (drop before line) ≡ 1024 - before = length-drop before line ∙ ap (λ (n : ℕ). n - before) whole in
    let size_is : length field ≡ width = ap length is ∙ length-take-le width (drop before line) (omega (arith, rest_is)) in
    let sum : width ≡ (width - size) + (to - from) = omega arith in
    let start : before + (width - size) ≡ from = sym begins in
    let front : drop (length field - size) field ≡ take (to - from) (drop from line) =
    ap (λ (n : ℕ). drop (n - size) field) size_is
    ∙ ap (drop (width - size)) (is ∙ ap (λ (n : ℕ). take n (drop before line)) sum)
    ∙ drop-take (width - size) (to - from) (drop before line)
    ∙ ap (take (to - from)) (drop-drop (width - size) before line ∙ ap (λ (n : ℕ). drop n line) start) in
    ap (λ (text : List ℕ). text ++ replicate (size - length field) 32) front
    ∙ ap (λ (n : ℕ). take (to - from) (drop from line) ++ replicate (size - n) 32) size_is

-- columns at the front of blanks
pub columns-behind : (line copied rest : List ℕ) (before : ℕ) → before ≤ 1024 → length line ≡ 1024 → copied ≡ take (1024 - before) (drop before line) → rest ≡ drop (1024 - before) (replicate 2048 32) →
    copied ++ rest ≡ drop before line ++ replicate (1024 + before) 32
columns-behind line copied rest before stands whole is blank =
    let count : 2048 - (1024 - before) ≡ 1024 + before = omega arith in
    let all : length (drop before line) ≡ 1024 - before = length-drop before line ∙ ap (λ (n : ℕ). n - before) whole in
    ap (λ (text : List ℕ). text ++ rest) (is ∙ take_all (1024 - before) (drop before line) (omega (arith, all)))
    ∙ ap (λ (text : List ℕ). drop before line ++ text) (blank ∙ drop-replicate (1024 - before) 2048 32 ∙ ap (λ (n : ℕ). replicate n 32) count)
