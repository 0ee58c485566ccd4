-- Values whose fields follow one another stand whole.
use Rattle.std.proofs.Common.{◌≡◌, ℕ, ◌+◌, ◌-◌, ◌≤◌, nat_le, Bool, true, false, if◌then◌else◌, Option, None, Some, List, [], ◌∷◌, ◌++◌, length, refl, sym, ap, subst, arith, length-append, IsTrue}
use Rattle.std.proofs.lemmas.Bool.{and_parts, and_from, le-leb}
use Rattle.edit_meaning.specs.EditedRecords.{Sheet, Output, has_record, with_control, with_field, field_of, written_at, output_start}
use Rattle.edit_meaning.specs.Formats.{Control, Literal, ToColumn, LeftBy, RightBy, NextRecord, PlusSigns, ZeroBlanks, Format, Edit, Item, Act, Stop, Served, edits_for}
use Rattle.edit_meaning.specs.Halts.{Number, EndOfRecords}
use Rattle.edit_meaning.specs.Listed.{ListedValue}
use Rattle.edit_meaning.specs.ReadBack.{is_wide_enough, has_place_on_input, goes_right, plus_behind, fields_follow, fields_hold, follow_one_another, stand_whole}
use Rattle.edit_rules.proofs.RecordsBack.{gap_before, gap_fits, written_behind}

has_place : (c : Control) → goes_right c ≡ true → has_place_on_input c ≡ true
has_place (Literal t) h = h
has_place (ToColumn column) h = refl
has_place (LeftBy columns) h = refl
has_place (RightBy columns) h = refl
has_place NextRecord h = refl
has_place (PlusSigns plus) h = refl
has_place (ZeroBlanks zeros) h = refl

-- the position is behind all that the record has, and plus signs are written or not
record IsBehind (plus : Bool) (now : Output) : Type 0 where
  behind : length now.making ≤ now.before
  sign : now.plus ≡ plus

moved : (b : Bool) (columns : ℕ) (plus : Bool) (now : Output) → now.before ≤ columns → IsBehind plus now
    → IsBehind plus (if b then record now { before = columns } else record now { halted = Some (Number 5) })
moved true columns plus now h i = record { behind = let l : length now.making ≤ now.before = i.behind in omega arith; sign = i.sign }
moved false columns plus now h i = record { behind = i.behind; sign = i.sign }

next_one : (b : Bool) (plus : Bool) (now : Output) → now.plus ≡ plus
    → let next : Output = record now { complete = now.complete ++ now.making ∷ []; making = []; before = 0 } in
    IsBehind plus (if b then next else record next { halted = Some EndOfRecords })
next_one true plus now e = record { behind = omega arith; sign = e }
next_one false plus now e = record { behind = omega arith; sign = e }

text : (b : Bool) (field : List ℕ) (plus : Bool) (now : Output) → IsBehind plus now
    → IsBehind plus (if b then record now { making = written_at now.before field now.making; before = now.before + length field } else record now { halted = Some (Number 5) })
text true field plus now i =
    let gap : List ℕ = gap_before now.before field now.making in
    let g : length gap ≤ now.before - length now.making = gap_fits now.before field now.making in
    let w : length now.making ≤ now.before = i.behind in
    let l : length (written_at now.before field now.making) ≡ length (now.making ++ (gap ++ field)) = ap length (written_behind now.before field now.making w) in
    record { behind = omega (arith, length-append now.making (gap ++ field), length-append gap field); sign = i.sign }
text false field plus now i = record { behind = i.behind; sign = i.sign }

module _ (sheet : Sheet) where
  acted : (c : Control) (plus : Bool) (now : Output) → goes_right c ≡ true → IsBehind plus now → IsBehind (plus_behind c plus) (with_control sheet c now)
  acted (Literal t) plus now h i = absurd (let x : false ≡ true = h in cc x)
  acted (ToColumn column) plus now h i = absurd (let x : false ≡ true = h in cc x)
  acted (LeftBy columns) plus now h i = absurd (let x : false ≡ true = h in cc x)
  acted (RightBy columns) plus now h i = moved (nat_le (now.before + columns) 1024) (now.before + columns) plus now (omega arith) i
  acted NextRecord plus now h i = next_one (has_record sheet.records (length (now.complete ++ now.making ∷ []))) plus now i.sign
  acted (PlusSigns other) plus now h i = record { behind = i.behind; sign = refl }
  acted (ZeroBlanks zeros) plus now h i = i

  fielded : (field : Option (List ℕ)) (plus : Bool) (now : Output) → IsBehind plus now → IsBehind plus (with_field sheet field now)
  fielded None plus now i = record { behind = i.behind; sign = i.sign }
  fielded (Some field) plus now i = text (nat_le (now.before + length field) sheet.columns) field plus now i

  follows : (edits : List Edit) (values : List ListedValue) (plus : Bool) (now : Output) → IsBehind plus now → fields_follow plus edits values ≡ true
      → fields_hold sheet edits values now ≡ true
  follows [] [] plus now i h = refl
  follows [] (value ∷ values) plus now i h = h
  follows (Item d ∷ edits) [] plus now i h = refl
  follows (Item d ∷ edits) (value ∷ values) plus now i h =
      let parts = and_parts _ _ h in
      let wide : is_wide_enough d value now.plus ≡ true = subst (λ p. is_wide_enough d value p ≡ true) (sym i.sign) parts.0 in
      and_from _ _ (and_from _ _ (le-leb (length now.making) now.before i.behind) wide)
      (follows edits values plus (with_field sheet (field_of d value now.plus) now) (fielded (field_of d value now.plus) plus now i) parts.1)
  follows (Act c ∷ edits) values plus now i h =
      let parts = and_parts _ _ h in
      and_from _ _ (has_place c parts.0) (follows edits values (plus_behind c plus) (with_control sheet c now) (acted c plus now parts.0 i) parts.1)
  follows (Stop ∷ edits) values plus now i h = follows edits values plus now i h

  start_by : (b : Bool) → let next : Output = record { complete = []; making = []; before = 0; plus = false; halted = None } in
      IsBehind false (if b then next else record next { halted = Some EndOfRecords })
  start_by true = record { behind = omega arith; sign = refl }
  start_by false = record { behind = omega arith; sign = refl }

  pub follow_whole : (format : Format) (values : List ListedValue) → IsTrue (follow_one_another format values) → IsTrue (stand_whole sheet format values)
  unfolding follow_one_another stand_whole
  follow_whole format values h =
      let s : Served = edits_for format (length values) in
      let parts = and_parts _ _ h in
      and_from _ _ (follows s.edits values false (output_start sheet) (start_by (has_record sheet.records 0)) parts.0) parts.1
