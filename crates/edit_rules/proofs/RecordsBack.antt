-- Records that a format wrote are read back by the same format.
use Rattle.std.proofs.Common.{◌≡◌, ℕ, zero, suc, ◌+◌, ◌-◌, ◌<◌, ◌≤◌, nat_le, Bool, true, false, if◌then◌else◌, Option, None, Some, unwrap_or, List, [], ◌∷◌, ◌++◌, length, take, drop, replicate, map, refl, sym, ap, ◌∙◌, subst, arith, append_assoc, append-nil, length-append, IsTrue}
use Rattle.std.proofs.lemmas.Bool.{and_parts, le-leb, leb-true, ltb-true}
use Rattle.std.proofs.lemmas.List.{length-replicate, length-map, take_at, drop_at, take_all}
use Rattle.std.proofs.Math.ListN.{drop_of_length-le}
use Rattle.edit_meaning.specs.EditedFields.{int_text, int_field, logical_field, text_field}
use Rattle.edit_meaning.specs.EditedRecords as out
use Rattle.edit_meaning.specs.EditedRecords.{Sheet, Output, has_record, output, output_start, output_closed, with_text, written_at, field_of, ended, made_on}
use Rattle.edit_meaning.specs.Formats.{Descriptor, IntIn, LogicalIn, TextIn, Control, Literal, ToColumn, LeftBy, RightBy, NextRecord, PlusSigns, ZeroBlanks, Format, Edit, Item, Act, Stop, Served, edits_for, closing}
use Rattle.edit_meaning.specs.Halts.{Halt, Number, EndOfRecords}
use Rattle.edit_meaning.specs.Listed.{ListedValue, Int, Logical, Text}
use Rattle.edit_meaning.specs.ListItems.{Value, IntValue, LogicalValue, TextValue}
use Rattle.edit_meaning.specs.ReadBack.{IsKept, AreKept, is_wide_enough, has_place_on_input, have_place_on_input, fields_hold, stand_whole, want_of, read_as}
use Rattle.edit_meaning.specs.TakenFields.{int_in, logical_in, text_in}
use Rattle.edit_meaning.specs.TakenRecords as taking
use Rattle.edit_meaning.specs.TakenRecords.{Want, WantInt, WantLogical, WantText, Input, input, input_start, columns_of, with_value, with_int, with_logical, halted_by, taken}
use Rattle.edit_meaning.specs.Transfers.{edited, unserved_by, served_over, closed_by}
use Rattle.edit_rules.proofs.FieldsBack.{int_back, int_width, logical_back, logical_width, text_back, text_width}

-- an input stands in a record, behind which blanks may stand, before records where they are kept
record At (text : List ℕ) (rest : List (List ℕ)) (columns : ℕ) (i : Input) : Type 0 where
  blanks : ℕ
  stands : i.line ≡ text ++ replicate blanks 32
  kept : AreKept rest i.later
  position : i.before ≡ columns
  goes : i.halted ≡ None

-- an input that took values behind others, and goes on
record Took (first more : List Value) (i : Input) : Type 0 where
  values : i.values ≡ first ++ more
  goes : i.halted ≡ None

-- what is still to come of the record in the making, and the records behind it, in the records of an output at its end; and an input that
-- stands where the output stands takes `more` and comes to its end
record Reads (now last : Output) (more : List Value) (go : Input → Input) : Type 0 where
  rest : List ℕ
  later : List (List ℕ)
  short : length (now.making ++ rest) ≤ 1024
  kept : AreKept later later
  records : last.complete ≡ now.complete ++ (now.making ++ rest) ∷ later
  takes : (i : Input) → At (now.making ++ rest) later now.before i → Took i.values more (go i)

-- the same input, said in another way
said_as : (now last : Output) (more : List Value) (go other : Input → Input) → ((i : Input) → i.halted ≡ None → other i ≡ go i) → Reads now last more go → Reads now last more other
said_as now last more go other e r = record {
  rest = r.rest;
  later = r.later;
  short = r.short;
  kept = r.kept;
  records = r.records;
  takes = λ i a. subst (λ j. Took i.values more j) (sym (e i a.goes)) (r.takes i a);
}

-- a move of the position
move_by : (b : Bool) (columns : ℕ) (now last : Output) (more : List Value) (go other : Input → Input)
    → (let next : Output = if b then record now { before = columns } else record now { halted = Some (Number 5) } in next.halted) ≡ None
    → ((i : Input) → i.halted ≡ None → i.before ≡ now.before → other i ≡ go (if b then record i { before = columns } else halted_by (Number 5) i))
    → Reads (if b then record now { before = columns } else record now { halted = Some (Number 5) }) last more go → Reads now last more other
move_by true columns now last more go other n e r = record {
  rest = r.rest;
  later = r.later;
  short = r.short;
  kept = r.kept;
  records = r.records;
  takes = λ i a. subst (λ j. Took i.values more j) (sym (e i a.goes a.position))
      (r.takes (record i { before = columns }) (record { blanks = a.blanks; stands = a.stands; kept = a.kept; position = refl; goes = a.goes }));
}
move_by false columns now last more go other n e r = absurd (let x : Some (Number 5) ≡ None = n in cc x)

next_of_is : (line : List ℕ) (later : List (List ℕ)) (i : Input) → length line ≤ 1024
    → taking.next_of (line ∷ later) i ≡ record i { line = line; later = later; before = 0 }
next_of_is line later i h = by (nat_le (length line) 1024) (le-leb (length line) 1024 h)
  where
    by : (b : Bool) → b ≡ true
        → (if b then record i { line = line; later = later; before = 0 } else halted_by (Number 5) (record i { later = later })) ≡ record i { line = line; later = later; before = 0 }
    by true h = refl
    by false h = absurd (let x : false ≡ true = h in cc x)

-- an input comes to a record where it is kept
next_at : (text : List ℕ) (rest kept : List (List ℕ)) (more : List Value) (go : Input → Input) → ((i : Input) → At text rest 0 i → Took i.values more (go i))
    → (i : Input) → i.halted ≡ None → AreKept (text ∷ rest) kept → Took i.values more (go (taking.next_of kept i))
next_at text rest [] more go takes i g h = absurd h
next_at text rest (line ∷ kept) more go takes i g h =
    let first : IsKept text line = h.0 in
    subst (λ j. Took i.values more (go j)) (sym (next_of_is line kept i first.short))
    (takes (record i { line = line; later = kept; before = 0 }) (record { blanks = first.blanks; stands = first.same; kept = h.1; position = refl; goes = g }))

-- the record is complete and the next one begins
next_record : (now last : Output) (more : List Value) (go other : Input → Input) → length now.making ≤ 1024
    → ((i : Input) → i.halted ≡ None → other i ≡ go (taking.next_of i.later i))
    → Reads (record now { complete = now.complete ++ now.making ∷ []; making = []; before = 0 }) last more go → Reads now last more other
next_record now last more go other s e r = record {
  rest = [];
  later = r.rest ∷ r.later;
  short = omega (arith, length-append now.making []);
  kept = (record { short = r.short; blanks = 0; same = sym (append-nil r.rest) }, r.kept);
  records = r.records ∙ append_assoc now.complete (now.making ∷ []) (r.rest ∷ r.later) ∙ ap (λ z. now.complete ++ z ∷ r.rest ∷ r.later) (sym (append-nil now.making));
  takes = λ i a. subst (λ j. Took i.values more j) (sym (e i a.goes)) (next_at r.rest r.later i.later more go r.takes i a.goes a.kept);
}

record_by : (b : Bool) (now last : Output) (more : List Value) (go other : Input → Input) → length now.making ≤ 1024
    → (let next : Output = record now { complete = now.complete ++ now.making ∷ []; making = []; before = 0 } in
    let arrived : Output = if b then next else record next { halted = Some EndOfRecords } in arrived.halted) ≡ None
    → ((i : Input) → i.halted ≡ None → other i ≡ go (taking.next_of i.later i))
    → Reads (let next : Output = record now { complete = now.complete ++ now.making ∷ []; making = []; before = 0 } in if b then next else record next { halted = Some EndOfRecords }) last more go
    → Reads now last more other
record_by true now last more go other s n e r = next_record now last more go other s e r
record_by false now last more go other s n e r = absurd (let x : Some EndOfRecords ≡ None = n in cc x)

-- the blanks that fill the gap before a text; none before an empty one, which writes nothing
abbrev pub gap_before : ℕ → List ℕ → List ℕ → List ℕ
gap_before columns [] line = []
gap_before columns (first ∷ text) line = replicate (columns - length line) 32

pub gap_fits : (columns : ℕ) (text line : List ℕ) → length (gap_before columns text line) ≤ columns - length line
gap_fits columns [] line = omega arith
gap_fits columns (first ∷ text) line = omega (arith, length-replicate {A = ℕ} (columns - length line) 32)

-- a field behind all that stands in a record
pub written_behind : (columns : ℕ) (text line : List ℕ) → length line ≤ columns → written_at columns text line ≡ line ++ (gap_before columns text line ++ text)
written_behind columns [] line h = sym (append-nil line)
written_behind columns (first ∷ text) line h =
    let whole : List ℕ = first ∷ text in
    let past : length line ≤ columns + length whole = omega arith in
    ap (λ z. z ++ replicate (columns - length line) 32 ++ whole ++ drop (columns + length whole) line) (take_all columns line h)
    ∙ ap (λ z. line ++ replicate (columns - length line) 32 ++ whole ++ z) (drop_of_length-le line past)
    ∙ append-nil (line ++ replicate (columns - length line) 32 ++ whole) ∙ append_assoc line (replicate (columns - length line) 32) whole

-- no columns are no characters
no_columns : (columns : ℕ) (line : List ℕ) → columns_of columns 0 line ≡ []
no_columns columns line =
    let none : 0 - length (drop columns line) ≡ 0 = omega arith in ap (λ n. replicate n 32) none

-- and its columns
columns_behind : (columns : ℕ) (text line rest : List ℕ) → length line ≤ columns
    → columns_of columns (length text) ((line ++ (gap_before columns text line ++ text)) ++ rest) ≡ text
columns_behind columns [] line rest h = no_columns columns ((line ++ []) ++ rest)
columns_behind columns (first ∷ tail) line rest h =
    let text : List ℕ = first ∷ tail in
    let gap : List ℕ = replicate (columns - length line) 32 in
    let g : length gap ≡ columns - length line = length-replicate (columns - length line) 32 in
    let l : length (line ++ gap) ≡ length line + length gap = length-append line gap in
    let at : length (line ++ gap) ≡ columns = omega arith in
    let whole : (line ++ (gap ++ text)) ++ rest ≡ (line ++ gap) ++ (text ++ rest) = simp append_assoc in
    let d : drop columns ((line ++ (gap ++ text)) ++ rest) ≡ text ++ rest = ap (drop columns) whole ∙ drop_at (line ++ gap) (text ++ rest) columns at in
    let none : length text - length (text ++ rest) ≡ 0 = omega (arith, length-append text rest) in
    ap (λ z. take (length text) z ++ replicate (length text - length z) 32) d
    ∙ ap (λ n. take (length text) (text ++ rest) ++ replicate n 32) none
    ∙ append-nil (take (length text) (text ++ rest)) ∙ take_at text rest (length text) refl

module _ (sheet : Sheet) (narrow : sheet.columns ≤ 1024) where
  -- a control
  acted : (c : Control) (now last : Output) (more : List Value) (go other : Input → Input) → has_place_on_input c ≡ true → length now.making ≤ 1024
      → (out.with_control sheet c now).halted ≡ None → ((i : Input) → i.halted ≡ None → other i ≡ go (taking.with_control c i))
      → Reads (out.with_control sheet c now) last more go → Reads now last more other
  acted (Literal text) now last more go other p s n e r = absurd (let x : false ≡ true = p in cc x)
  acted (ToColumn column) now last more go other p s n e r =
      move_by (nat_le (column - 1) 1024) (column - 1) now last more go other n (λ i h b. e i h) r
  acted (LeftBy columns) now last more go other p s n e r =
      move_by (nat_le (now.before - columns) 1024) (now.before - columns) now last more go other n
      (λ i h b. e i h ∙ ap (λ k. go (taking.moved_to (k - columns) i)) b) r
  acted (RightBy columns) now last more go other p s n e r =
      move_by (nat_le (now.before + columns) 1024) (now.before + columns) now last more go other n
      (λ i h b. e i h ∙ ap (λ k. go (taking.moved_to (k + columns) i)) b) r
  acted NextRecord now last more go other p s n e r =
      record_by (has_record sheet.records (length (now.complete ++ now.making ∷ []))) now last more go other s n e r
  acted (PlusSigns plus) now last more go other p s n e r = record {
    rest = r.rest;
    later = r.later;
    short = r.short;
    kept = r.kept;
    records = r.records;
    takes = λ i a. subst (λ j. Took i.values more j) (sym (e i a.goes))
        (r.takes i (record { blanks = a.blanks; stands = a.stands; kept = a.kept; position = a.position; goes = a.goes }));
  }
  acted (ZeroBlanks zeros) now last more go other p s n e r = record {
    rest = r.rest;
    later = r.later;
    short = r.short;
    kept = r.kept;
    records = r.records;
    takes = λ i a. subst (λ j. Took i.values more j) (sym (e i a.goes))
        (r.takes (record i { zeros = zeros }) (record { blanks = a.blanks; stands = a.stands; kept = a.kept; position = a.position; goes = a.goes }));
  }

  -- a value in its field
  valued_by : (b : Bool) (field : List ℕ) (v : Value) (now last : Output) (more : List Value) (go other : Input → Input)
      → nat_le (now.before + length field) sheet.columns ≡ b → length now.making ≤ now.before
      → (let next : Output = if b then record now { making = written_at now.before field now.making; before = now.before + length field } else record now { halted = Some (Number 5) } in next.halted) ≡ None
      → ((i : Input) → i.halted ≡ None → i.before ≡ now.before → columns_of now.before (length field) i.line ≡ field → other i ≡ go (with_value v (length field) i))
      → Reads (if b then record now { making = written_at now.before field now.making; before = now.before + length field } else record now { halted = Some (Number 5) }) last more go
      → Reads now last (v ∷ more) other
  valued_by true field v now last more go other t w n e r =
      let gap : List ℕ = gap_before now.before field now.making in
      let rest : List ℕ = gap ++ (field ++ r.rest) in
      let made_line : written_at now.before field now.making ≡ now.making ++ (gap ++ field) = written_behind now.before field now.making w in
      let whole : written_at now.before field now.making ++ r.rest ≡ now.making ++ rest =
      ap (λ z. z ++ r.rest) made_line ∙ append_assoc now.making (gap ++ field) r.rest ∙ ap (λ z. now.making ++ z) (append_assoc gap field r.rest) in
      let columns : (i : Input) → At (now.making ++ rest) r.later now.before i → columns_of now.before (length field) i.line ≡ field =
      λ i a.
      ap (columns_of now.before (length field))
      (a.stands ∙ ap (λ z. z ++ replicate a.blanks 32) (sym whole ∙ ap (λ z. z ++ r.rest) made_line) ∙ append_assoc (now.making ++ (gap ++ field)) r.rest (replicate a.blanks 32))
      ∙ columns_behind now.before field now.making (r.rest ++ replicate a.blanks 32) w in
      let took : (i : Input) → At (now.making ++ rest) r.later now.before i
      → Took (i.values ++ v ∷ []) more (go (record i { before = now.before + length field; values = i.values ++ v ∷ [] })) =
      λ i a.
      r.takes (record i { before = now.before + length field; values = i.values ++ v ∷ [] })
      (record { blanks = a.blanks; stands = a.stands ∙ ap (λ z. z ++ replicate a.blanks 32) (sym whole); kept = a.kept; position = refl; goes = a.goes }) in
      record {
        rest = rest;
        later = r.later;
        short = subst (λ z. length z ≤ 1024) whole r.short;
        kept = r.kept;
        records = r.records ∙ ap (λ z. now.complete ++ z ∷ r.later) whole;
        takes = λ i a.
            subst (λ j. Took i.values (v ∷ more) j) (sym (e i a.goes a.position (columns i a) ∙ ap go (value_at i a.position)))
            (record { values = (took i a).values ∙ append_assoc i.values (v ∷ []) more; goes = (took i a).goes });
      }
    where
      value_at : (i : Input) → i.before ≡ now.before → with_value v (length field) i ≡ record i { before = now.before + length field; values = i.values ++ v ∷ [] }
      value_at i b =
          let fits : now.before + length field ≤ sheet.columns = leb-true _ _ t in
          let u : nat_le (now.before + length field) 1024 ≡ true = le-leb (now.before + length field) 1024 (omega arith) in
          ap (λ k. if nat_le (k + length field) 1024 then record i { before = k + length field; values = i.values ++ v ∷ [] } else halted_by (Number 5) i) b
          ∙ ap (λ c. if c then record i { before = now.before + length field; values = i.values ++ v ∷ [] } else halted_by (Number 5) i) u
  valued_by false field v now last more go other t w n e r = absurd (let x : Some (Number 5) ≡ None = n in cc x)

  valued : (field : List ℕ) (v : Value) (now last : Output) (more : List Value) (go other : Input → Input) → length now.making ≤ now.before
      → (with_text sheet field now).halted ≡ None
      → ((i : Input) → i.halted ≡ None → i.before ≡ now.before → columns_of now.before (length field) i.line ≡ field → other i ≡ go (with_value v (length field) i))
      → Reads (with_text sheet field now) last more go → Reads now last (v ∷ more) other
  valued field v now last more go other w n e r = valued_by (nat_le (now.before + length field) sheet.columns) field v now last more go other refl w n e r

  served : (d : Descriptor) (value : ListedValue) (now last : Output) (more : List Value) (go other : Input → Input) → length now.making ≤ now.before
      → is_wide_enough d value now.plus ≡ true → (out.with_field sheet (field_of d value now.plus) now).halted ≡ None
      → ((i : Input) → i.halted ≡ None → other i ≡ go (taking.with_field d (want_of value) i))
      → Reads (out.with_field sheet (field_of d value now.plus) now) last more go → Reads now last (read_as value ∷ more) other
  served (IntIn width least) (Int number) now last more go other w k n e r =
      let parts = and_parts _ _ k in
      let fits : length (int_text number least now.plus) ≤ width = leb-true _ _ parts.1 in
      let field : List ℕ = int_field number width least now.plus in
      let l : length field ≡ width = int_width number width least now.plus fits in
      valued field (IntValue number) now last more go other w n
      (λ i h b f.
      e i h
      ∙ ap (λ x. go (with_int width (int_in (columns_of x width i.line) i.zeros) i)) b
      ∙ ap (λ x. go (with_int x (int_in (columns_of now.before x i.line) i.zeros) i)) (sym l)
      ∙ ap (λ x. go (with_int (length field) (int_in x i.zeros) i)) f
      ∙ ap (λ x. go (with_int (length field) x i)) (int_back number width least now.plus i.zeros parts.0 fits))
      r
  served (LogicalIn width) (Logical truth) now last more go other w k n e r =
      let some : 0 < width = ltb-true 0 width k in
      let field : List ℕ = logical_field truth width in
      let l : length field ≡ width = logical_width truth width some in
      valued field (LogicalValue truth) now last more go other w n
      (λ i h b f.
      e i h
      ∙ ap (λ x. go (with_logical width (logical_in (columns_of x width i.line)) i)) b
      ∙ ap (λ x. go (with_logical x (logical_in (columns_of now.before x i.line)) i)) (sym l)
      ∙ ap (λ x. go (with_logical (length field) (logical_in x) i)) f
      ∙ ap (λ x. go (with_logical (length field) x i)) (logical_back truth width some))
      r
  served (TextIn width) (Text text) now last more go other w k n e r =
      let size : ℕ = unwrap_or width (length text) in
      let fits : length text ≤ size = leb-true _ _ k in
      let field : List ℕ = text_field text size in
      let l : length field ≡ size = text_width text size fits in
      valued field (TextValue text) now last more go other w n
      (λ i h b f.
      e i h
      ∙ ap (λ x. go (with_value (TextValue (text_in (columns_of x size i.line) (length text))) size i)) b
      ∙ ap (λ x. go (with_value (TextValue (text_in (columns_of now.before x i.line) (length text))) x i)) (sym l)
      ∙ ap (λ x. go (with_value (TextValue (text_in x (length text))) (length field) i)) f
      ∙ ap (λ x. go (with_value (TextValue x) (length field) i)) (text_back text size fits))
      r
  served (IntIn width least) (Logical truth) now last more go other w k n e r = absurd (let x : false ≡ true = k in cc x)
  served (IntIn width least) (Text text) now last more go other w k n e r = absurd (let x : false ≡ true = k in cc x)
  served (LogicalIn width) (Int number) now last more go other w k n e r = absurd (let x : false ≡ true = k in cc x)
  served (LogicalIn width) (Text text) now last more go other w k n e r = absurd (let x : false ≡ true = k in cc x)
  served (TextIn width) (Int number) now last more go other w k n e r = absurd (let x : false ≡ true = k in cc x)
  served (TextIn width) (Logical truth) now last more go other w k n e r = absurd (let x : false ≡ true = k in cc x)

  -- what a record has so far is short, as long as the output goes on
  moved_short : (b : Bool) (columns : ℕ) (now : Output) → length now.making ≤ 1024
      → (let next : Output = if b then record now { before = columns } else record now { halted = Some (Number 5) } in length next.making) ≤ 1024
  moved_short true columns now s = s
  moved_short false columns now s = s

  record_short : (b : Bool) (now : Output)
      → (let next : Output = record now { complete = now.complete ++ now.making ∷ []; making = []; before = 0 } in
      let arrived : Output = if b then next else record next { halted = Some EndOfRecords } in length arrived.making) ≤ 1024
  record_short true now = omega arith
  record_short false now = omega arith

  acted_short : (c : Control) (now : Output) → has_place_on_input c ≡ true → length now.making ≤ 1024 → length (out.with_control sheet c now).making ≤ 1024
  acted_short (Literal text) now p s = absurd (let x : false ≡ true = p in cc x)
  acted_short (ToColumn column) now p s = moved_short (nat_le (column - 1) 1024) (column - 1) now s
  acted_short (LeftBy columns) now p s = moved_short (nat_le (now.before - columns) 1024) (now.before - columns) now s
  acted_short (RightBy columns) now p s = moved_short (nat_le (now.before + columns) 1024) (now.before + columns) now s
  acted_short NextRecord now p s = record_short (has_record sheet.records (length (now.complete ++ now.making ∷ []))) now
  acted_short (PlusSigns plus) now p s = s
  acted_short (ZeroBlanks zeros) now p s = s

  text_short_by : (b : Bool) (field : List ℕ) (now : Output) → nat_le (now.before + length field) sheet.columns ≡ b → length now.making ≤ now.before → length now.making ≤ 1024
      → (let next : Output = if b then record now { making = written_at now.before field now.making; before = now.before + length field } else record now { halted = Some (Number 5) } in length next.making) ≤ 1024
  text_short_by false field now t w s = s
  text_short_by true field now t w s =
      let gap : List ℕ = gap_before now.before field now.making in
      let g : length gap ≤ now.before - length now.making = gap_fits now.before field now.making in
      let l : length (written_at now.before field now.making) ≡ length (now.making ++ (gap ++ field)) = ap length (written_behind now.before field now.making w) in
      let fits : now.before + length field ≤ sheet.columns = leb-true _ _ t in
      omega (arith, length-append now.making (gap ++ field), length-append gap field)

  served_short : (field : Option (List ℕ)) (now : Output) → length now.making ≤ now.before → length now.making ≤ 1024 → length (out.with_field sheet field now).making ≤ 1024
  served_short None now w s = s
  served_short (Some field) now w s = text_short_by (nat_le (now.before + length field) sheet.columns) field now refl w s

  -- an output that halted stays so
  ends_halted : (q : Option Halt) (halt : Halt) (now : Output) → q ≡ Some halt → now.halted ≡ q → (ended now.halted now).halted ≡ Some halt
  ends_halted q halt now e f = ap (λ x. let last : Output = ended x now in last.halted) (f ∙ e) ∙ f ∙ e

  going : (edits : List Edit) (q : Option Halt) (now : Output) → now.halted ≡ q
      → (let last : Output = edited (output sheet) q edits [] now in (ended last.halted last).halted) ≡ None → q ≡ None
  going edits None now e h = refl
  going edits (Some halt) now e h = absurd (let x : Some halt ≡ None = sym (ends_halted (Some halt) halt now refl e) ∙ h in cc x)

  -- the last record
  at_end : (now : Output) (go : Input → Input) → ((i : Input) → i.halted ≡ None → go i ≡ i) → now.halted ≡ None → length now.making ≤ 1024
      → Reads now (ended now.halted now) [] go
  at_end now go g e s = record {
    rest = [];
    later = [];
    short = omega (arith, length-append now.making []);
    kept = tt;
    records = ap (λ x. let last : Output = ended x now in last.complete) e ∙ ap (λ z. now.complete ++ z ∷ []) (sym (append-nil now.making));
    takes = λ i a. subst (λ j. Took i.values [] j) (sym (g i a.goes)) (record { values = sym (append-nil i.values); goes = a.goes });
  }

  -- behind the last item
  closed_reads : (edits : List Edit) (q : Option Halt) (now : Output) → now.halted ≡ q → length now.making ≤ 1024 → have_place_on_input edits ≡ true
      → (let last : Output = edited (output sheet) q edits [] now in (ended last.halted last).halted) ≡ None
      → Reads now (let last : Output = edited (output sheet) q edits [] now in ended last.halted last) [] (λ i. edited input i.halted edits [] i)
  closed_reads edits (Some halt) now e s p h = absurd (let x : Some halt ≡ None = going edits (Some halt) now e h in cc x)
  closed_reads [] None now e s p h = at_end now (λ i. edited input i.halted [] [] i) (λ i g. ap (λ q. edited input q [] [] i) g) e s
  closed_reads (Item d ∷ edits) None now e s p h =
      at_end now (λ i. edited input i.halted (Item d ∷ edits) [] i) (λ i g. ap (λ q. edited input q (Item d ∷ edits) [] i) g) e s
  closed_reads (Act c ∷ edits) None now e s p h =
      let parts = and_parts _ _ p in
      acted c now _ [] (λ i. edited input i.halted edits [] i) (λ i. edited input i.halted (Act c ∷ edits) [] i) parts.0 s
      (going edits (out.with_control sheet c now).halted (out.with_control sheet c now) refl h)
      (λ i g. ap (λ q. edited input q (Act c ∷ edits) [] i) g)
      (closed_reads edits (out.with_control sheet c now).halted (out.with_control sheet c now) refl (acted_short c now parts.0 s) parts.1 h)
  closed_reads (Stop ∷ edits) None now e s p h =
      said_as now _ [] (λ i. edited input i.halted edits [] i) (λ i. edited input i.halted (Stop ∷ edits) [] i)
      (λ i g. ap (λ q. edited input q (Stop ∷ edits) [] i) g ∙ sym (ap (λ q. edited input q edits [] i) g)) (closed_reads edits None now e s p h)

  -- the end of the output, from its last item on
  abbrev closes : List Edit → Output → Output
  closes left now = output_closed sheet left now

  closes_halted : (left : List Edit) (halt : Halt) (now : Output) → now.halted ≡ Some halt → (closes left now).halted ≡ Some halt
  closes_halted left halt now e =
      ap (λ q. let last : Output = edited (output sheet) q (closing left) [] now in (ended last.halted last).halted) e ∙ ends_halted (Some halt) halt now refl e

  goes : (left edits : List Edit) (values : List ListedValue) (q : Option Halt) (now : Output) → now.halted ≡ q
      → (closes left (edited (output sheet) q edits values now)).halted ≡ None → q ≡ None
  goes left edits values None now e h = refl
  goes left edits values (Some halt) now e h = absurd (let x : Some halt ≡ None = sym (closes_halted left halt now e) ∙ h in cc x)

  abbrev reading : List Edit → List Edit → List Want → Input → Input
  reading left edits wants i = closed_by input (closing left) (edited input i.halted edits wants i)

  -- the items, and what is behind the last one
  reads : (left edits : List Edit) (values : List ListedValue) (q : Option Halt) (now : Output) → now.halted ≡ q → length now.making ≤ 1024
      → fields_hold sheet edits values now ≡ true → have_place_on_input (closing left) ≡ true
      → (closes left (edited (output sheet) q edits values now)).halted ≡ None
      → Reads now (closes left (edited (output sheet) q edits values now)) (map read_as values) (reading left edits (map want_of values))
  reads left edits values (Some halt) now e s f p h = absurd (let x : Some halt ≡ None = goes left edits values (Some halt) now e h in cc x)
  reads left [] (value ∷ values) None now e s f p h = absurd (let x : false ≡ true = f in cc x)
  reads left [] [] None now e s f p h =
      said_as now _ [] (λ i. edited input i.halted (closing left) [] i) (reading left [] [])
      (λ i g. ap (λ q. closed_by input (closing left) (edited input q [] [] i)) g) (closed_reads (closing left) now.halted now refl s p h)
  reads left (Item d ∷ edits) [] None now e s f p h =
      said_as now _ [] (λ i. edited input i.halted (closing left) [] i) (reading left (Item d ∷ edits) [])
      (λ i g. ap (λ q. closed_by input (closing left) (edited input q (Item d ∷ edits) [] i)) g) (closed_reads (closing left) now.halted now refl s p h)
  reads left (Item d ∷ edits) (value ∷ values) None now e s f p h =
      let parts = and_parts _ _ f in
      let fits = and_parts _ _ parts.0 in
      let behind : length now.making ≤ now.before = leb-true _ _ fits.0 in
      let next : Output = out.with_field sheet (field_of d value now.plus) now in
      served d value now _ (map read_as values) (reading left edits (map want_of values)) (reading left (Item d ∷ edits) (want_of value ∷ map want_of values)) behind fits.1
      (goes left edits values next.halted next refl h)
      (λ i g. ap (λ q. closed_by input (closing left) (edited input q (Item d ∷ edits) (want_of value ∷ map want_of values) i)) g)
      (reads left edits values next.halted next refl (served_short (field_of d value now.plus) now behind s) parts.1 p h)
  reads left (Act c ∷ edits) values None now e s f p h =
      let parts = and_parts _ _ f in
      let next : Output = out.with_control sheet c now in
      acted c now _ (map read_as values) (reading left edits (map want_of values)) (reading left (Act c ∷ edits) (map want_of values)) parts.0 s
      (goes left edits values next.halted next refl h)
      (λ i g. ap (λ q. closed_by input (closing left) (edited input q (Act c ∷ edits) (map want_of values) i)) g)
      (reads left edits values next.halted next refl (acted_short c now parts.0 s) parts.1 p h)
  reads left (Stop ∷ edits) values None now e s f p h =
      said_as now _ (map read_as values) (reading left edits (map want_of values)) (reading left (Stop ∷ edits) (map want_of values))
      (λ i g. ap (λ q. closed_by input (closing left) (edited input q (Stop ∷ edits) (map want_of values) i)) g
      ∙ sym (ap (λ q. closed_by input (closing left) (edited input q edits (map want_of values) i)) g))
      (reads left edits values None now e s f p h)

  -- an output that came to its end had a descriptor for each value
  all_served : (left : List Edit) (u : ℕ) (q : Option Halt) (now : Output) → now.halted ≡ q
      → (closes left (unserved_by (output sheet) u q now)).halted ≡ None → u ≡ 0
  all_served left zero q now e h = refl
  all_served left (suc u) None now e h =
      absurd (let x : Some (Number 4) ≡ None = sym (closes_halted left (Number 4) (record now { halted = Some (Number 4) }) refl) ∙ h in cc x)
  all_served left (suc u) (Some halt) now e h = absurd (let x : Some halt ≡ None = sym (closes_halted left halt now e) ∙ h in cc x)

  -- the values are read back from the records of the whole output where they are kept
  record IsReadBack (records : List (List ℕ)) (more : List Value) (go : Input → Input) : Type 0 where
    kept : AreKept records records
    takes : (held : List (List ℕ)) (zeros : Bool) → AreKept records held → Took [] more (go (input_start held zeros))

  from_start : (start last : Output) (more : List Value) (go : Input → Input) → start.complete ≡ [] → start.making ≡ [] → start.before ≡ 0 → Reads start last more go → IsReadBack last.complete more go
  from_start start last more go c m p r =
      let line : start.making ++ r.rest ≡ r.rest = ap (λ z. z ++ r.rest) m in
      let short : length r.rest ≤ 1024 = subst (λ z. length z ≤ 1024) line r.short in
      let all : last.complete ≡ r.rest ∷ r.later = r.records ∙ ap (λ z. z ++ (start.making ++ r.rest) ∷ r.later) c ∙ ap (λ z. z ∷ r.later) line in
      record {
        kept = subst (λ z. AreKept z z) (sym all) (record { short = short; blanks = 0; same = sym (append-nil r.rest) }, r.kept);
        takes = λ held zeros h.
            next_at r.rest r.later held more go
            (λ i a. r.takes i (record { blanks = a.blanks; stands = a.stands ∙ ap (λ z. z ++ replicate a.blanks 32) (sym line); kept = a.kept; position = a.position ∙ sym p; goes = a.goes }))
            (record { line = []; later = []; before = 0; zeros = zeros; values = []; halted = None }) refl (subst (λ z. AreKept z held) all h);
      }

  -- an output begins with nothing
  record IsBare (start : Output) : Type 0 where
    complete : start.complete ≡ []
    making : start.making ≡ []
    before : start.before ≡ 0

  bare_by : (b : Bool) → let next : Output = record { complete = []; making = []; before = 0; plus = false; halted = None } in
      IsBare (if b then next else record next { halted = Some EndOfRecords })
  bare_by true = record { complete = refl; making = refl; before = refl }
  bare_by false = record { complete = refl; making = refl; before = refl }

  back_by : (s : Served) (u : ℕ) (start : Output) (values : List ListedValue) → s.unserved ≡ u → IsBare start
      → let now : Output = edited (output sheet) start.halted s.edits values start in
      let last : Output = closes s.left (unserved_by (output sheet) u now.halted now) in
      last.halted ≡ None → fields_hold sheet s.edits values start ≡ true → have_place_on_input (closing s.left) ≡ true
      → IsReadBack last.complete (map read_as values)
      (λ i. let j : Input = edited input i.halted s.edits (map want_of values) i in closed_by input (closing s.left) (unserved_by input u j.halted j))
  back_by s zero start values e bare h f p =
      from_start start _ (map read_as values) (reading s.left s.edits (map want_of values)) bare.complete bare.making bare.before
      (reads s.left s.edits values start.halted start refl (subst (λ z. length z ≤ 1024) (sym bare.making) (omega arith)) f p h)
  back_by s (suc u) start values e bare h f p =
      let now : Output = edited (output sheet) start.halted s.edits values start in
      absurd (let x : suc u ≡ 0 = all_served s.left (suc u) now.halted now refl h in omega arith)

  pub read_back : (format : Format) (values : List ListedValue) → (made_on sheet format values true).halted ≡ None → IsTrue (stand_whole sheet format values)
      → AreKept (made_on sheet format values true).complete (made_on sheet format values true).complete
      × ((kept : List (List ℕ)) (zeros : Bool) → AreKept (made_on sheet format values true).complete kept
      → let i : Input = taken format kept (map want_of values) zeros in (i.values ≡ map read_as values) × (i.halted ≡ None))
  unfolding made_on taken stand_whole
  read_back format values h w =
      let s : Served = edits_for format (length values) in
      let parts = and_parts _ _ w in
      let b = back_by s s.unserved (output_start sheet) values refl (bare_by (has_record sheet.records 0)) h parts.0 parts.1 in
      let n : length (map want_of values) ≡ length values = length-map values want_of in
      let same : (t : Served) → Input → Input = λ t i. closed_by input (closing t.left) (served_over input t (map want_of values) i) in
      let e : (i : Input) → same (edits_for format (length (map want_of values))) i ≡ same s i = λ i. ap (λ k. same (edits_for format k) i) n in (
        b.kept,
        (λ kept zeros k. (
          ap (λ (j : Input). j.values) (e (input_start kept zeros)) ∙ (b.takes kept zeros k).values,
          ap (λ (j : Input). j.halted) (e (input_start kept zeros)) ∙ (b.takes kept zeros k).goes,
        )),
      )
