-- The search for the value of an item, record by record.
use Rattle.std.proofs.Common.{◌≡◌, ℕ, ◌+◌, zero, suc, ◌-◌, ◌≤◌, ◌<◌, ℤ, true, List, [], ◌∷◌, ◌++◌, length, take, drop, refl, ap, sym, ◌∙◌, subst, arith, append_assoc, append-nil, length-append, ◌⊎◌, inl, inr}
use Rattle.std.specs.Prelude.{Result, Ok, Err}
use Rattle.std.proofs.lemmas.Bool.{cases_lt}
use Rattle.c_tree.specs.run_state.Units.{Units, Reading, read_unit}
use Rattle.run_state.specs.declared.refusals.UnitRefusal.{UnitRefusal}
use Rattle.c_tree.specs.Objects.{Object}
use Rattle.c_tree.specs.LibraryArguments.{text_stored}
use Rattle.c_tree.specs.Transfers.{read_on}
use Rattle.c_tree.specs.TransferInput.{runs_out}
use Rattle.edit_rules.specs.edit_meaning.ListInput.{Kind, Place, Between, Repeated, Nulls, Inside, Given, Piece, NeedRecord, given}
use Rattle.edit_rules.specs.edit_meaning.ListItems.{begun_with, in_record, item_over}
use Rattle.edit_rules.specs.declared.list_reader.Doing.{Doing}
use Rattle.edit_rules.specs.declared.list_reader.Doing.TheVariants as doing
use Rattle.edit_rules.specs.declared.list_reader.ListItem.TheVariants as item
use Rattle.edit_rules.specs.Reader.{place_by, place_in}
use Rattle.f2c_outside.specs.Table.{Row}
use Rattle.f2c_outside.specs.Meaning.{units_of}
use Rattle.listed_output.proofs.RowLaws.{stays-same, stays-stays}
use Rattle.listed_input.specs.declared.ends.ItemEnd.TheVariants as ends
use Rattle.listed_input.specs.declared.reading.RecordInReading.{RecordInReading}
use Rattle.listed_input.specs.declared.records.NextRecord.TheVariants.{Record, Failed}
use Rattle.listed_input.specs.Fetching.{coming, before_others, position_of, Fetches}
use Rattle.listed_input.specs.Texts.{PutsPiece}
use Rattle.listed_input.specs.Reading.{line_of, place_of, Gives, ReadsNext}
use Rattle.listed_input.specs.Searching.{Search, kind_in, all_before, one_more, rest_size, Seeking, IsOutside}
use Rattle.listed_input.proofs.ItemLaws.{IsItem, given-item, GoesInside, goes-inside, no-piece-outside, piece-shrinks, needs-outside, any-constant, begun-twice, begun-none}
use Rattle.listed_input.proofs.StoreLaws.{take-none}

-- ## The next record

pub reads-record : (unit own : ℤ) (reading reading' : RecordInReading) (line : List ℕ) (used : ℕ) (old new : List Row) → own ≡ unit → line_of reading' ≡ take used line →
    reading'.reader ≡ reading.reader → Fetches own line old new (Record used) → ReadsNext unit reading reading' old new (Ok tt)
reads-record unit own reading reading' line used old new same is reader fetched =
    let fetches : Fetches unit line old new (Record used) = subst (λ (n : ℤ). Fetches n line old new (Record used)) same fetched in
    record {
      tells = fetches.tells;
      means = λ tells. (
        (fetches.means tells).0 ∙ ap (λ (one : List ℕ). before_others one (coming unit (units_of new))) (sym is),
        (fetches.means tells).1,
      );
      devices = fetches.devices;
      further = fetches.further;
      reader = reader;
      kept = tt;
    }

pub reads-failed : (unit own : ℤ) (reading : RecordInReading) (line : List ℕ) (old new : List Row) → own ≡ unit → Fetches own line old new Failed →
    ReadsNext unit reading reading old new (Err ends.Device)
reads-failed unit own reading line old new same fetched =
    let fetches : Fetches unit line old new Failed = subst (λ (n : ℤ). Fetches n line old new Failed) same fetched in
    record { tells = fetches.tells; means = λ tells. tt; devices = fetches.devices; further = tt; reader = refl; kept = refl }

-- ## The units behind several records

abbrev then_on : ℕ → ℤ → Units → Result Reading UnitRefusal → Units
then_on count unit units found = elim found [ Ok reading ↦ read_on count unit reading.after | Err refusal ↦ units ]

last-by : (count : ℕ) (unit : ℤ) (units : Units) → ((later : Units) → read_on (suc count) unit later ≡ read_on 1 unit (read_on count unit later)) →
    (found : Result Reading UnitRefusal) → read_unit unit units ≡ found → read_on (suc (suc count)) unit units ≡ read_on 1 unit (read_on (suc count) unit units)
last-by count unit units last (Ok reading) is =
    ap (then_on (suc count) unit units) is ∙ last reading.after ∙ ap (read_on 1 unit) (sym (ap (then_on count unit units) is))
last-by count unit units last (Err refusal) is =
    ap (then_on (suc count) unit units) is ∙ sym (ap (read_on 1 unit) (ap (then_on count unit units) is) ∙ ap (then_on 0 unit units) is)

pub on-last : (count : ℕ) (unit : ℤ) (units : Units) → read_on (suc count) unit units ≡ read_on 1 unit (read_on count unit units)
on-last zero unit units = refl
on-last (suc count) unit units = last-by count unit units (λ later. on-last count unit later) (read_unit unit units) refl

-- ## The search

length-dropped : (n : ℕ) (xs : List ℕ) → length (drop n xs) ≤ length xs
length-dropped zero xs = omega arith
length-dropped (suc n) [] = omega arith
length-dropped (suc n) (x ∷ xs) = let rest : length (drop n xs) ≤ length xs = length-dropped n xs in omega (arith, rest)

pub length-short : (n : ℕ) (xs : List ℕ) → length (take n xs) ≤ n
length-short zero xs = omega arith
length-short (suc n) [] = omega arith
length-short (suc n) (x ∷ xs) = let rest : length (take n xs) ≤ n = length-short n xs in omega (arith, rest)

rest-by : (doing : Doing) (place : ℕ) (line : List ℕ) → rest_size (place_by doing place line) ≤ length line
rest-by (doing.Between valued) place line = length-dropped place line
rest-by (doing.Repeated more) place line = length-dropped place line
rest-by (doing.Nulls more) place line = length-dropped place line
rest-by (doing.Inside more constant) place line = length-dropped place line

-- a record has so many bytes at most
pub rest-short : (reading : RecordInReading) → rest_size (place_of reading) ≤ 1024
rest-short reading =
    let rest : rest_size (place_of reading) ≤ length (line_of reading) = rest-by reading.reader.doing reading.reader.place (line_of reading) in
    let line : length (line_of reading) ≤ reading.used = length-short reading.used reading.line in
    let used : reading.used ≤ 1024 = reading.short in
    omega (arith, rest, line, used)

pub seeking-starts : (from : Search) (reading : RecordInReading) → from.place ≡ place_of reading → from.steps ≡ 0 → Seeking from reading from.objects from.rows 0
seeking-starts from reading is none = record {
  text = [];
  front = [];
  tells = λ tells. tells;
  stays = stays-same from.unit from.rows;
  comes = λ tells. refl;
  reads = λ tells. refl;
  same = λ later. ap (λ (place : Place). item_over place later (kind_in from)) is ∙ sym (begun-none (item_over (place_of reading) later (kind_in from)));
  out = λ j before. absurd (omega (arith, before));
  written = record {
    stored = ap (text_stored from.objects from.item.pointer) (take-none from.item.size);
    done_is = sym (ap length (take-none {A = ℕ} from.item.size));
  };
  counted = let short : rest_size (place_of reading) ≤ 1024 = rest-short reading in omega (arith, none, short);
  deep = omega arith;
  fresh = λ outside. refl;
}

-- what an item takes by what it is given
pub item-given : (place : Place) (kind : Kind) (g : Given) → g ≡ given place kind → (later : List (List ℕ)) → IsItem (item_over place later kind) later kind g
item-given place kind g is later = subst (IsItem (item_over place later kind) later kind) (sym is) (given-item place later kind)

-- the place behind, in the line that stays
pub place-behind : (reading reading' : RecordInReading) → line_of reading' ≡ line_of reading → place_in (line_of reading) reading'.reader ≡ place_of reading'
place-behind reading reading' same = ap (λ (line : List ℕ). place_in line reading'.reader) (sym same)

-- the piece of a line
abbrev pub piece_of : List ℕ → ℕ → ℕ → List ℕ
piece_of line start end = take (end - start) (drop start line)

pub seeking-piece : (from : Search) (reading reading' : RecordInReading) (objects objects' : List Object) (rows : List Row) (done done' start end : ℕ) →
    Gives (kind_in from) reading reading' (item.Text start end true) →
    PutsPiece from.item.pointer from.item.size done (piece_of (line_of reading) start end) objects objects' (Ok done') →
    Seeking from reading objects rows done → Seeking (one_more from) reading' objects' rows done'
seeking-piece from reading reading' objects objects' rows done done' start end gives puts seeking =
    let piece : List ℕ = piece_of (line_of reading) start end in
    let is : Piece piece true (place_of reading') ≡ given (place_of reading) (kind_in from) =
    ap (Piece piece true) (sym (place-behind reading reading' gives.same)) ∙ gives.given_is in
    let goes : GoesInside (Piece piece true (place_of reading')) = subst GoesInside (sym is) (goes-inside (place_of reading) (kind_in from)) in
    record {
      text = seeking.text ++ piece;
      front = seeking.front;
      tells = seeking.tells;
      stays = seeking.stays;
      comes = seeking.comes;
      reads = seeking.reads;
      same = λ later.
          seeking.same later ∙ ap (begun_with seeking.text) (item-given (place_of reading) (kind_in from) (Piece piece true (place_of reading')) is later)
          ∙ begun-twice seeking.text piece (item_over (place_of reading') later (kind_in from));
      out = seeking.out;
      written = puts from.objects seeking.text seeking.written;
      counted =
          let less : rest_size (place_of reading') + 1 ≤ rest_size (place_of reading) = piece-shrinks (place_of reading) (place_of reading') (kind_in from) piece is in
          omega (arith, less, seeking.counted);
      deep = seeking.deep;
      fresh = λ outside. absurd (no-piece-outside piece (place_of reading') goes outside);
    }

-- ## A search that goes on in the next record

pub next-by : (doing : Doing) (place : ℕ) (next : List ℕ) (later : List (List ℕ)) (kind : Kind) → place ≤ 0 → GoesInside (NeedRecord (place_by doing place [])) →
    item_over (in_record next (place_by doing place [])) later kind ≡ item_over (place_by doing place next) later kind
next-by (doing.Between valued) place next later kind first goes =
    ap (λ (n : ℕ). item_over (Between valued (drop n next)) later kind) (let e : 0 ≡ place = omega (arith, first) in e)
next-by (doing.Repeated more) place next later kind first goes =
    ap (λ (n : ℕ). item_over (Repeated more (drop n next)) later kind) (let e : 0 ≡ place = omega (arith, first) in e)
next-by (doing.Nulls more) place next later kind first goes =
    ap (λ (n : ℕ). item_over (Nulls more (drop n next)) later kind) (let e : 0 ≡ place = omega (arith, first) in e)
next-by (doing.Inside more constant) place next later kind first goes =
    any-constant more (drop constant []) (drop constant next) next later kind goes
    ∙ ap (λ (n : ℕ). item_over (Inside more (drop constant next) (drop n next)) later kind) (let e : 0 ≡ place = omega (arith, first) in e)

outside-next : (doing : Doing) (place : ℕ) (next : List ℕ) → IsOutside (place_by doing place next) → IsOutside (place_by doing place [])
outside-next (doing.Between valued) place next outside = tt
outside-next (doing.Repeated more) place next outside = tt
outside-next (doing.Nulls more) place next outside = tt
outside-next (doing.Inside more constant) place next outside = outside

pub take-whole : (front : List (List ℕ)) (line : List ℕ) → take (length front) (front ++ line ∷ []) ≡ front
take-whole [] line = refl
take-whole (first ∷ later) line = ap (λ (rest : List (List ℕ)). first ∷ rest) (take-whole later line)

pub take-less : (j : ℕ) (front : List (List ℕ)) (line : List ℕ) → j < length front → take j (front ++ line ∷ []) ≡ take j front
take-less zero front line less = refl
take-less (suc j) [] line less = absurd (omega (arith, less))
take-less (suc j) (first ∷ later) line less = ap (λ (rest : List (List ℕ)). first ∷ rest) (take-less j later line (omega (arith, less)))

pub seeking-record : (from : Search) (reading between reading' : RecordInReading) (objects : List Object) (rows rows' : List Row) (done : ℕ) →
    Gives (kind_in from) reading between item.NeedLine → ReadsNext from.unit between reading' rows rows' (Ok tt) →
    Seeking from reading objects rows done → Seeking (one_more from) reading' objects rows' done
seeking-record from reading between reading' objects rows rows' done gives reads seeking =
    let line : List ℕ = line_of reading' in
    let need : Place = place_in [] between.reader in
    let is : NeedRecord need ≡ given (place_of reading) (kind_in from) = gives.given_is in
    let first : between.reader.place ≤ 0 = (gives.anywhere []).place in
    let goes : GoesInside (NeedRecord need) = subst GoesInside (sym is) (goes-inside (place_of reading) (kind_in from)) in
    let there : place_in line between.reader ≡ place_of reading' = ap (place_in line) (sym reads.reader) in
    let item_is : (later : List (List ℕ)) → item_over from.place (seeking.front ++ line ∷ later) (kind_in from)
    ≡ begun_with seeking.text (item_over (place_of reading') later (kind_in from)) =
    λ later. seeking.same (line ∷ later)
    ∙ ap (begun_with seeking.text)
    (item-given (place_of reading) (kind_in from) (NeedRecord need) is (line ∷ later)
    ∙ next-by between.reader.doing between.reader.place line later (kind_in from) first goes
    ∙ ap (λ (place : Place). item_over place later (kind_in from)) there) in
    let used_up : runs_out (item_over from.place seeking.front (kind_in from)) ≡ true =
    ap (λ (lines : List (List ℕ)). runs_out (item_over from.place lines (kind_in from))) (sym (append-nil seeking.front))
    ∙ ap runs_out (seeking.same [] ∙ ap (begun_with seeking.text) (item-given (place_of reading) (kind_in from) (NeedRecord need) is [])) in
    record {
      text = seeking.text;
      front = seeking.front ++ line ∷ [];
      tells = λ tells. reads.tells (seeking.tells tells);
      stays = stays-stays from.unit from.rows rows rows' seeking.stays reads.devices;
      comes = λ tells.
          seeking.comes tells ∙ ap (all_before seeking.front) (reads.means (seeking.tells tells)).0
          ∙ ap (λ (lines : List (List ℕ)). record (coming from.unit (units_of rows')) { lines = lines })
          (sym (append_assoc seeking.front (line ∷ []) (coming from.unit (units_of rows')).lines));
      reads = λ tells.
          (reads.means (seeking.tells tells)).1 ∙ ap (read_on 1 from.unit) (seeking.reads tells)
          ∙ sym (on-last (length seeking.front) from.unit (units_of from.rows))
          ∙ ap (λ (n : ℕ). read_on n from.unit (units_of from.rows))
          (let e : suc (length seeking.front) ≡ length (seeking.front ++ line ∷ []) = omega (arith, length-append seeking.front (line ∷ [])) in e);
      same = λ later.
          ap (λ (lines : List (List ℕ)). item_over from.place lines (kind_in from)) (append_assoc seeking.front (line ∷ []) later) ∙ item_is later;
      out = λ j before. by j before used_up (cases_lt j (length seeking.front));
      written = seeking.written;
      counted =
          let short : rest_size (place_of reading') ≤ 1024 = rest-short reading' in
          omega (arith, short, seeking.counted, length-append seeking.front (line ∷ []));
      deep =
          let next : position_of from.unit (units_of rows') ≡ suc (position_of from.unit (units_of rows)) = reads.further in
          omega (arith, next, seeking.deep, length-append seeking.front (line ∷ []));
      fresh = λ outside.
          seeking.fresh (needs-outside (place_of reading) need (kind_in from) is
          (outside-next between.reader.doing between.reader.place line (subst IsOutside (sym there) outside)));
    }
  where
    by : (j : ℕ) → j < length (seeking.front ++ line_of reading' ∷ []) → runs_out (item_over from.place seeking.front (kind_in from)) ≡ true →
        (j < length seeking.front) ⊎ (length seeking.front ≤ j) → runs_out (item_over from.place (take j (seeking.front ++ line_of reading' ∷ [])) (kind_in from)) ≡ true
    by j before used_up (inl less) =
        ap (λ (lines : List (List ℕ)). runs_out (item_over from.place lines (kind_in from))) (take-less j seeking.front (line_of reading') less) ∙ seeking.out j less
    by j before used_up (inr past) =
        ap (λ (n : ℕ). runs_out (item_over from.place (take n (seeking.front ++ line_of reading' ∷ [])) (kind_in from)))
        (let e : j ≡ length seeking.front = omega (arith, before, past, length-append seeking.front (line_of reading' ∷ [])) in e)
        ∙ ap (λ (lines : List (List ℕ)). runs_out (item_over from.place lines (kind_in from))) (take-whole seeking.front (line_of reading')) ∙ used_up
