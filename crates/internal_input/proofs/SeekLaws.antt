-- The search for the value of an item, record by record.
use Rattle.std.proofs.Common.{◌≡◌, ℕ, zero, suc, ◌+◌, ◌-◌, ◌≤◌, ◌<◌, true, List, [], ◌∷◌, ◌++◌, length, take, refl, ap, sym, ◌∙◌, subst, arith, append_assoc, append-nil, length-append, ◌⊎◌, inl, inr}
use Rattle.std.specs.Prelude.{Ok}
use Rattle.std.proofs.lemmas.Bool.{cases_lt}
use Rattle.c_tree.specs.Objects.{Object}
use Rattle.c_tree.specs.World.{InternalFile}
use Rattle.c_tree.specs.Transfers.{Upcoming, internal_upcoming}
use Rattle.c_tree.specs.TransferInput.{runs_out}
use Rattle.edit_rules.specs.edit_meaning.ListInput.{Place, Piece, NeedRecord, given}
use Rattle.edit_rules.specs.edit_meaning.ListItems.{begun_with, item_over}
use Rattle.edit_rules.specs.declared.list_reader.ListItem.TheVariants as item
use Rattle.edit_rules.specs.Reader.{place_in}
use Rattle.listed_input.specs.Searching.{all_before, rest_size}
use Rattle.listed_input.proofs.ItemLaws.{GoesInside, goes-inside, piece-shrinks, begun-twice, begun-none}
use Rattle.listed_input.specs.declared.reading.RecordInReading.{RecordInReading}
use Rattle.listed_input.specs.Reading.{line_of, place_of, Gives}
use Rattle.listed_input.proofs.SeekLaws.{rest-short, item-given, place-behind, piece_of, next-by, take-whole, take-less}
use Rattle.internal_input.specs.Texts.{Gathered}
use Rattle.internal_records.specs.Fetching.{coming, moved, before_others}
use Rattle.internal_input.specs.Fetching.{ReadsNext}
use Rattle.internal_input.specs.Searching.{Search, kind_in, Seeking, GoesFurther}
use Rattle.internal_input.proofs.TextLaws.{gathered-none}

-- ## The search

not-moved : (file : InternalFile) → file ≡ moved 0 file
not-moved file = ap (λ (place : ℕ). record file { position = place }) (let e : file.position ≡ file.position + 0 = omega arith in e)

pub seeking-starts : (from : Search) (reading : RecordInReading) (buffer : List ℕ) → from.place ≡ place_of reading → Seeking from reading from.file buffer 0
seeking-starts from reading buffer is = record {
  text = [];
  front = [];
  comes = refl;
  behind = not-moved from.file;
  same = λ later. ap (λ (place : Place). item_over place later (kind_in from)) is ∙ sym (begun-none (item_over (place_of reading) later (kind_in from)));
  out = λ j before. absurd (omega (arith, before));
  gathered = gathered-none buffer from.item.size;
}

pub seeking-piece : (from : Search) (reading reading' : RecordInReading) (file : InternalFile) (objects : List Object) (buffer buffer' : List ℕ) (done done' start end : ℕ) →
    Gives (kind_in from) reading reading' (item.Text start end true) →
    ((text : List ℕ) → Gathered buffer from.item.size text done → Gathered buffer' from.item.size (text ++ piece_of (line_of reading) start end) done') →
    objects ≡ from.objects → Seeking from reading file buffer done → GoesFurther from reading file reading' objects file buffer' done'
seeking-piece from reading reading' file objects buffer buffer' done done' start end gives puts unchanged seeking =
    let piece : List ℕ = piece_of (line_of reading) start end in
    let is : Piece piece true (place_of reading') ≡ given (place_of reading) (kind_in from) =
    ap (Piece piece true) (sym (place-behind reading reading' gives.same)) ∙ gives.given_is in
    let shrinks : rest_size (place_of reading') + 1 ≤ rest_size (place_of reading) = piece-shrinks (place_of reading) (place_of reading') (kind_in from) piece is in
    record {
      seeking = record {
        text = seeking.text ++ piece;
        front = seeking.front;
        comes = seeking.comes;
        behind = seeking.behind;
        same = λ later.
            seeking.same later ∙ ap (begun_with seeking.text) (item-given (place_of reading) (kind_in from) (Piece piece true (place_of reading')) is later)
            ∙ begun-twice seeking.text piece (item_over (place_of reading') later (kind_in from));
        out = seeking.out;
        gathered = puts seeking.text seeking.gathered;
      };
      unchanged = unchanged;
      less = omega (arith, shrinks);
    }

-- ## A search that goes on in the next record

-- where a record comes next, the file is not used up
comes-there : (objects : List Object) (file : InternalFile) (line : List ℕ) (later : Upcoming) → coming objects file ≡ before_others line later → file.position < file.count
comes-there objects file line later comes = by (file.count - file.position) refl comes
  where
    by : (more : ℕ) → more ≡ file.count - file.position → internal_upcoming objects file more file.position ≡ before_others line later → file.position < file.count
    by zero is first = let none : [] ≡ line ∷ later.lines = ap (λ (next : Upcoming). next.lines) first in absurd (cc)
    by (suc more) is first = omega (arith, is)

pub seeking-record : (from : Search) (reading between reading' : RecordInReading) (file file' : InternalFile) (objects : List Object) (buffer : List ℕ) (done : ℕ) →
    Gives (kind_in from) reading between item.NeedLine → ReadsNext from.objects between reading' file file' (Ok tt) → objects ≡ from.objects →
    Seeking from reading file buffer done → GoesFurther from reading file reading' objects file' buffer done
seeking-record from reading between reading' file file' objects buffer done gives reads unchanged seeking =
    let line : List ℕ = line_of reading' in
    let need : Place = place_in [] between.reader in
    let is : NeedRecord need ≡ given (place_of reading) (kind_in from) = gives.given_is in
    let first : between.reader.place ≤ 0 = (gives.anywhere []).place in
    let goes : GoesInside (NeedRecord need) = subst GoesInside (sym is) (goes-inside (place_of reading) (kind_in from)) in
    let there : place_in line between.reader ≡ place_of reading' = ap (place_in line) (sym reads.1) in
    let item_is : (later : List (List ℕ)) → item_over from.place (seeking.front ++ line ∷ later) (kind_in from)
    ≡ begun_with seeking.text (item_over (place_of reading') later (kind_in from)) =
    λ later. seeking.same (line ∷ later)
    ∙ ap (begun_with seeking.text)
    (item-given (place_of reading) (kind_in from) (NeedRecord need) is (line ∷ later)
    ∙ next-by between.reader.doing between.reader.place line later (kind_in from) first goes
    ∙ ap (λ (place : Place). item_over place later (kind_in from)) there) in
    let used_up : runs_out (item_over from.place seeking.front (kind_in from)) ≡ true =
    ap (λ (lines : List (List ℕ)). runs_out (item_over from.place lines (kind_in from))) (sym (append-nil seeking.front))
    ∙ ap runs_out (seeking.same [] ∙ ap (begun_with seeking.text) (item-given (place_of reading) (kind_in from) (NeedRecord need) is [])) in
    let size : length (seeking.front ++ line ∷ []) ≡ length seeking.front + 1 = omega (arith, length-append seeking.front (line ∷ [])) in
    let same_count : file'.count ≡ file.count = ap (λ (one : InternalFile). one.count) reads.0.behind in
    let next_place : file'.position ≡ file.position + 1 = ap (λ (one : InternalFile). one.position) reads.0.behind in
    let short : rest_size (place_of reading') ≤ 1024 = rest-short reading' in
    let left_there : file.position < file.count = comes-there from.objects file line (coming from.objects file') reads.0.first in
    record {
      seeking = record {
        text = seeking.text;
        front = seeking.front ++ line ∷ [];
        comes =
            seeking.comes ∙ ap (all_before seeking.front) reads.0.first
            ∙ ap (λ (lines : List (List ℕ)). record (coming from.objects file') { lines = lines })
            (sym (append_assoc seeking.front (line ∷ []) (coming from.objects file').lines));
        behind =
            reads.0.behind ∙ ap (moved 1) seeking.behind
            ∙ ap (λ (place : ℕ). record (from.file) { position = place })
            (let e : (from.file.position + length seeking.front) + 1 ≡ from.file.position + length (seeking.front ++ line ∷ []) = omega (arith, size) in e);
        same = λ later.
            ap (λ (lines : List (List ℕ)). item_over from.place lines (kind_in from)) (append_assoc seeking.front (line ∷ []) later) ∙ item_is later;
        out = λ j before. by j before used_up (cases_lt j (length seeking.front));
        gathered = seeking.gathered;
      };
      unchanged = unchanged;
      less = omega (arith, same_count, next_place, short, left_there);
    }
  where
    by : (j : ℕ) → j < length (seeking.front ++ line_of reading' ∷ []) → runs_out (item_over from.place seeking.front (kind_in from)) ≡ true →
        (j < length seeking.front) ⊎ (length seeking.front ≤ j) → runs_out (item_over from.place (take j (seeking.front ++ line_of reading' ∷ [])) (kind_in from)) ≡ true
    by j before used_up (inl less) =
        ap (λ (lines : List (List ℕ)). runs_out (item_over from.place lines (kind_in from))) (take-less j seeking.front (line_of reading') less) ∙ seeking.out j less
    by j before used_up (inr past) =
        ap (λ (n : ℕ). runs_out (item_over from.place (take n (seeking.front ++ line_of reading' ∷ [])) (kind_in from)))
        (let e : j ≡ length seeking.front = omega (arith, before, past, length-append seeking.front (line_of reading' ∷ [])) in e)
        ∙ ap (λ (lines : List (List ℕ)). runs_out (item_over from.place lines (kind_in from))) (take-whole seeking.front (line_of reading')) ∙ used_up
