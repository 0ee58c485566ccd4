-- What a put owes, from what it did to the line and the writer.
use Rattle.std.proofs.Common.{◌≡◌, ℕ, ◌+◌, ◌-◌, ◌<◌, ◌≤◌, List, [], ◌∷◌, ◌++◌, length, take, drop, sym, ap, ◌∙◌, arith, length-drop, length-take-le, drop-drop}
use Rattle.std.proofs.lemmas.Grind.{common_steps}
use Rattle.edit_meaning.specs.Listed.{begun, followed_by}
use Rattle.edit_rules.specs.Writer.{only, behind, Places, Fills}
use Rattle.edit_rules.specs.declared.list_writer.ListWriter.{ListWriter}
use Rattle.edit_rules.proofs.ListedSteps.{in_place, in_next_record, by_a_piece}

-- the front of a line in which a piece was placed
front_of : (front piece tail : List ℕ) (used : ℕ) → used ≡ length front + length piece → take used (front ++ piece ++ tail) ≡ front ++ piece
front_of front piece tail used e = grind (arith, common_steps)

front_length : (used : ℕ) (line : List ℕ) → length line ≡ 80 → used ≤ 80 → length (take used line) ≡ used
front_length used line a b = grind (arith, common_steps)

whole_rest : (text : List ℕ) (done : ℕ) → take (length text - done) (drop done text) ≡ drop done text
whole_rest text done = grind (arith, common_steps)

pub placed_whole : (old new : ListWriter) (line text line' tail : List ℕ)
    → old.done ≤ length text → length line ≡ 80 → length text - old.done ≤ 80 - old.used
    → new.used ≡ old.used + (length text - old.done) → new.done ≡ 0
    → line' ≡ take old.used line ++ take (length text - old.done) (drop old.done text) ++ tail
    → Places old line text new line'
placed_whole old new line text line' tail within columns fits used done placed =
    let l : length (take old.used line) ≡ old.used = front_length old.used line columns old.within in
    let r : length (drop old.done text) ≡ length text - old.done = length-drop old.done text in
    let u : new.used ≡ length (take old.used line) + length (drop old.done text) = omega arith in
    let e : line' ≡ take old.used line ++ drop old.done text ++ tail = placed ∙ ap (λ z. take old.used line ++ z ++ tail) (whole_rest text old.done) in
    record {
      goes_in = in_place (only (take old.used line)) (drop old.done text) (omega arith)
          ∙ ap only (sym (ap (take new.used) e ∙ front_of (take old.used line) (drop old.done text) tail new.used u));
      starts = done;
    }

pub full_record : (old new : ListWriter) (line text : List ℕ)
    → old.done ≤ length text → length line ≡ 80 → take 1 line ≡ 32 ∷ [] → 80 - old.used < length text - old.done → 1 < old.used
    → new.used ≡ 1 → new.done ≡ old.done
    → Fills old line text old.used new line
full_record old new line text within columns blank long more used done =
    let l : length (take old.used line) ≡ old.used = front_length old.used line columns old.within in
    let r : length (drop old.done text) ≡ length text - old.done = length-drop old.done text in
    record {
      goes_on = in_next_record (take old.used line) (drop old.done text) (omega arith) (omega arith)
          ∙ ap (λ d. behind (take old.used line) (followed_by begun (drop d text))) (sym done);
      whole = l;
      new_record = used;
      within = rw done within;
      nearer = rw done (omega arith);
    }

piece_front : (rest tail : List ℕ) → 79 < length rest → take 80 ((32 ∷ []) ++ take 79 rest ++ tail) ≡ (32 ∷ []) ++ take 79 rest
piece_front rest tail long = let l : length (take 79 rest) ≡ 79 = length-take-le 79 rest (omega arith) in
    front_of (32 ∷ []) (take 79 rest) tail 80 (omega arith)

piece_length : (rest : List ℕ) → 79 < length rest → length ((32 ∷ []) ++ take 79 rest) ≡ 80
piece_length rest long = let l : length (take 79 rest) ≡ 79 = length-take-le 79 rest (omega arith) in omega arith

drop_more : (done : ℕ) (text : List ℕ) → drop (done + 79) text ≡ drop 79 (drop done text)
drop_more done text = sym (drop-drop 79 done text)

count_back : (done : ℕ) → done + 79 - done ≡ 79
count_back done = omega arith

pub full_piece : (old new : ListWriter) (line text line' tail : List ℕ)
    → old.done ≤ length text → length line ≡ 80 → take 1 line ≡ 32 ∷ [] → 80 - old.used < length text - old.done → old.used ≤ 1
    → new.used ≡ old.used → new.done ≡ old.done + 79
    → line' ≡ take 1 line ++ take (old.done + 79 - old.done) (drop old.done text) ++ tail
    → Fills old line text 80 new line'
full_piece old new line text line' tail within columns blank long less used done placed =
    let r : length (drop old.done text) ≡ length text - old.done = length-drop old.done text in
    let one : old.used ≡ 1 = omega (arith, old.begins) in
    let e : line' ≡ (32 ∷ []) ++ take 79 (drop old.done text) ++ tail =
    placed ∙ ap (λ z. z ++ take (old.done + 79 - old.done) (drop old.done text) ++ tail) blank
    ∙ ap (λ n. (32 ∷ []) ++ take n (drop old.done text) ++ tail) (count_back old.done) in
    let f : take 80 line' ≡ (32 ∷ []) ++ take 79 (drop old.done text) = ap (take 80) e ∙ piece_front (drop old.done text) tail (omega arith) in
    record {
      goes_on = ap (λ n. followed_by (only (take n line)) (drop old.done text)) one
          ∙ ap (λ z. followed_by (only z) (drop old.done text)) blank
          ∙ by_a_piece (drop old.done text) (omega arith)
          ∙ ap (λ z. behind z (followed_by begun (drop 79 (drop old.done text)))) (sym f)
          ∙ ap (λ z. behind (take 80 line') (followed_by begun z)) (sym (ap (λ n. drop n text) done ∙ drop_more old.done text));
      whole = ap length f ∙ piece_length (drop old.done text) (omega arith);
      new_record = used ∙ one;
      within = rw done (omega arith);
      nearer = let d : length (drop new.done text) ≡ length text - new.done = length-drop new.done text in omega arith;
    }
