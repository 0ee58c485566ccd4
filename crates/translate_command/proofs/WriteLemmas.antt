-- What writing texts to places does to a shelf, one after the other.
use Rattle.std.specs.Prelude.{◌≡◌, ℕ, zero, suc, ◌+◌, ◌<◌, ◌≤◌, List, [], ◌∷◌, ◌++◌, length, take, slice_get, Option, Some, None, option_map}
use Rattle.std.proofs.Common.{refl, sym, ap, subst, ◌∙◌, arith, get_or}
use Rattle.std.proofs.lemmas.List.{length-take-le}
use Rattle.std.proofs.lemmas.Option.{slice_get-get_or}
use Rattle.f2c_outside.specs.declared.shelves.Place.{Place}
use Rattle.f2c_outside.specs.Shelf.{ShelfState, Contents, begun, added}
use Rattle.shelf_texts.specs.ShelfLoops.{IsWritten, IsUnwritten, IsFrontWritten, written}
use Rattle.translate_command.specs.WrittenTexts.{all_written, AreWritten, IsStoppedAt, AreUnwritten}
use Rattle.source_files.proofs.ListLemmas.{further, some_same}

-- ONE MORE place
written_more : (places : List Place) (texts : List (List ℕ)) (place : Place) (text : List ℕ) (c : Contents) → length texts ≡ length places →
    all_written (places ++ place ∷ []) (texts ++ text ∷ []) c ≡ added place text (begun place (all_written places texts c))
unfolding all_written
written_more [] [] place text c same = refl
written_more [] (t ∷ texts) place text c same = absurd (omega (arith, same))
written_more (p ∷ places) [] place text c same = absurd (omega (arith, same))
written_more (p ∷ places) (t ∷ texts) place text c same = written_more places texts place text (added p t (begun p c)) (omega (arith, same))

told_more : (places : List Place) (texts : List (List ℕ)) (place : Place) (text : List ℕ) (told : Option Contents) → length texts ≡ length places →
    written place text (option_map (all_written places texts) told) ≡ option_map (all_written (places ++ place ∷ []) (texts ++ text ∷ [])) told
told_more places texts place text None same = refl
told_more places texts place text (Some c) same = ap Some (sym (written_more places texts place text c same))

one_more : (places : List Place) (texts : List (List ℕ)) (place : Place) (text : List ℕ) (b m a : ShelfState) → length texts ≡ length places →
    AreWritten places texts b m → IsWritten place text m a → AreWritten (places ++ place ∷ []) (texts ++ text ∷ []) b a
one_more places texts place text b m a same first one = record {
  quiet = one.quiet ∙ first.quiet;
  whole = one.whole ∙ (ap (written place text) first.whole ∙ told_more places texts place text b.told same);
}

-- IN A LOOP
none_written : (told : Option Contents) → told ≡ option_map (all_written [] []) told
unfolding all_written
none_written None = refl
none_written (Some c) = refl

pub at_begin : (places : List Place) (texts : List (List ℕ)) (b : ShelfState) → AreWritten (take 0 places) (take 0 texts) b b
at_begin places texts b = record { quiet = refl; whole = none_written b.told }

same_count : (number : ℕ) (places : List Place) (texts : List (List ℕ)) → number < length places → number < length texts → length (take number texts) ≡ length (take number places)
same_count number places texts within few =
    let one = length-take-le number places (omega (arith, within)) in
    let other = length-take-le number texts (omega (arith, few)) in
    omega (arith, one, other)

pub behind_one : (places : List Place) (texts : List (List ℕ)) (number : ℕ) (place : Place) (text : List ℕ) (b m a : ShelfState) → number < length places → number < length texts →
    place ≡ get_or places number place → text ≡ get_or texts number text → AreWritten (take number places) (take number texts) b m → IsWritten place text m a →
    AreWritten (take (number + 1) places) (take (number + 1) texts) b a
behind_one places texts number place text b m a within few place_is text_is first one =
    subst (λ ps. AreWritten ps (take (number + 1) texts) b a) (further places number place within place_is)
    (subst (λ ts. AreWritten (take number places ++ place ∷ []) ts b a) (further texts number text few text_is)
    (one_more (take number places) (take number texts) place text b m a (same_count number places texts within few) first one))

past_either : (places : List Place) (texts : List (List ℕ)) (c : Contents) (number : ℕ) → number ≤ length places → number ≤ length texts →
    (number < length places → number < length texts → ⊥) → all_written (take number places) (take number texts) c ≡ all_written places texts c
unfolding all_written
past_either [] texts c number low few end = let none : number ≡ 0 = omega (arith, low) in ap (λ n. all_written (take n []) (take n texts) c) none
past_either (p ∷ places) [] c number low few end = let none : number ≡ 0 = omega (arith, few) in ap (λ n. all_written (take n (p ∷ places)) (take n []) c) none
past_either (p ∷ places) (t ∷ texts) c zero low few end = absurd (end (omega arith) (omega arith))
past_either (p ∷ places) (t ∷ texts) c (suc number) low few end =
    past_either places texts (added p t (begun p c)) number (omega (arith, low)) (omega (arith, few)) (λ one other. end (omega (arith, one)) (omega (arith, other)))

told_all : (places : List Place) (texts : List (List ℕ)) (told : Option Contents) (number : ℕ) → number ≤ length places → number ≤ length texts →
    (number < length places → number < length texts → ⊥) → option_map (all_written (take number places) (take number texts)) told ≡ option_map (all_written places texts) told
told_all places texts None number low few end = refl
told_all places texts (Some c) number low few end = ap Some (past_either places texts c number low few end)

pub at_end : (places : List Place) (texts : List (List ℕ)) (number : ℕ) (b a : ShelfState) → number ≤ length places → number ≤ length texts →
    (number < length places → number < length texts → ⊥) → AreWritten (take number places) (take number texts) b a → AreWritten places texts b a
at_end places texts number b a low few end first = record { quiet = first.quiet; whole = first.whole ∙ told_all places texts b.told number low few end }

-- a place that was not written
pub stopped_at : (places : List Place) (texts : List (List ℕ)) (number : ℕ) (place : Place) (text : List ℕ) (b m a : ShelfState) → number < length places →
    number < length texts → place ≡ get_or places number place → text ≡ get_or texts number text → AreWritten (take number places) (take number texts) b m →
    IsUnwritten place text m a → IsStoppedAt places texts number b a
stopped_at places texts number place text b m a within few place_is text_is first one = record {
  place = place;
  text = text;
  place_is = slice_get-get_or places number place within ∙ ap Some (sym place_is);
  text_is = slice_get-get_or texts number text few ∙ ap Some (sym text_is);
  rose = λ below. let quiet = first.quiet in let less : m.faults < a.faults = one.rose below in omega (arith, quiet, less);
  later = let quiet = first.quiet in let last = one.later in omega (arith, quiet, last);
  front = subst (λ told. IsFrontWritten place text told a.told) first.whole one.front;
}

pub unwritten_at : (places : List Place) (texts : List (List ℕ)) (number : ℕ) (place : Place) (b a : ShelfState) → IsStoppedAt places texts number b a →
    slice_get places number ≡ Some place → AreUnwritten places texts place b a
unwritten_at places texts number place b a stopped is =
    record { number = number; stopped = stopped; named = some_same stopped.place place (sym stopped.place_is ∙ is) }
