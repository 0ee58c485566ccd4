-- Files that are written one after the other.
use Rattle.std.proofs.Common.{◌≡◌, ℕ, zero, suc, ◌+◌, ◌<◌, ◌≤◌, Bool, true, false, List, [], ◌∷◌, ◌++◌, length, take, drop, refl, sym, ap, subst, ◌∙◌, arith, Option, Some, None, option_map, inl, inr}
use Rattle.std.specs.Prelude.{◌⊎◌, ◌||◌, bytes_eq, slice_get, if◌then◌else◌}
use Rattle.std.specs.List.{AllByRecursion, IsDistinct, list_any}
use Rattle.std.proofs.lemmas.Cmp.{nat_list_eq_equiv}
use Rattle.std.proofs.lemmas.List.Elements.{AllZip-push}
use Rattle.std.proofs.lemmas.List.Folds.{list_any-append}
use Rattle.std.proofs.lemmas.Map.Keys.{IsDistinct-head, IsDistinct-tail}
use Rattle.f2c_outside.specs.declared.shelves.Place.{Place}
use Rattle.f2c_outside.specs.declared.shelves.Place.TheVariants.{File}
use Rattle.f2c_outside.specs.Shelf.{Contents, ShelfState, begun, added}
use Rattle.shelf_texts.specs.ShelfLoops.{Both, IsFront, IsWritten, written}
use Rattle.piece_writer.specs.WrittenPieces.{IsUnwrittenFile, AllHold, OnlyFiles, AreMade, AreWritten, AreMadeUpTo, AreNotWritten}

-- THE LISTS up to a place
pub record IsNext (xs : List (List ℕ)) (n : ℕ) (x : List ℕ) (rest : List (List ℕ)) : Type 0 where
  pub up_to : take (n + 1) xs ≡ take n xs ++ x ∷ []
  pub left : drop (n + 1) xs ≡ rest
  pub whole : xs ≡ take n xs ++ x ∷ rest

next_of : (xs : List (List ℕ)) (n : ℕ) (x : List ℕ) (rest : List (List ℕ)) → drop n xs ≡ x ∷ rest → IsNext xs n x rest
next_of [] zero x rest is = absurd (cc)
next_of [] (suc n) x rest is = absurd (cc)
next_of (y ∷ xs) zero x rest is =
    let head : y ≡ x = cc in
    let tail : xs ≡ rest = cc in
    record { up_to = ap (λ z. z ∷ []) head; left = tail; whole = ap (λ z. z ∷ xs) head ∙ ap (λ l. x ∷ l) tail }
next_of (y ∷ xs) (suc n) x rest is =
    let later : IsNext xs n x rest = next_of xs n x rest is in
    let one : suc (n + 1) ≡ suc n + 1 = omega arith in
    record {
      up_to = ap (λ k. take k (y ∷ xs)) (sym one) ∙ ap (λ l. y ∷ l) later.up_to;
      left = ap (λ k. drop k (y ∷ xs)) (sym one) ∙ later.left;
      whole = ap (λ l. y ∷ l) later.whole;
    }

drop_at : (xs : List (List ℕ)) (n : ℕ) (x : List ℕ) → slice_get xs n ≡ Some x → drop n xs ≡ x ∷ drop (n + 1) xs
drop_at [] n x is = absurd (cc)
drop_at (y ∷ xs) zero x is = let head : y ≡ x = cc in ap (λ z. z ∷ xs) head
drop_at (y ∷ xs) (suc n) x is =
    let one : suc (n + 1) ≡ suc n + 1 = omega arith in drop_at xs n x is ∙ ap (λ k. x ∷ drop k (y ∷ xs)) one

pub next_left : (xs left rest : List (List ℕ)) (n : ℕ) (x : List ℕ) → left ≡ drop n xs → left ≡ x ∷ rest → IsNext xs n x rest
next_left xs left rest n x left_is is = next_of xs n x rest (sym left_is ∙ is)

pub next_at : (xs : List (List ℕ)) (i n : ℕ) (x : List ℕ) → i ≡ n → slice_get xs i ≡ Some x → IsNext xs n x (drop (n + 1) xs)
next_at xs i n x same is = next_of xs n x (drop (n + 1) xs) (drop_at xs n x (ap (slice_get xs) (sym same) ∙ is))

-- ONE FILE
abbrev pub wrote : List ℕ → List ℕ → Contents → Contents
wrote name text c = added (File name) text (begun (File name) c)

wrote_here : (name text : List ℕ) (c : Contents) → (wrote name text c).files name ≡ Some text
wrote_here name text c = by_test (bytes_eq name name) (nat_list_eq_equiv.refl name)
  where
    by_test : (b : Bool) → b ≡ true
        → (if b then option_map (λ t. t ++ text) (if b then Some [] else c.files name) else (if b then Some [] else c.files name)) ≡ Some text
    by_test true is = refl
    by_test false is = absurd (cc)

wrote_elsewhere : (name text other : List ℕ) (c : Contents) → bytes_eq other name ≡ false → (wrote name text c).files other ≡ c.files other
wrote_elsewhere name text other c apart = by_test (bytes_eq other name) apart
  where
    by_test : (b : Bool) → b ≡ false
        → (if b then option_map (λ t. t ++ text) (if bytes_eq name name then Some [] else c.files name) else (if b then Some [] else c.files other)) ≡ c.files other
    by_test true is = absurd (cc)
    by_test false is = refl

-- NAMES THAT DIFFER
or_false : (b c : Bool) → (b || c) ≡ false → (b ≡ false) × (c ≡ false)
or_false true c is = absurd (cc)
or_false false c is = (refl, is)

both_false : (b c : Bool) → b ≡ false → c ≡ false → (b || c) ≡ false
both_false b c p q = ap (λ x. x || c) p ∙ q

flipped : (x y : List ℕ) → bytes_eq x y ≡ false → bytes_eq y x ≡ false
flipped x y apart = nat_list_eq_equiv.symm y x ∙ apart

among_rest : (x : List ℕ) (before : List (List ℕ)) (name : List ℕ) (behind : List (List ℕ)) → AllByRecursion (λ y. bytes_eq x y ≡ false) (before ++ name ∷ behind)
    → bytes_eq x name ≡ false
among_rest x [] name behind all = all.0
among_rest x (y ∷ before) name behind all = among_rest x before name behind all.1

pub apart_from_those_before : (before : List (List ℕ)) (name : List ℕ) (behind : List (List ℕ)) → IsDistinct bytes_eq (before ++ name ∷ behind)
    → list_any (bytes_eq name) before ≡ false
apart_from_those_before [] name behind apart = refl
apart_from_those_before (x ∷ before) name behind apart =
    both_false (bytes_eq name x) (list_any (bytes_eq name) before)
    (flipped x name (among_rest x before name behind (IsDistinct-head bytes_eq x (before ++ name ∷ behind) apart)))
    (apart_from_those_before before name behind (IsDistinct-tail bytes_eq x (before ++ name ∷ behind) apart))

none_of_more : (x : List ℕ) (names : List (List ℕ)) (name : List ℕ) → list_any (bytes_eq x) (names ++ name ∷ []) ≡ false
    → (list_any (bytes_eq x) names ≡ false) × (bytes_eq x name ≡ false)
none_of_more x names name none =
    let parts = or_false (list_any (bytes_eq x) names) (bytes_eq x name || false) (sym (list_any-append (bytes_eq x) names (name ∷ [])) ∙ none) in
    (parts.0, (or_false (bytes_eq x name) false parts.1).0)

-- ONE FILE MORE
hold_kept : (names texts : List (List ℕ)) (name text : List ℕ) (c : Contents) → list_any (bytes_eq name) names ≡ false → AllHold names texts c
    → AllHold names texts (wrote name text c)
hold_kept [] [] name text c apart hold = tt
hold_kept [] (t ∷ texts) name text c apart hold = absurd hold
hold_kept (n ∷ names) [] name text c apart hold = absurd hold
hold_kept (n ∷ names) (t ∷ texts) name text c apart hold =
    let parts = or_false (bytes_eq name n) (list_any (bytes_eq name) names) apart in
    (wrote_elsewhere name text n c (flipped name n parts.0) ∙ hold.0, hold_kept names texts name text c parts.1 hold.1)

only_more : (names : List (List ℕ)) (name text : List ℕ) (b m : Contents) → OnlyFiles names b m → OnlyFiles (names ++ name ∷ []) b (wrote name text m)
only_more names name text b m only = record {
  others = λ x none.
      let parts = none_of_more x names name none in wrote_elsewhere name text x m parts.1 ∙ only.others x parts.0;
  input = only.input;
  output = only.output;
  fault = only.fault;
}

only_same : (names : List (List ℕ)) (name : List ℕ) (b m : Contents) → OnlyFiles names b m → OnlyFiles (names ++ name ∷ []) b m
only_same names name b m only = record {
  others = λ x none. only.others x (none_of_more x names name none).0;
  input = only.input;
  output = only.output;
  fault = only.fault;
}

made_more : (names texts : List (List ℕ)) (name text : List ℕ) (b m : Contents) → list_any (bytes_eq name) names ≡ false → AreMade names texts b m
    → AreMade (names ++ name ∷ []) (texts ++ text ∷ []) b (wrote name text m)
made_more names texts name text b m apart made = record {
  hold =
      AllZip-push (λ n t. (wrote name text m).files n ≡ Some t) names texts name text (hold_kept names texts name text m apart made.hold)
      (wrote_here name text m);
  only = only_more names name text b m made.only;
}

front_more : (names texts : List (List ℕ)) (name text part : List ℕ) (b m : Contents) → list_any (bytes_eq name) names ≡ false → IsFront part text → AreMade names texts b m
    → AreMadeUpTo names texts name text b (wrote name part m)
front_more names texts name text part b m apart front made = record {
  hold = hold_kept names texts name part m apart made.hold;
  front = inr (part, front, wrote_here name part m);
  only = only_more names name part b m made.only;
}

none_more : (names texts : List (List ℕ)) (name text : List ℕ) (b m : Contents) → list_any (bytes_eq name) names ≡ false → AreMade names texts b m
    → AreMadeUpTo names texts name text b m
none_more names texts name text b m apart made = record {
  hold = made.hold;
  front = inl (made.only.others name apart);
  only = only_same names name b m made.only;
}

-- WHERE THE SHELF TELLS
both_then : (o m a : Option Contents) (f : Contents → Contents) (P Q : Contents → Contents → Type 0) → Both o m P → a ≡ option_map f m
    → ((x y : Contents) → P x y → Q x (f y)) → Both o a Q
both_then None None None f P Q made is on = tt
both_then None None (Some a) f P Q made is on = absurd (cc)
both_then None (Some m) a f P Q made is on = absurd made
both_then (Some o) None a f P Q made is on = absurd made
both_then (Some o) (Some m) None f P Q made is on = absurd (cc)
both_then (Some o) (Some m) (Some a) f P Q made is on = let its : f m ≡ a = cc in subst (Q o) its (on o m made)

both_same : (o m a : Option Contents) (P Q : Contents → Contents → Type 0) → Both o m P → a ≡ m → ((x y : Contents) → P x y → Q x y) → Both o a Q
both_same o m a P Q made is on = go o m made on (sym is)
  where
    go : (o m : Option Contents) → Both o m P → ((x y : Contents) → P x y → Q x y) → m ≡ a → Both o a Q
    go None None made on is = subst (λ l. Both None l Q) is tt
    go None (Some m) made on is = absurd made
    go (Some o) None made on is = absurd made
    go (Some o) (Some m) made on is = subst (λ l. Both (Some o) l Q) is (on o m made)

none_made : (told : Option Contents) → Both told told (AreMade [] [])
none_made None = tt
none_made (Some c) = record { hold = tt; only = record { others = λ x none. refl; input = refl; output = refl; fault = refl } }

-- what stands behind the first of some files
pub record HasMade (names texts : List (List ℕ)) (b a : ShelfState) : Type 0 where
  pub quiet : a.faults ≡ b.faults
  pub made : Both b.told a.told (AreMade names texts)

pub made_begins : (b : ShelfState) → HasMade [] [] b b
made_begins b = record { quiet = refl; made = none_made b.told }

pub made_on : (names texts : List (List ℕ)) (n : ℕ) (name text : List ℕ) (rest later : List (List ℕ)) (b m a : ShelfState) → IsDistinct bytes_eq names
    → IsNext names n name rest → IsNext texts n text later → HasMade (take n names) (take n texts) b m → IsWritten (File name) text m a
    → HasMade (take (n + 1) names) (take (n + 1) texts) b a
made_on names texts n name text rest later b m a apart next next_text made wrote_it =
    let new : list_any (bytes_eq name) (take n names) ≡ false =
    apart_from_those_before (take n names) name rest (subst (IsDistinct bytes_eq) next.whole apart) in
    let more : HasMade (take n names ++ name ∷ []) (take n texts ++ text ∷ []) b a = record {
      quiet = wrote_it.quiet ∙ made.quiet;
      made =
          both_then b.told m.told a.told (wrote name text) (AreMade (take n names) (take n texts)) (AreMade (take n names ++ name ∷ []) (take n texts ++ text ∷ []))
          made.made wrote_it.whole (λ x y h. made_more (take n names) (take n texts) name text x y new h);
    } in
    subst (λ ns. HasMade ns (take (n + 1) texts) b a) (sym next.up_to) (subst (λ ts. HasMade (take n names ++ name ∷ []) ts b a) (sym next_text.up_to) more)

up_to_failing : (names texts : List (List ℕ)) (name text : List ℕ) (o m a : Option Contents) → list_any (bytes_eq name) names ≡ false → Both o m (AreMade names texts)
    → (a ≡ m) ⊎ ((part : List ℕ) × IsFront part text × (a ≡ written (File name) part m)) → Both o a (AreMadeUpTo names texts name text)
up_to_failing names texts name text o m a new made (inl same) =
    both_same o m a (AreMade names texts) (AreMadeUpTo names texts name text) made same (λ x y h. none_more names texts name text x y new h)
up_to_failing names texts name text o m a new made (inr front) =
    both_then o m a (wrote name front.0) (AreMade names texts) (AreMadeUpTo names texts name text) made front.2
    (λ x y h. front_more names texts name text front.0 x y new front.1 h)

pub not_made : (names texts : List (List ℕ)) (n : ℕ) (name text : List ℕ) (rest later : List (List ℕ)) (place : Place) (b m a : ShelfState) → IsDistinct bytes_eq names
    → IsNext names n name rest → IsNext texts n text later → HasMade (take n names) (take n texts) b m → IsUnwrittenFile name text place m a
    → AreNotWritten names texts place b a
not_made names texts n name text rest later place b m a apart next next_text made failed =
    let new : list_any (bytes_eq name) (take n names) ≡ false =
    apart_from_those_before (take n names) name rest (subst (IsDistinct bytes_eq) next.whole apart) in
    let before = failed.1.later in
    record {
      before = take n names;
      name = name;
      behind = rest;
      names_are = next.whole;
      earlier = take n texts;
      text = text;
      later = later;
      texts_are = next_text.whole;
      named = failed.0;
      rose = λ below. let less : m.faults < a.faults = failed.1.rose below in omega (arith, made.quiet);
      not_less = omega (arith, made.quiet);
      made = up_to_failing (take n names) (take n texts) name text b.told m.told a.told new made.made failed.1.front;
    }

take_all : (xs : List (List ℕ)) (n : ℕ) → length xs ≤ n → take n xs ≡ xs
take_all [] zero h = refl
take_all [] (suc n) h = refl
take_all (x ∷ xs) zero h = absurd (omega arith)
take_all (x ∷ xs) (suc n) h = ap (λ l. x ∷ l) (take_all xs n (omega arith))

pub all_made : (names texts : List (List ℕ)) (n : ℕ) (b a : ShelfState) → length names ≤ n → length texts ≤ n → HasMade (take n names) (take n texts) b a
    → AreWritten names texts b a
all_made names texts n b a h k made = record {
  quiet = made.quiet;
  made = subst (λ ns. Both b.told a.told (AreMade ns texts)) (take_all names n h) (subst (λ ts. Both b.told a.told (AreMade (take n names) ts)) (take_all texts n k) made.made);
}
