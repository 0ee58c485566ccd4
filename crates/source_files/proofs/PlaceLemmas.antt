-- What reading places does to a shelf, one after the other.
use Rattle.std.specs.Prelude.{◌≡◌, ℕ, suc, ◌+◌, ◌<◌, ◌≤◌, List, [], ◌∷◌, ◌++◌, length, take, drop, Option, Some, None, IfSome}
use Rattle.std.proofs.Common.{refl, sym, ap, subst, ◌∙◌, arith, get_or}
use Rattle.std.proofs.lemmas.List.{take_all, length-append}
use Rattle.f2c_outside.specs.declared.shelves.Place.{Place}
use Rattle.f2c_outside.specs.declared.shelves.Place.TheVariants.{File as FileNamed}
use Rattle.f2c_outside.specs.Shelf.{ShelfState, Contents, Rose, IsFile, Lacks, bytes_of}
use Rattle.shelf_texts.specs.declared.loops.ReadFail.{ReadFail}
use Rattle.shelf_texts.specs.declared.loops.ReadFail.TheVariants as read_fail
use Rattle.shelf_texts.specs.ShelfLoops.{IsKept, IsRead, IsUnreadFor}
use Rattle.source_files.specs.declared.failing.SourceFail.{SourceFail}
use Rattle.source_files.specs.declared.failing.SourceFail.TheVariants as source_fail
use Rattle.source_files.specs.SourceOnShelf.{HasPlaces, IsFirstAway}
use Rattle.source_files.specs.SourceReads.{place_fronts, HasFronts, ArePlacesRead, IsPlaceAmong, IsAway, IsFailed, IsPlaceUnread, ArePlacesUnread}
use Rattle.source_files.proofs.ListLemmas.{further, around, map_append, both_told}

pub kept_kept : (b m a : ShelfState) → IsKept b m → IsKept m a → IsKept b a
kept_kept b m a first second =
    record { same = second.same ∙ first.same; later = let one = first.later in let two = second.later in omega arith }

pub kept_as_it_is : (b : ShelfState) → IsKept b b
kept_as_it_is b = record { same = refl; later = omega arith }

pub rose_later : (b m a : ShelfState) → IsKept b m → Rose m.faults a.faults → Rose b.faults a.faults
rose_later b m a kept rose below = let one = kept.later in let less : m.faults < a.faults = rose below in omega arith

-- ONE PLACE that was not read
pub is_file : (place : Place) (b a : ShelfState) (why : ReadFail) → why ≡ read_fail.NotThere → IsUnreadFor why place b a → IsFile place
is_file place b a why is unread =
    let its : IsUnreadFor read_fail.NotThere place b a = subst (λ w. IsUnreadFor w place b a) is unread in its.cause.0

pub away : (place : Place) (name : List ℕ) (b a : ShelfState) (why : ReadFail) → why ≡ read_fail.NotThere → IsUnreadFor why place b a → place ≡ FileNamed name →
    IsAway place name b a
away place name b a why is unread named =
    let its : IsUnreadFor read_fail.NotThere place b a = subst (λ w. IsUnreadFor w place b a) is unread in
    record { kept = its.kept; quiet = its.cause.1; named = named; lacks = its.cause.2 }

pub failed : (place other : Place) (b a : ShelfState) (why : ReadFail) → why ≡ read_fail.Failed → IsUnreadFor why place b a → other ≡ place → IsFailed place other b a
failed place other b a why is unread named =
    let its : IsUnreadFor read_fail.Failed place b a = subst (λ w. IsUnreadFor w place b a) is unread in
    record { kept = its.kept; named = named; rose = its.cause }

pub no_memory : (place : Place) (b a : ShelfState) (why : ReadFail) (fail : SourceFail) → IsUnreadFor why place b a → fail ≡ source_fail.NoMemory → IsPlaceUnread place b a fail
no_memory place b a why fail unread is = subst (IsPlaceUnread place b a) (sym is) unread.kept

-- PLACES in their order
has_one_more : (c : Contents) (places : List Place) (place : Place) → HasPlaces places c → ¬ Lacks place c → HasPlaces (places ++ place ∷ []) c
unfolding HasPlaces
has_one_more c [] place have one = (one, tt)
has_one_more c (p ∷ places) place have one = (have.0, has_one_more c places place have.1 one)

front_more : (most : ℕ) (c : Contents) (places : List Place) (place : Place) (texts : List (List ℕ)) (text : List ℕ) → HasFronts most places texts c →
    (¬ Lacks place c) × (text ≡ take most (bytes_of place c)) → HasFronts most (places ++ place ∷ []) (texts ++ text ∷ []) c
front_more most c places place texts text have one = record {
  there = has_one_more c places place have.there one.0;
  fronts = ap (λ ts. ts ++ text ∷ []) have.fronts
      ∙ (ap (λ t. place_fronts most c places ++ t ∷ []) one.1 ∙ sym (map_append (λ p. take most (bytes_of p c)) places (place ∷ [])));
}

two_facts : {A : Type 0} (told : Option A) (P Q : A → Type 0) → IfSome told P → IfSome told Q → IfSome told (λ x. P x × Q x)
two_facts None P Q one other = tt
two_facts (Some x) P Q one other = (one, other)

one_more : (most : ℕ) (places : List Place) (place : Place) (texts : List (List ℕ)) (text : List ℕ) (b m a : ShelfState) → ArePlacesRead most places texts b m →
    IsRead place most m a text → ArePlacesRead most (places ++ place ∷ []) (texts ++ text ∷ []) b a
one_more most places place texts text b m a seen one = record {
  kept = kept_kept b m a seen.kept one.kept;
  quiet = one.quiet ∙ seen.quiet;
  count = length-append texts (text ∷ []) ∙ ap (λ n. n + 1) seen.count ∙ sym (length-append places (place ∷ []));
  fronts = both_told b.told m.told _ _ _ seen.kept.same seen.fronts (two_facts m.told _ _ one.there one.front) (λ c have its. front_more most c places place texts text have its);
}

none_yet : (most : ℕ) (told : Option Contents) → IfSome told (HasFronts most [] [])
unfolding HasPlaces
none_yet most None = tt
none_yet most (Some c) = record { there = tt; fronts = refl }

pub at_begin : (most : ℕ) (places : List Place) (texts : List (List ℕ)) (b : ShelfState) → texts ≡ [] → ArePlacesRead most (take 0 places) texts b b
at_begin most places texts b is =
    subst (λ ts. ArePlacesRead most [] ts b b) (sym is)
    (record { kept = kept_as_it_is b; quiet = refl; count = refl; fronts = none_yet most b.told })

pub behind_one : (most : ℕ) (places : List Place) (number : ℕ) (place : Place) (texts more : List (List ℕ)) (text : List ℕ) (b m a : ShelfState) → number < length places →
    place ≡ get_or places number place → ArePlacesRead most (take number places) texts b m → IsRead place most m a text → more ≡ texts ++ text ∷ [] →
    ArePlacesRead most (take (number + 1) places) more b a
behind_one most places number place texts more text b m a within is seen one pushed =
    subst (λ ts. ArePlacesRead most (take (number + 1) places) ts b a) (sym pushed)
    (subst (λ ps. ArePlacesRead most ps (texts ++ text ∷ []) b a) (further places number place within is)
    (one_more most (take number places) place texts text b m a seen one))

pub at_end : (most : ℕ) (places : List Place) (number : ℕ) (texts : List (List ℕ)) (b a : ShelfState) → length places ≤ number →
    ArePlacesRead most (take number places) texts b a → ArePlacesRead most places texts b a
at_end most places number texts b a past seen = subst (λ ps. ArePlacesRead most ps texts b a) (take_all number places past) seen

-- and one that was not read
among_by : (places before behind : List Place) (place other : Place) → places ≡ before ++ place ∷ behind → place ≡ other → IsPlaceAmong places other
among_by places before behind place other is named = record { before = before; behind = behind; is = is ∙ ap (λ p. before ++ p ∷ behind) named }

first_away : (most : ℕ) (places before behind : List Place) (place other : Place) (texts : List (List ℕ)) (c : Contents) → places ≡ before ++ place ∷ behind →
    place ≡ other → HasFronts most before texts c → Lacks place c → IsFirstAway places other c
first_away most places before behind place other texts c is named have lacks =
    subst (λ p. IsFirstAway places p c) named (record { before = before; behind = behind; is = is; others = have.there; lacks = lacks })

unread_behind : (most : ℕ) (places before behind : List Place) (place : Place) (texts : List (List ℕ)) (b m a : ShelfState) (fail : SourceFail) → places ≡ before ++ place ∷ behind →
    ArePlacesRead most before texts b m → IsPlaceUnread place m a fail → ArePlacesUnread places b a fail
unread_behind most places before behind place texts b m a source_fail.NoMemory is seen kept = kept_kept b m a seen.kept kept
unread_behind most places before behind place texts b m a (source_fail.NotThere name) is seen one = record {
  kept = kept_kept b m a seen.kept one.kept;
  quiet = one.quiet ∙ seen.quiet;
  among = among_by places before behind place (FileNamed name) is one.named;
  first = both_told b.told m.told _ _ _ seen.kept.same seen.fronts one.lacks (λ c have lacks. first_away most places before behind place (FileNamed name) texts c is one.named have lacks);
}
unread_behind most places before behind place texts b m a (source_fail.Unread other) is seen one = record {
  kept = kept_kept b m a seen.kept one.kept;
  among = among_by places before behind place other is (sym one.named);
  rose = rose_later b m a seen.kept one.rose;
}

pub unread_one : (most : ℕ) (places : List Place) (number : ℕ) (place : Place) (texts : List (List ℕ)) (b m a : ShelfState) (fail : SourceFail) → number < length places →
    place ≡ get_or places number place → ArePlacesRead most (take number places) texts b m → IsPlaceUnread place m a fail → ArePlacesUnread places b a fail
unread_one most places number place texts b m a fail within is seen one =
    unread_behind most places (take number places) (drop (suc number) places) place texts b m a fail (around places number place within is) seen one

pub no_memory_left : (most : ℕ) (places : List Place) (place : Place) (texts : List (List ℕ)) (text : List ℕ) (b m a : ShelfState) → ArePlacesRead most places texts b m →
    IsRead place most m a text → IsKept b a
no_memory_left most places place texts text b m a seen one = kept_kept b m a seen.kept one.kept
