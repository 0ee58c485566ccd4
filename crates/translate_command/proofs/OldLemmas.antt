-- Old prototype files, compared one after the other.
use Rattle.std.specs.Prelude.{◌≡◌, ℕ, zero, suc, ◌+◌, ◌<◌, Bool, true, false, List, [], ◌∷◌, ◌++◌, length, take, drop, Option, Some, None, IfSome}
use Rattle.std.specs.Bool.{Decides}
use Rattle.std.proofs.Common.{refl, sym, ap, subst, ◌∙◌, arith, get_or}
use Rattle.f2c_outside.specs.declared.shelves.Place.{Place}
use Rattle.f2c_outside.specs.Shelf.{ShelfState, Contents, Lacks, bytes_of}
use Rattle.shelf_texts.specs.declared.loops.ReadFail.{ReadFail}
use Rattle.shelf_texts.specs.declared.loops.ReadFail.TheVariants as read_fail
use Rattle.shelf_texts.specs.ShelfLoops.{IsKept, IsRead, IsUnreadFor}
use Rattle.source_files.specs.SourceReads.{IsFailed, IsFailedAmong}
use Rattle.source_files.proofs.ListLemmas.{around, both_told, mapped}
use Rattle.source_files.proofs.PlaceLemmas.{kept_kept, kept_as_it_is, rose_later}
use Rattle.prototype_outputs.specs.prototypes.declared.prototype.Prototype.{Prototype}
use Rattle.prototype_outputs.specs.prototypes.PrototypeText.{IsPrototypeFile}
use Rattle.prototype_outputs.proofs.FrontLemmas.{most_is, file_of_front, front_of_file}
use Rattle.translate_command.specs.declared.failing.TranslateFail.{TranslateFail}
use Rattle.translate_command.specs.declared.failing.TranslateFail.TheVariants as fail
use Rattle.translate_command.specs.OldPrototypes.{HasStill, AllHaveStill, IsCompared, AreCompared, IsNotCompared, AreNotCompared}

-- ONE FILE
still_at : (place : Place) (list : List Prototype) (same : Bool) (text : List ℕ) (c : Contents) → ¬ Lacks place c → text ≡ take 16777217 (bytes_of place c) →
    Decides same (IsPrototypeFile text list) → Decides same (HasStill place list c)
still_at place list same text c there is decides = (
  (λ yes_it. record { there = there; file = file_of_front 16777217 (bytes_of place c) list most_is (subst (λ t. IsPrototypeFile t list) is (decides.0 yes_it)) }),
  (λ still. decides.1 (subst (λ t. IsPrototypeFile t list) (sym is) (front_of_file 16777217 (bytes_of place c) list most_is still.file))),
)

two_told : (told : Option Contents) (P Q R : Contents → Type 0) → IfSome told P → IfSome told Q → ((c : Contents) → P c → Q c → R c) → IfSome told R
two_told None P Q R one other both = tt
two_told (Some c) P Q R one other both = both c one other

pub compared_one : (place : Place) (list : List Prototype) (same : Bool) (text seen : List ℕ) (b a : ShelfState) → IsRead place 16777217 b a text → seen ≡ text →
    Decides same (IsPrototypeFile seen list) → IsCompared place list same b a
compared_one place list same text seen b a read seen_is decides = record {
  kept = read.kept;
  quiet = read.quiet;
  still =
      two_told b.told _ _ _ read.there read.front
      (λ c there front. still_at place list same text c there front (subst (λ t. Decides same (IsPrototypeFile t list)) seen_is decides));
}

away_at : (place : Place) (list : List Prototype) (c : Contents) → Lacks place c → Decides false (HasStill place list c)
away_at place list c lacks = ((λ never. absurd (cc)), λ still. absurd (still.there lacks))

pub compared_away : (place : Place) (list : List Prototype) (why : ReadFail) (b a : ShelfState) → why ≡ read_fail.NotThere → IsUnreadFor why place b a →
    IsCompared place list false b a
compared_away place list why b a is unread =
    let its : IsUnreadFor read_fail.NotThere place b a = subst (λ w. IsUnreadFor w place b a) is unread in
    record { kept = its.kept; quiet = its.cause.1; still = mapped b.told _ _ its.cause.2 (λ c lacks. away_at place list c lacks) }

-- one that was not read
pub failed_one : (place other : Place) (why : ReadFail) (b a : ShelfState) → why ≡ read_fail.Failed → IsUnreadFor why place b a → other ≡ place →
    IsNotCompared place b a (fail.Unread other)
failed_one place other why b a is unread named =
    let its : IsUnreadFor read_fail.Failed place b a = subst (λ w. IsUnreadFor w place b a) is unread in
    record { kept = its.kept; named = named; rose = its.cause }

pub none_left : (place : Place) (why : ReadFail) (found : TranslateFail) (b a : ShelfState) → IsUnreadFor why place b a → found ≡ fail.NoMemory → IsNotCompared place b a found
none_left place why found b a unread is = subst (IsNotCompared place b a) (sym is) unread.kept

pub none_left_read : (place : Place) (text : List ℕ) (found : TranslateFail) (b a : ShelfState) → IsRead place 16777217 b a text → found ≡ fail.NoMemory →
    IsNotCompared place b a found
none_left_read place text found b a read is = subst (IsNotCompared place b a) (sym is) read.kept

-- FILES in their order
pub none_yet : (olds : List Place) (lists : List (List Prototype)) (told : Option Contents) → IfSome told (AllHaveStill (take 0 olds) (take 0 lists))
unfolding AllHaveStill
none_yet olds lists None = tt
none_yet olds lists (Some c) = tt

one_still : (olds : List Place) (lists : List (List Prototype)) (number : ℕ) (place : Place) (list : List Prototype) (c : Contents) → number < length olds →
    number < length lists → place ≡ get_or olds number place → list ≡ get_or lists number list → AllHaveStill (take number olds) (take number lists) c →
    HasStill place list c → AllHaveStill (take (suc number) olds) (take (suc number) lists) c
unfolding AllHaveStill
one_still [] lists number place list c within few place_is list_is before one = absurd (omega (arith, within))
one_still (p ∷ olds) [] number place list c within few place_is list_is before one = absurd (omega (arith, few))
one_still (p ∷ olds) (l ∷ lists) zero place list c within few place_is list_is before one =
    (subst (λ x. HasStill p x c) list_is (subst (λ x. HasStill x list c) place_is one), tt)
one_still (p ∷ olds) (l ∷ lists) (suc number) place list c within few place_is list_is before one =
    (before.0, one_still olds lists number place list c (omega (arith, within)) (omega (arith, few)) place_is list_is before.1 one)

still_in : (olds : List Place) (lists : List (List Prototype)) (number : ℕ) (place : Place) (list : List Prototype) (c : Contents) → number < length olds →
    number < length lists → place ≡ get_or olds number place → list ≡ get_or lists number list → AllHaveStill olds lists c → HasStill place list c
unfolding AllHaveStill
still_in [] lists number place list c within few place_is list_is all = absurd (omega (arith, within))
still_in (p ∷ olds) [] number place list c within few place_is list_is all = absurd (omega (arith, few))
still_in (p ∷ olds) (l ∷ lists) zero place list c within few place_is list_is all =
    subst (λ x. HasStill x list c) (sym place_is) (subst (λ x. HasStill p x c) (sym list_is) all.0)
still_in (p ∷ olds) (l ∷ lists) (suc number) place list c within few place_is list_is all =
    still_in olds lists number place list c (omega (arith, within)) (omega (arith, few)) place_is list_is all.1

still_all : (olds : List Place) (lists : List (List Prototype)) (number : ℕ) (c : Contents) → (number < length olds → number < length lists → ⊥) →
    AllHaveStill (take number olds) (take number lists) c → AllHaveStill olds lists c
unfolding AllHaveStill
still_all [] lists number c end before = tt
still_all (p ∷ olds) [] number c end before = tt
still_all (p ∷ olds) (l ∷ lists) zero c end before = absurd (end (omega arith) (omega arith))
still_all (p ∷ olds) (l ∷ lists) (suc number) c end before =
    (before.0, still_all olds lists number c (λ one other. end (omega (arith, one)) (omega (arith, other))) before.1)

-- the files up to here have their prototypes
pub record AreStill (olds : List Place) (lists : List (List Prototype)) (b a : ShelfState) : Type 0 where
  pub kept : IsKept b a
  pub quiet : a.faults ≡ b.faults
  pub still : IfSome b.told (AllHaveStill olds lists)

pub at_begin : (olds : List Place) (lists : List (List Prototype)) (b : ShelfState) → AreStill (take 0 olds) (take 0 lists) b b
at_begin olds lists b = record { kept = kept_as_it_is b; quiet = refl; still = none_yet olds lists b.told }

plus_one : (n : ℕ) → n + 1 ≡ suc n
plus_one n = omega arith

pub behind_one : (olds : List Place) (lists : List (List Prototype)) (number : ℕ) (place : Place) (list : List Prototype) (same : Bool) (b m a : ShelfState) →
    number < length olds → number < length lists → place ≡ get_or olds number place → list ≡ get_or lists number list → same ≡ true →
    AreStill (take number olds) (take number lists) b m → IsCompared place list same m a → AreStill (take (number + 1) olds) (take (number + 1) lists) b a
behind_one olds lists number place list same b m a within few place_is list_is is before one =
    subst (λ n. AreStill (take n olds) (take n lists) b a) (sym (plus_one number))
    (record {
      kept = kept_kept b m a before.kept one.kept;
      quiet = one.quiet ∙ before.quiet;
      still =
          both_told b.told m.told _ _ _ before.kept.same before.still one.still
          (λ c all its. one_still olds lists number place list c within few place_is list_is all (its.0 is));
    })

pub differs_at : (olds : List Place) (lists : List (List Prototype)) (number : ℕ) (place : Place) (list : List Prototype) (same : Bool) (b m a : ShelfState) →
    number < length olds → number < length lists → place ≡ get_or olds number place → list ≡ get_or lists number list → same ≡ false →
    AreStill (take number olds) (take number lists) b m → IsCompared place list same m a → AreCompared olds lists false b a
differs_at olds lists number place list same b m a within few place_is list_is is before one = record {
  kept = kept_kept b m a before.kept one.kept;
  quiet = one.quiet ∙ before.quiet;
  still =
      both_told b.told m.told _ _ _ before.kept.same before.still one.still
      (λ c all its.
      ((λ never. absurd (cc)), λ every. sym is ∙ its.1 (still_in olds lists number place list c within few place_is list_is every)));
}

pub at_end : (olds : List Place) (lists : List (List Prototype)) (number : ℕ) (b a : ShelfState) → (number < length olds → number < length lists → ⊥) →
    AreStill (take number olds) (take number lists) b a → AreCompared olds lists true b a
at_end olds lists number b a end before = record {
  kept = before.kept;
  quiet = before.quiet;
  still = mapped b.told _ _ before.still (λ c all. ((λ is. still_all olds lists number c end all), λ every. refl));
}

-- and one that was not read
unread_among : (olds front behind : List Place) (place failed : Place) (b m a : ShelfState) → olds ≡ front ++ place ∷ behind → IsKept b m → IsFailed place failed m a →
    IsFailedAmong olds failed b a
unread_among olds front behind place failed b m a is kept one = record {
  kept = kept_kept b m a kept one.kept;
  among = record { before = front; behind = behind; is = is ∙ ap (λ p. front ++ p ∷ behind) (sym one.named) };
  rose = rose_later b m a kept one.rose;
}

pub unread_one : (olds : List Place) (lists : List (List Prototype)) (number : ℕ) (place : Place) (b m a : ShelfState) (why : TranslateFail) → number < length olds →
    place ≡ get_or olds number place → AreStill (take number olds) (take number lists) b m → IsNotCompared place m a why → AreNotCompared olds b a why
unread_one olds lists number place b m a (fail.Unread failed) within is before one =
    unread_among olds (take number olds) (drop (suc number) olds) place failed b m a (around olds number place within is) before.kept one
unread_one olds lists number place b m a fail.NoMemory within is before kept = kept_kept b m a before.kept kept
unread_one olds lists number place b m a (fail.NotThere name) within is before never = absurd never
unread_one olds lists number place b m a (fail.Refused refusal name) within is before never = absurd never
unread_one olds lists number place b m a (fail.NotPrototype name line) within is before never = absurd never
unread_one olds lists number place b m a (fail.Unwritten other) within is before never = absurd never
