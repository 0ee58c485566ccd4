-- The names of all pieces, one piece after the other.
use Rattle.std.proofs.Common.{◌≡◌, ℕ, zero, suc, ◌+◌, ◌≤◌, Bool, true, false, List, [], ◌∷◌, ◌++◌, length, map, drop, refl, sym, ap, subst, ◌∙◌, arith, Option, Some, None, Result, Ok, Err}
use Rattle.std.specs.Prelude.{◌||◌, ◌&&◌, not, is_some, IfSome, IfErr, IsErrAnd, bytes_eq, slice_get, if◌then◌else◌}
use Rattle.std.specs.List.{list_any, IsDistinct}
use Rattle.std.proofs.lemmas.Cmp.{nat_list_eq_equiv}
use Rattle.std.proofs.lemmas.Map.Keys.{IsDistinct-push}
use Rattle.f2c_outside.specs.Shelf.{Contents, ShelfState, Rose}
use Rattle.f2c_outside.specs.Texts.{IsName}
use Rattle.fsplit.specs.split_pieces.ChosenNames.{is_free, prefix_of, numbered, first_free, is_named, choice, IsCandidate, behind_choice, names_behind, chosen_names}
use Rattle.fsplit.specs.split_pieces.Pieces.{Piece}
use Rattle.fsplit.specs.split_pieces.declared.wanted.Wanted.{Wanted}
use Rattle.fsplit.specs.split_pieces.declared.wanted.Wanted.TheVariants.{Named}
use Rattle.fsplit.specs.split_pieces.declared.wanted.WantedName.{WantedName}
use Rattle.piece_names.specs.Asking.{has, IsCause}
use Rattle.piece_names.specs.declared.choosing.ChoiceFail.{ChoiceFail}
use Rattle.piece_names.specs.declared.choosing.ChoiceFail.TheVariants as choice_fail
use Rattle.piece_choice.specs.NamesOfPieces.{wanted_names, AreAskable, AreChosen, AllLack, AreNew, AreNotChosen, IsFailOf}
use Rattle.piece_choice.specs.declared.choosing.NamesFail.{NamesFail}

-- WHAT A PIECE ASKS FOR
wanted_at : (pieces : List Piece) (i : ℕ) (w : Wanted) (name : List ℕ) → slice_get (map (λ (p : Piece). p.wanted.wanted) pieces) i ≡ Some w
    → slice_get (map (λ (p : Piece). p.wanted.name) pieces) i ≡ Some name → slice_get (wanted_names pieces) i ≡ Some (record { wanted = w; name = name })
wanted_at [] i w name h k = absurd (cc)
wanted_at (p ∷ more) zero w name h k =
    let a : p.wanted.wanted ≡ w = cc in
    let b : p.wanted.name ≡ name = cc in
    ap (λ v. Some (record { wanted = v; name = p.wanted.name })) a ∙ ap (λ n. Some (record { wanted = w; name = n })) b
wanted_at (p ∷ more) (suc i) w name h k = wanted_at more i w name h k

pub askable_at : (pieces : List Piece) (i : ℕ) (w : Wanted) (name : List ℕ) → AreAskable pieces → slice_get (map (λ (p : Piece). p.wanted.wanted) pieces) i ≡ Some w
    → slice_get (map (λ (p : Piece). p.wanted.name) pieces) i ≡ Some name → w ≡ Named → IsName name
askable_at [] i w name askable h k is = absurd (cc)
askable_at (p ∷ more) zero w name askable h k is =
    let a : p.wanted.wanted ≡ w = cc in
    let b : p.wanted.name ≡ name = cc in
    subst IsName b (askable.0 (a ∙ is))
askable_at (p ∷ more) (suc i) w name askable h k is = askable_at more i w name askable.1 h k is

drop_at : (ws : List WantedName) (i : ℕ) (w : WantedName) → slice_get ws i ≡ Some w → drop i ws ≡ w ∷ drop (suc i) ws
drop_at [] i w h = absurd (cc)
drop_at (v ∷ more) zero w h = let e : v ≡ w = cc in ap (λ x. x ∷ more) e
drop_at (v ∷ more) (suc i) w h = drop_at more i w h

-- ONE PIECE AFTER THE OTHER
names_step : (there : List ℕ → Bool) (taken : List (List ℕ)) (number : ℕ) (w : WantedName) (more : List WantedName) (found : Option (List ℕ)) → found ≡ choice there taken w
    → names_behind there taken number (w ∷ more) ≡ behind_choice number (λ name. names_behind there (taken ++ name ∷ []) (suc number) more) found
unfolding names_behind
names_step there taken number w more found is = sym (ap (behind_choice number (λ name. names_behind there (taken ++ name ∷ []) (suc number) more)) is)

names_end : (there : List ℕ → Bool) (taken : List (List ℕ)) (number : ℕ) → names_behind there taken number [] ≡ Ok taken
unfolding names_behind
names_end there taken number = refl

-- what is left to be named behind the pieces before a place
abbrev pub Ahead : Option Contents → List Piece → List (List ℕ) → ℕ → Type 0
Ahead told pieces names place =
    IfSome told (λ c. chosen_names (has c) (wanted_names pieces) ≡ names_behind (has c) names (suc place) (drop place (wanted_names pieces)))

pub ahead_begins : (told : Option Contents) (pieces : List Piece) → Ahead told pieces [] 0
unfolding chosen_names
ahead_begins None pieces = tt
ahead_begins (Some c) pieces = refl

one_more : (c : Contents) (pieces : List Piece) (names : List (List ℕ)) (place : ℕ) (w : WantedName) (found : Option (List ℕ))
    → slice_get (wanted_names pieces) place ≡ Some w → found ≡ choice (has c) names w
    → names_behind (has c) names (suc place) (drop place (wanted_names pieces))
    ≡ behind_choice (suc place) (λ name. names_behind (has c) (names ++ name ∷ []) (suc (suc place)) (drop (suc place) (wanted_names pieces))) found
one_more c pieces names place w found at is =
    ap (names_behind (has c) names (suc place)) (drop_at (wanted_names pieces) place w at)
    ∙ names_step (has c) names (suc place) w (drop (suc place) (wanted_names pieces)) found is

pub ahead_on : (told later : Option Contents) (pieces : List Piece) (names taken : List (List ℕ)) (place : ℕ) (w : Wanted) (own name : List ℕ) (found : Option (List ℕ)) → later ≡ told
    → taken ≡ names → slice_get (map (λ (p : Piece). p.wanted.wanted) pieces) place ≡ Some w → slice_get (map (λ (p : Piece). p.wanted.name) pieces) place ≡ Some own
    → IfSome later (λ c. found ≡ choice (has c) taken (record { wanted = w; name = own })) → found ≡ Some name
    → Ahead told pieces names place → Ahead told pieces (names ++ name ∷ []) (place + 1)
ahead_on None later pieces names taken place w own name found same taken_is kind_is own_is chosen is before = tt
ahead_on (Some c) None pieces names taken place w own name found same taken_is kind_is own_is chosen is before = absurd (cc)
ahead_on (Some c) (Some d) pieces names taken place w own name found same taken_is kind_is own_is chosen is before =
    let its : d ≡ c = cc in
    let one : suc place ≡ place + 1 = omega arith in
    let chosen' : Some name ≡ choice (has c) names (record { wanted = w; name = own }) =
    sym is ∙ subst (λ x. found ≡ choice (has x) taken (record { wanted = w; name = own })) its chosen
    ∙ ap (λ l. choice (has c) l (record { wanted = w; name = own })) taken_is in
    before
    ∙ one_more c pieces names place (record { wanted = w; name = own }) (Some name) (wanted_at pieces place w own kind_is own_is) chosen'
    ∙ ap (λ n. names_behind (has c) (names ++ name ∷ []) (suc n) (drop n (wanted_names pieces))) one

pub none_free : (told later : Option Contents) (pieces : List Piece) (names taken : List (List ℕ)) (place : ℕ) (w : Wanted) (own : List ℕ) (found : Option (List ℕ)) → later ≡ told
    → taken ≡ names → slice_get (map (λ (p : Piece). p.wanted.wanted) pieces) place ≡ Some w → slice_get (map (λ (p : Piece). p.wanted.name) pieces) place ≡ Some own
    → IfSome later (λ c. found ≡ choice (has c) taken (record { wanted = w; name = own })) → found ≡ None
    → Ahead told pieces names place → IfSome told (λ c. chosen_names (has c) (wanted_names pieces) ≡ Err (place + 1))
none_free None later pieces names taken place w own found same taken_is kind_is own_is chosen is before = tt
none_free (Some c) None pieces names taken place w own found same taken_is kind_is own_is chosen is before = absurd (cc)
none_free (Some c) (Some d) pieces names taken place w own found same taken_is kind_is own_is chosen is before =
    let its : d ≡ c = cc in
    let one : suc place ≡ place + 1 = omega arith in
    let chosen' : None ≡ choice (has c) names (record { wanted = w; name = own }) =
    sym is ∙ subst (λ x. found ≡ choice (has x) taken (record { wanted = w; name = own })) its chosen
    ∙ ap (λ l. choice (has c) l (record { wanted = w; name = own })) taken_is in
    before
    ∙ one_more c pieces names place (record { wanted = w; name = own }) None (wanted_at pieces place w own kind_is own_is) chosen'
    ∙ ap Err one

drop_all : (ws : List WantedName) (n : ℕ) → length ws ≤ n → drop n ws ≡ []
drop_all [] zero h = refl
drop_all [] (suc n) h = refl
drop_all (w ∷ ws) zero h = absurd (omega arith)
drop_all (w ∷ ws) (suc n) h = drop_all ws n (omega arith)

length_wanted : (pieces : List Piece) → length (wanted_names pieces) ≡ length pieces
length_wanted [] = refl
length_wanted (p ∷ more) = ap suc (length_wanted more)

pub all_chosen : (told : Option Contents) (pieces : List Piece) (names : List (List ℕ)) (place : ℕ) → length pieces ≤ place → Ahead told pieces names place
    → AreChosen pieces names told
all_chosen None pieces names place whole before = tt
all_chosen (Some c) pieces names place whole before =
    before
    ∙ ap (names_behind (has c) names (suc place)) (drop_all (wanted_names pieces) place (omega (arith, length_wanted pieces)))
    ∙ names_end (has c) names (suc place)

-- NAMES THAT DIFFER
pub apart_on : (names : List (List ℕ)) (name : List ℕ) → IsDistinct bytes_eq names → list_any (bytes_eq name) names ≡ false → IsDistinct bytes_eq (names ++ name ∷ [])
apart_on names name apart new = IsDistinct-push nat_list_eq_equiv names name apart new

pub none_apart : IsDistinct bytes_eq []
unfolding IsDistinct
none_apart = tt

-- NAMES THAT ARE NOT THERE
lack_on : (c : Contents) (names : List (List ℕ)) (name : List ℕ) → AllLack names c → c.files name ≡ None → AllLack (names ++ name ∷ []) c
lack_on c [] name before one = (one, tt)
lack_on c (other ∷ names) name before one = (before.0, lack_on c names name before.1 one)

not_there : (c : Contents) (name : List ℕ) → has c name ≡ false → c.files name ≡ None
not_there c name absent = go (c.files name) absent
  where
    go : (found : Option (List ℕ)) → is_some found ≡ false → found ≡ None
    go None h = refl
    go (Some text) h = absurd (cc)

free_not_there : (c : Contents) (taken : List (List ℕ)) (name : List ℕ) → is_free (has c) taken name ≡ true → c.files name ≡ None
unfolding is_free
free_not_there c taken name free = not_there c name (go (has c name) (list_any (bytes_eq name) taken) free)
  where
    go : (there among : Bool) → not (there || among) ≡ true → there ≡ false
    go true among h = absurd (cc)
    go false among h = refl

one_of_two : (c : Contents) (free : Bool) (first name : List ℕ) (later : Option (List ℕ)) → (if free then Some first else later) ≡ Some name
    → (free ≡ true → c.files first ≡ None) → (later ≡ Some name → c.files name ≡ None) → c.files name ≡ None
one_of_two c true first name later is here other = let e : first ≡ name = cc in subst (λ x. c.files x ≡ None) e (here refl)
one_of_two c false first name later is here other = other is

first_lacks : (c : Contents) (taken : List (List ℕ)) (prefix : List ℕ) (count n : ℕ) (name : List ℕ) → first_free (has c) taken prefix count n ≡ Some name → c.files name ≡ None
unfolding first_free
first_lacks c taken prefix zero n name is = absurd (cc)
first_lacks c taken prefix (suc count) n name is =
    one_of_two c (is_free (has c) taken (numbered prefix n)) (numbered prefix n) name (first_free (has c) taken prefix count (suc n)) is
    (λ free. free_not_there c taken (numbered prefix n) free) (λ later. first_lacks c taken prefix count (suc n) name later)

choice_lacks : (c : Contents) (taken : List (List ℕ)) (w : WantedName) (name : List ℕ) → choice (has c) taken w ≡ Some name → c.files name ≡ None
unfolding choice
choice_lacks c taken w name is = go (is_named w.wanted) (is_free (has c) taken w.name) refl is
  where
    go : (named free : Bool) → is_free (has c) taken w.name ≡ free
        → (if named && free then Some w.name else first_free (has c) taken (prefix_of w.wanted) 1000 0) ≡ Some name → c.files name ≡ None
    go true true free h = let e : w.name ≡ name = cc in subst (λ x. c.files x ≡ None) e (free_not_there c taken w.name free)
    go true false free h = first_lacks c taken (prefix_of w.wanted) 1000 0 name h
    go false free other h = first_lacks c taken (prefix_of w.wanted) 1000 0 name h

by_choice : (c : Contents) (number : ℕ) (later : List ℕ → Result (List (List ℕ)) ℕ) (found : Option (List ℕ)) (names : List (List ℕ)) → behind_choice number later found ≡ Ok names
    → ((name : List ℕ) → found ≡ Some name → later name ≡ Ok names → AllLack names c) → AllLack names c
by_choice c number later None names is each = absurd (cc)
by_choice c number later (Some name) names is each = each name refl is

names_lack : (c : Contents) (taken : List (List ℕ)) (number : ℕ) (ws : List WantedName) (names : List (List ℕ)) → AllLack taken c
    → names_behind (has c) taken number ws ≡ Ok names → AllLack names c
unfolding names_behind
names_lack c taken number [] names lack is = let e : taken ≡ names = cc in subst (λ l. AllLack l c) e lack
names_lack c taken number (w ∷ more) names lack is =
    by_choice c number (λ name. names_behind (has c) (taken ++ name ∷ []) (suc number) more) (choice (has c) taken w) names is
    (λ name found later. names_lack c (taken ++ name ∷ []) (suc number) more names (lack_on c taken name lack (choice_lacks c taken w name found)) later)

pub chosen_lack : (told : Option Contents) (pieces : List Piece) (names : List (List ℕ)) → AreChosen pieces names told → AreNew names told
unfolding chosen_names
chosen_lack None pieces names chosen = tt
chosen_lack (Some c) pieces names chosen = names_lack c [] 1 (wanted_names pieces) names tt chosen

pub untaken_at : (name : List ℕ) (found : Option (List ℕ)) (taken names : List (List ℕ)) → taken ≡ names → found ≡ Some name
    → IfSome found (λ n. list_any (bytes_eq n) taken ≡ false) → list_any (bytes_eq name) names ≡ false
untaken_at name None taken names same is untaken = absurd (cc)
untaken_at name (Some other) taken names same is untaken =
    let e : other ≡ name = cc in subst (λ n. list_any (bytes_eq n) names ≡ false) e (subst (λ l. list_any (bytes_eq other) l ≡ false) same untaken)

-- a fault of the shelf
pub not_chosen : {T : Type 0} (r : Result T NamesFail) (pieces : List Piece) (fail : ChoiceFail) (place : ℕ) (w : Wanted) (own : List ℕ) (b m a : ShelfState)
    → IsErrAnd r (IsFailOf fail) → slice_get (map (λ (p : Piece). p.wanted.wanted) pieces) place ≡ Some w → slice_get (map (λ (p : Piece). p.wanted.name) pieces) place ≡ Some own
    → m.faults ≡ b.faults → IsCause (IsCandidate (record { wanted = w; name = own })) m.faults a.faults fail → IfErr r (AreNotChosen pieces b a)
not_chosen (Ok x) pieces fail place w own b m a is kind_is own_is quiet cause = tt
not_chosen (Err f) pieces choice_fail.NoMemory place w own b m a is kind_is own_is quiet cause = subst (AreNotChosen pieces b a) (sym is) tt
not_chosen (Err f) pieces (choice_fail.Failed name) place w own b m a is kind_is own_is quiet cause =
    subst (AreNotChosen pieces b a) (sym is) (
      record { place = place; wanted = record { wanted = w; name = own }; of_piece = wanted_at pieces place w own kind_is own_is; candidate = cause.0 },
      subst (λ n. Rose n a.faults) quiet cause.1,
    )
