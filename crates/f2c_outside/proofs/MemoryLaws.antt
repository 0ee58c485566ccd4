-- Lemmas on the files of a shelf in memory.
use Rattle.std.proofs.Common.{◌≡◌, ℕ, zero, suc, ◌+◌, ◌<◌, ◌≤◌, List, [], ◌∷◌, ◌++◌, length, map, take, get_or, set, min, Some, None, Option, option_map, Bool, true, false, refl, ap, sym, ◌∙◌, subst, arith, add-one, length-append}
use Rattle.std.specs.Prelude.{if◌then◌else◌, bytes_eq, slice_get, Result, Ok, Err, OnErr}
use Rattle.std.proofs.lemmas.List.{map-append, length-map, length-take}
use Rattle.std.proofs.Math.Seq.{take-suc, map-set_same}
use Rattle.std.proofs.lemmas.Slice.Eq.{bytes_eq-Decides}
use mathlib.Core.Path.{fun_ext}
use Rattle.f2c_outside.specs.Shelf.{Contents, Active, Idle, Reads, Writes, with_file, added, text_or_none}
use Rattle.f2c_outside.specs.Memory.{Named, file_of, later_of, last_name, name_of, text_of, IsNewestAt, IsNewest, IsSourceOf, IsTargetOf, IsGrown, IsExtended, held}
use Rattle.f2c_outside.specs.Entries.{named}
use Rattle.f2c_outside.specs.declared.memory_shelf.Entry.{Entry}
use Rattle.f2c_outside.specs.declared.memory_shelf.Opened.TheVariants as opened
use Rattle.f2c_outside.specs.declared.shelves.Place.{Place}
use Rattle.f2c_outside.specs.declared.shelves.Place.TheVariants.{Input, File}
use Rattle.f2c_outside.proofs.ShelfLaws.{with_file-at, with_file-twice}

later-none : (text : Option (List ℕ)) → later_of None text ≡ text
later-none None = refl
later-none (Some text) = refl

later-assoc : (a b c : Option (List ℕ)) → later_of a (later_of b c) ≡ later_of (later_of a b) c
later-assoc a b None = refl
later-assoc a b (Some text) = refl

later-if : (b : Bool) (x : List ℕ) (y : Option (List ℕ)) → later_of y (if b then Some x else None) ≡ (if b then Some x else y)
later-if true x y = refl
later-if false x y = refl

-- the last file counts first
pub file_of-append :
    (files : List Named) (last : Named) (asked : List ℕ)
    → file_of (files ++ last ∷ []) asked ≡ (if bytes_eq asked last.name then Some last.bytes else file_of files asked)
file_of-append [] last asked = refl
file_of-append (first ∷ rest) last asked =
    ap (later_of (if bytes_eq asked first.name then Some first.bytes else None)) (file_of-append rest last asked ∙ sym (later-if (bytes_eq asked last.name) last.bytes (file_of rest asked)))
    ∙ later-assoc (if bytes_eq asked first.name then Some first.bytes else None) (file_of rest asked)
    (if bytes_eq asked last.name then Some last.bytes else None)
    ∙ later-if (bytes_eq asked last.name) last.bytes (file_of (first ∷ rest) asked)

pub file_of-snoc :
    (files : List Named) (last : Named)
    → file_of (files ++ last ∷ []) ≡ with_file last.name (Some last.bytes) (file_of files)
file_of-snoc files last = fun_ext (file_of-append files last)

pub slice_get-seam : {X : Type 0} (xs : List X) (x : X) → slice_get (xs ++ x ∷ []) (length xs) ≡ Some x
slice_get-seam [] x = refl
slice_get-seam (y ∷ ys) x = slice_get-seam ys x

pub slice_get-front :
    {X : Type 0} (xs ys : List X) (i : ℕ) → i < length xs → slice_get (xs ++ ys) i ≡ slice_get xs i
slice_get-front [] ys i within = absurd (omega arith)
slice_get-front (x ∷ xs) ys zero within = refl
slice_get-front (x ∷ xs) ys (suc i) within = slice_get-front xs ys i (omega arith)

pub last_name-snoc : (before : List ℕ) (files : List Named) (last : Named) → last_name before (files ++ last ∷ []) ≡ last.name
last_name-snoc before [] last = refl
last_name-snoc before (first ∷ rest) last = last_name-snoc first.name rest last

-- the search has come one file further, and this one has the name
newest-hit :
    (files : List Named) (last : Named) (name : List ℕ) (n : ℕ)
    → n ≡ length files
    → bytes_eq name last.name ≡ true
    → IsNewest (Some n) (files ++ last ∷ []) name
newest-hit files last name n is same =
    let at : slice_get (files ++ last ∷ []) n ≡ Some last = ap (slice_get (files ++ last ∷ [])) is ∙ slice_get-seam files last
    in record {
      within = omega (arith, length-append files (last ∷ []));
      named = ap name_of at ∙ sym ((bytes_eq-Decides name last.name).0 same);
      text =
          file_of-append files last name
          ∙ ap (λ (b : Bool). if b then Some last.bytes else file_of files name) same
          ∙ ap (λ (o : Option Named). Some (text_of o)) (sym at);
    }

newest-miss :
    (files : List Named) (last : Named) (name : List ℕ) (found : Option ℕ)
    → bytes_eq name last.name ≡ false
    → IsNewest found files name
    → IsNewest found (files ++ last ∷ []) name
newest-miss files last name None differ is =
    file_of-append files last name ∙ ap (λ (b : Bool). if b then Some last.bytes else file_of files name) differ ∙ is
newest-miss files last name (Some i) differ is =
    let at : slice_get (files ++ last ∷ []) i ≡ slice_get files i = slice_get-front files (last ∷ []) i is.within
    in record {
      within = omega (arith, length-append files (last ∷ []), is.within);
      named = ap name_of at ∙ is.named;
      text =
          file_of-append files last name
          ∙ ap (λ (b : Bool). if b then Some last.bytes else file_of files name) differ
          ∙ is.text
          ∙ ap (λ (o : Option Named). Some (text_of o)) (sym at);
    }

-- the entries up to and with the next one
named-next :
    (entries : List Entry) (n : ℕ) (entry : Entry)
    → n < length entries
    → entry ≡ get_or entries n entry
    → map named (take (n + 1) entries) ≡ map named (take n entries) ++ named entry ∷ []
named-next entries n entry within is =
    ap (λ (k : ℕ). map named (take k entries)) (add-one n)
    ∙ ap (map named) (take-suc entries n entry within)
    ∙ map-append named (take n entries) (get_or entries n entry ∷ [])
    ∙ ap (λ (e : Entry). map named (take n entries) ++ named e ∷ []) (sym is)

least : (n m : ℕ) → n ≤ m → min n m ≡ n
least n m within = omega arith

length-named : (entries : List Entry) (n : ℕ) → n ≤ length entries → length (map named (take n entries)) ≡ n
length-named entries n within = length-map (take n entries) named ∙ length-take n entries ∙ least n (length entries) within

-- the next entry has the name
pub newest-hit-next :
    (entries : List Entry) (n : ℕ) (entry : Entry) (name : List ℕ)
    → n < length entries
    → entry ≡ get_or entries n entry
    → bytes_eq name entry.name ≡ true
    → IsNewest (Some n) (map named (take (n + 1) entries)) name
newest-hit-next entries n entry name within is same =
    subst (λ (files : List Named). IsNewest (Some n) files name) (sym (named-next entries n entry within is))
    (newest-hit (map named (take n entries)) (named entry) name n (sym (length-named entries n (omega arith))) same)

-- the next entry has another name
pub newest-miss-next :
    (entries : List Entry) (n : ℕ) (entry : Entry) (name : List ℕ) (found : Option ℕ)
    → n < length entries
    → entry ≡ get_or entries n entry
    → bytes_eq name entry.name ≡ false
    → IsNewest found (map named (take n entries)) name
    → IsNewest found (map named (take (n + 1) entries)) name
newest-miss-next entries n entry name found within is differ before =
    subst (λ (files : List Named). IsNewest found files name) (sym (named-next entries n entry within is))
    (newest-miss (map named (take n entries)) (named entry) name found differ before)

-- a list whose last element stands at k
snoc-at : {X : Type 0} (xs : List X) (k : ℕ) (d : X) → k + 1 ≡ length xs → xs ≡ take k xs ++ get_or xs k d ∷ []
snoc-at [] k d is = absurd (omega arith)
snoc-at (x ∷ []) zero d is = refl
snoc-at (x ∷ (y ∷ ys)) zero d is = absurd (omega arith)
snoc-at {X = X} (x ∷ xs) (suc k) d is = ap (λ (t : List X). x ∷ t) (snoc-at xs k d (omega arith))

set-at : {X : Type 0} (xs : List X) (k : ℕ) (y : X) → k + 1 ≡ length xs → set xs k y ≡ take k xs ++ y ∷ []
set-at [] k y is = absurd (omega arith)
set-at (x ∷ []) zero y is = refl
set-at (x ∷ (z ∷ zs)) zero y is = absurd (omega arith)
set-at {X = X} (x ∷ xs) (suc k) y is = ap (λ (t : List X). x ∷ t) (set-at xs k y (omega arith))

-- a piece went behind the bytes of the last entry
pub grown :
    (entries : List Entry) (k : ℕ) (old new : Entry) (piece : List ℕ)
    → k + 1 ≡ length entries
    → old ≡ get_or entries k old
    → new.name ≡ old.name
    → new.bytes.items ≡ old.bytes.items ++ piece
    → IsGrown piece (map named entries) (map named (set entries k new))
grown entries k old new piece at is name bytes =
    record {
      front = map named (take k entries);
      last = named old;
      was =
          ap (map named) (snoc-at entries k old at)
          ∙ map-append named (take k entries) (get_or entries k old ∷ [])
          ∙ ap (λ (e : Entry). map named (take k entries) ++ named e ∷ []) (sym is);
      is =
          ap (map named) (set-at entries k new at)
          ∙ map-append named (take k entries) (new ∷ [])
          ∙ ap (λ (f : Named). map named (take k entries) ++ f ∷ []) (same_file name bytes);
    }
  where
    same_file :
        new.name ≡ old.name → new.bytes.items ≡ old.bytes.items ++ piece
        → named new ≡ record { name = old.name; bytes = old.bytes.items ++ piece }
    same_file n b = cc

-- an entry that holds the same bytes
pub unchanged :
    (entries : List Entry) (k : ℕ) (old new : Entry)
    → old ≡ get_or entries k old
    → new.name ≡ old.name
    → new.bytes.items ≡ old.bytes.items
    → map named (set entries k new) ≡ map named entries
unchanged entries k old new is name bytes =
    let same : named new ≡ named old = cc
    in map-set_same named entries k new old (same ∙ ap named is)

-- a file that was made anew, empty, is the last
pub file_begun :
    (name : List ℕ) (before after : List Named)
    → after ≡ before ++ record { name = name; bytes = [] } ∷ []
    → IsTargetOf (File name) before after opened.Last
file_begun name before after is =
    let file : Named = record { name = name; bytes = [] }
    in record {
      active =
          ap (λ (files : List Named). Writes (File (last_name [] files))) is
          ∙ ap (λ (n : List ℕ). Writes (File n)) (last_name-snoc [] before file);
      sound = omega (arith, ap length is, length-append before (file ∷ []));
      text = λ input. refl;
      begins =
          λ input output fault.
          ap
          (λ (files : List ℕ → Option (List ℕ)).
          let c : Contents = record { files = files; input = input; output = output; fault = fault } in c)
          (ap file_of is ∙ file_of-snoc before file);
    }

some_not_none : {X : Type 0} {x : X} → Some x ≡ None → ⊥
some_not_none is = cc

-- a file that is there can be read
pub file_source :
    (name : List ℕ) (files : List Named) (number : ℕ)
    → IsNewestAt number files name
    → IsSourceOf (File name) files (opened.File number)
file_source name files number is =
    record {
      active = ap (λ (n : List ℕ). Reads (File n)) is.named;
      sound = is.within;
      text = λ input output fault. ap text_or_none (sym is.text);
      there = λ input output fault lacks. some_not_none (sym is.text ∙ lacks);
    }

abbrev place_of : Active → Place
place_of (Writes place) = place
place_of (Reads place) = place
place_of Idle = Input

-- a piece behind the bytes of the last file
grown-put :
    (piece : List ℕ) (before after : List Named) (input output fault : List ℕ)
    → IsGrown piece before after
    → held after input output fault ≡ added (File (last_name [] before)) piece (held before input output fault)
grown-put piece before after input output fault is =
    let name : List ℕ = is.last.name
    in let under : List ℕ → Option (List ℕ) = file_of is.front
    in let was : file_of before ≡ with_file name (Some is.last.bytes) under = ap file_of is.was ∙ file_of-snoc is.front is.last
    in let files :
    file_of after
    ≡ with_file (last_name [] before) (option_map (λ t. t ++ piece) (file_of before (last_name [] before))) (file_of before)
    =
    ap file_of is.is
    ∙ file_of-snoc is.front (record { name = name; bytes = is.last.bytes ++ piece })
    ∙ sym (with_file-twice name (Some is.last.bytes) (Some (is.last.bytes ++ piece)) under)
    ∙ ap
    (λ (text : Option (List ℕ)). with_file name (option_map (λ t. t ++ piece) text) (with_file name (Some is.last.bytes) under))
    (sym (with_file-at name (Some is.last.bytes) under))
    ∙ ap (λ (g : List ℕ → Option (List ℕ)). with_file name (option_map (λ t. t ++ piece) (g name)) g) (sym was)
    ∙ ap
    (λ (n : List ℕ). with_file n (option_map (λ t. t ++ piece) (file_of before n)) (file_of before))
    (sym (ap (last_name []) is.was ∙ last_name-snoc [] is.front is.last))
    in ap
    (λ (g : List ℕ → Option (List ℕ)).
    let c : Contents = record { files = g; input = input; output = output; fault = fault } in c)
    files

pub last_extended :
    (piece : List ℕ) (before after : List Named) (output fault : List ℕ)
    → IsGrown piece before after
    → IsExtended opened.Last piece before after output output fault fault
last_extended piece before after output fault is =
    let now : last_name [] after ≡ last_name [] before =
    ap (last_name []) is.is
    ∙ last_name-snoc [] is.front (record { name = is.last.name; bytes = is.last.bytes ++ piece })
    ∙ sym (ap (last_name []) is.was ∙ last_name-snoc [] is.front is.last)
    in record {
      active = ap (λ (n : List ℕ). Writes (File n)) now;
      sound = omega (arith, ap length is.is, length-append is.front (record { name = is.last.name; bytes = is.last.bytes ++ piece } ∷ []));
      text = λ input. refl;
      put =
          λ place same input.
          subst (λ (p : Place). held after input output fault ≡ added p piece (held before input output fault))
          (ap place_of same) (grown-put piece before after input output fault is);
    }

pub output_extended :
    (piece : List ℕ) (files : List Named) (before after fault : List ℕ)
    → after ≡ before ++ piece
    → IsExtended opened.Output piece files files before after fault fault
output_extended piece files before after fault is =
    record {
      active = refl;
      sound = tt;
      text = λ input. refl;
      put =
          λ place same input.
          subst (λ (p : Place). held files input after fault ≡ added p piece (held files input before fault))
          (ap place_of same)
          (ap
          (λ (text : List ℕ).
          let c : Contents = record { files = file_of files; input = input; output = text; fault = fault } in c)
          is);
    }

pub fault_extended :
    (piece : List ℕ) (files : List Named) (output before after : List ℕ)
    → after ≡ before ++ piece
    → IsExtended opened.Fault piece files files output output before after
fault_extended piece files output before after is =
    record {
      active = refl;
      sound = tt;
      text = λ input. refl;
      put =
          λ place same input.
          subst (λ (p : Place). held files input output after ≡ added p piece (held files input output before))
          (ap place_of same)
          (ap
          (λ (text : List ℕ).
          let c : Contents = record { files = file_of files; input = input; output = output; fault = text } in c)
          is);
    }

-- what holds anyhow holds on an error
pub on_err : {T E P : Type 0} (r : Result T E) → P → OnErr r P
on_err (Ok x) p = tt
on_err (Err e) p = p

-- the same files and streams are the same contents
pub held-same :
    (files files' : List Named) (input output output' fault fault' : List ℕ)
    → files' ≡ files
    → output' ≡ output
    → fault' ≡ fault
    → Some (held files' input output' fault') ≡ Some (held files input output fault)
held-same files files' input output output' fault fault' f o t = cc
