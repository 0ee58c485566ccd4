-- Laws on what a place holds once bytes have been put behind it: nothing changes nothing, and to append
-- twice is to append once.
use Rattle.std.proofs.Common.{◌≡◌, ◌≢◌, ℕ, List, [], ◌++◌, Some, None, Option, option_map, Bool, true, false, refl, ap, sym, ◌∙◌, append_assoc}
use Rattle.std.specs.Prelude.{if◌then◌else◌, bytes_eq, Err, take}
use Rattle.std.proofs.Common.{arith, ◌∷◌}
use Rattle.std.proofs.lemmas.List.{append-nil}
use Rattle.std.proofs.lemmas.Slice.Eq.{bytes_eq-Decides}
use mathlib.Core.Path.{fun_ext}
use Rattle.f2c_outside.specs.Shelf.{Contents, ShelfState, Put, added, begun, with_file, bytes_of, text_or_none}
use Rattle.f2c_outside.specs.declared.shelves.Place.{Place}
use Rattle.f2c_outside.specs.declared.shelves.Place.TheVariants.{Input, Output, Fault, File}
use Rattle.f2c_outside.specs.declared.shelves.ShelfFault.TheVariants.{Failed}

-- a name equals itself
bytes_eq-same : (name : List ℕ) → bytes_eq name name ≡ true
bytes_eq-same name = (bytes_eq-Decides name name).1 refl

-- two names that differ are told apart
bytes_eq-other : (asked name : List ℕ) (b : Bool) → bytes_eq asked name ≡ b → asked ≢ name → b ≡ false
bytes_eq-other asked name true same differ = absurd (differ ((bytes_eq-Decides asked name).0 same))
bytes_eq-other asked name false same differ = refl

chosen-true : {X : Type 0} (b : Bool) (x y : X) → b ≡ true → (if b then x else y) ≡ x
chosen-true true x y is = refl
chosen-true false x y is = absurd (cc)

chosen-false : {X : Type 0} (b : Bool) (x y : X) → b ≡ false → (if b then x else y) ≡ y
chosen-false false x y is = refl
chosen-false true x y is = absurd (cc)

-- the text under the name that was changed
pub with_file-at :
    (name : List ℕ) (text : Option (List ℕ)) (files : List ℕ → Option (List ℕ)) → with_file name text files name ≡ text
with_file-at name text files = chosen-true (bytes_eq name name) text (files name) (bytes_eq-same name)

-- the text under any other name
pub with_file-other :
    (name : List ℕ) (text : Option (List ℕ)) (files : List ℕ → Option (List ℕ)) (asked : List ℕ)
    → asked ≢ name
    → with_file name text files asked ≡ files asked
with_file-other name text files asked differ =
    chosen-false (bytes_eq asked name) text (files asked) (bytes_eq-other asked name (bytes_eq asked name) refl differ)

either : {X : Type 0} (b : Bool) (x y z : X) → (b ≡ true → x ≡ z) → y ≡ z → (if b then x else y) ≡ z
either true x y z here there = here refl
either false x y z here there = there

-- the files with the text that stands there
pub with_file-same :
    (name : List ℕ) (text : Option (List ℕ)) (files : List ℕ → Option (List ℕ))
    → text ≡ files name
    → with_file name text files ≡ files
with_file-same name text files is =
    fun_ext
    (λ asked.
    either (bytes_eq asked name) text (files asked) (files asked)
    (λ same. is ∙ sym (ap files ((bytes_eq-Decides asked name).0 same)))
    refl)

twice : {X : Type 0} (b : Bool) (x y z : X) → (if b then y else (if b then x else z)) ≡ (if b then y else z)
twice true x y z = refl
twice false x y z = refl

-- the second of two changes of one name stands
pub with_file-twice :
    (name : List ℕ) (first second : Option (List ℕ)) (files : List ℕ → Option (List ℕ))
    → with_file name second (with_file name first files) ≡ with_file name second files
with_file-twice name first second files =
    fun_ext (λ asked. twice (bytes_eq asked name) first second (files asked))

append_nothing : (text : Option (List ℕ)) → option_map (λ t. t ++ []) text ≡ text
append_nothing None = refl
append_nothing (Some text) = ap Some (append-nil text)

append_both :
    (xs ys : List ℕ) (text : Option (List ℕ))
    → option_map (λ t. t ++ ys) (option_map (λ t. t ++ xs) text) ≡ option_map (λ t. t ++ (xs ++ ys)) text
append_both xs ys None = refl
append_both xs ys (Some text) = ap Some (append_assoc text xs ys)

-- to add nothing changes nothing
pub added-nil : (place : Place) (contents : Contents) → added place [] contents ≡ contents
added-nil Input contents = refl
added-nil Output contents =
    ap (λ (text : List ℕ). let c : Contents = record contents { output = text } in c) (append-nil contents.output)
added-nil Fault contents =
    ap (λ (text : List ℕ). let c : Contents = record contents { fault = text } in c) (append-nil contents.fault)
added-nil (File name) contents =
    ap (λ (files : List ℕ → Option (List ℕ)). let c : Contents = record contents { files = files } in c)
    (with_file-same name (option_map (λ t. t ++ []) (contents.files name)) contents.files
    (append_nothing (contents.files name)))

-- to add twice is to add once
pub added-added :
    (place : Place) (xs ys : List ℕ) (contents : Contents)
    → added place ys (added place xs contents) ≡ added place (xs ++ ys) contents
added-added Input xs ys contents = refl
added-added Output xs ys contents =
    ap (λ (text : List ℕ). let c : Contents = record contents { output = text } in c)
    (append_assoc contents.output xs ys)
added-added Fault xs ys contents =
    ap (λ (text : List ℕ). let c : Contents = record contents { fault = text } in c) (append_assoc contents.fault xs ys)
added-added (File name) xs ys contents =
    let first : Option (List ℕ) = option_map (λ t. t ++ xs) (contents.files name)
    in ap (λ (files : List ℕ → Option (List ℕ)). let c : Contents = record contents { files = files } in c)
    (with_file-twice name first (option_map (λ t. t ++ ys) (with_file name first contents.files name)) contents.files
    ∙ ap (λ (text : Option (List ℕ)). with_file name text contents.files)
    (ap (option_map (λ t. t ++ ys)) (with_file-at name first contents.files) ∙ append_both xs ys (contents.files name)))

-- the same where contents may not be told
pub told-nil : (place : Place) (told : Option Contents) → option_map (added place []) told ≡ told
told-nil place None = refl
told-nil place (Some contents) = ap Some (added-nil place contents)

pub told-added :
    (place : Place) (xs ys : List ℕ) (told : Option Contents)
    → option_map (added place ys) (option_map (added place xs) told) ≡ option_map (added place (xs ++ ys)) told
told-added place xs ys None = refl
told-added place xs ys (Some contents) = ap Some (added-added place xs ys contents)

-- a file that was made empty holds what was put
pub bytes_of-begun :
    (name bytes : List ℕ) (contents : Contents) → bytes_of (File name) (added (File name) bytes (begun (File name) contents)) ≡ bytes
bytes_of-begun name bytes contents =
    let empty : List ℕ → Option (List ℕ) = with_file name (Some []) contents.files
    in ap text_or_none
    (with_file-at name (option_map (λ t. t ++ bytes) (empty name)) empty
    ∙ ap (option_map (λ t. t ++ bytes)) (with_file-at name (Some []) contents.files))

take-none : {X : Type 0} (xs : List X) → take 0 xs ≡ []
take-none [] = refl
take-none (x ∷ xs) = refl

-- nothing of a piece went out
pub put-nothing :
    (piece : List ℕ) (b a : ShelfState)
    → a.told ≡ b.told
    → a.active ≡ b.active
    → Put piece b a (Err Failed)
put-nothing piece b a told active =
    record {
      active = active;
      ok = tt;
      some = tt;
      err = (
        0,
        record {
          fits = omega arith;
          put =
              λ place writes.
              told
              ∙ sym (told-nil place b.told)
              ∙ ap (λ (bytes : List ℕ). option_map (added place bytes) b.told) (sym (take-none piece));
        },
      );
      not_missing = λ is. cc;
    }
