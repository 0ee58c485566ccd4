-- Texts and records that are stored one behind the other.
use Rattle.std.proofs.Common.{◌≡◌, ℕ, ◌+◌, ◌-◌, ◌≤◌, List, [], ◌∷◌, ◌++◌, length, take, replicate, Option, Some, refl, ap, sym, ◌∙◌, subst, arith, length-append}
use Rattle.std.specs.Prelude.{Result, Ok, Err}
use Rattle.std.proofs.Math.Seq.{take-length}
use Rattle.std.proofs.lemmas.List.{length-replicate, replicate-append-replicate}
use Rattle.c_tree.specs.declared.outcome.CValue.TheVariants.{Pointer}
use Rattle.c_tree.specs.declared.outcome.CFault.{CFault}
use Rattle.c_tree.specs.Faults.{Or, after}
use Rattle.c_tree.specs.Objects.{Object}
use Rattle.c_tree.specs.LibraryArguments.{text_stored, fitted}
use Rattle.c_tree.specs.World.{InternalFile}
use Rattle.c_tree.specs.TransferOutput.{Filling, Filled, Stuck, fill_one, fill_all}
use Rattle.run_bytes.specs.Layout.{Stores}
use Rattle.item_deeds.specs.Forms.{SameForms}
use Rattle.item_deeds.proofs.FormLaws.{same-objects}
use Rattle.internal_output.specs.declared.files.FileRecords.{FileRecords}
use Rattle.internal_output.specs.declared.files.RecordRefusal.{RecordRefusal}
use Rattle.internal_output.specs.declared.files.RecordRefusal.TheVariants.{UsedUp, TooLong, Faulty}
use Rattle.internal_output.specs.Files.{file_of, IsOffset, Puts, filling_by, Fills}
use Rattle.internal_output.proofs.TextParts.{store-both}
use Rattle.internal_output.proofs.TextForms.{text-forms}

pub forms-behind : (x y z : List Object) → SameForms x y → SameForms y z → SameForms x z
forms-behind x y z first second = record { same = second.same ∙ first.same }

-- ## Texts

-- a text that is no longer than a record
fitted-whole : (size : ℕ) (line : List ℕ) → length line ≤ size → fitted size line ≡ line ++ replicate (size - length line) 32
fitted-whole size line within =
    let whole : size ≡ length (line ++ replicate (size - length line) 32) =
    omega (arith, length-append line (replicate (size - length line) 32), length-replicate (size - length line) (let blank : ℕ = 32 in blank)) in
    ap (λ (n : ℕ). take n (line ++ replicate (size - length line) 32)) whole ∙ take-length (line ++ replicate (size - length line) 32)

text-put : (old new : List Object) (object offset : ℕ) (text : List ℕ) (result : Result (Unit {0}) CFault) → Stores (λ all. text_stored all (Pointer object offset) text) old new result →
    Puts (text_stored old (Pointer object offset) text) old new result
text-put old new object offset text (Ok done) stores = record { stores = stores; forms = text-forms old new (Pointer object offset) text (Ok done) stores }
text-put old new object offset text (Err fault) stores = record { stores = stores.0; forms = text-forms old new (Pointer object offset) text (Err fault) stores }

pub text-puts : (old new : List Object) (object offset at : ℕ) (text : List ℕ) (result : Result (Unit {0}) CFault) → at ≡ offset → Stores (λ all. text_stored all (Pointer object at) text) old new result →
    Puts (text_stored old (Pointer object offset) text) old new result
text-puts old new object offset at text result same stores =
    subst (λ (n : ℕ). Puts (text_stored old (Pointer object n) text) old new result) same (text-put old new object at text result stores)

pub puts-nothing : (objects : List Object) (object offset : ℕ) → Puts (text_stored objects (Pointer object offset) []) objects objects (Ok tt)
puts-nothing objects object offset = record { stores = refl; forms = same-objects objects }

pub puts-behind : (x y z : List Object) (object offset further : ℕ) (a b : List ℕ) (result : Result (Unit {0}) CFault) → further ≡ offset + length a →
    Puts (text_stored x (Pointer object offset) a) x y (Ok tt) → Puts (text_stored y (Pointer object further) b) y z result →
    Puts (text_stored x (Pointer object offset) (a ++ b)) x z result
puts-behind x y z object offset further a b result is first second = record {
  stores = store-both x object offset a b
      ∙ ap (λ (found : Or (List Object)). after found (λ changed. text_stored changed (Pointer object (offset + length a)) b)) first.stores
      ∙ ap (λ (n : ℕ). text_stored y (Pointer object n) b) (sym is) ∙ second.stores;
  forms = forms-behind x y z first.forms second.forms;
}

pub puts-faulty : (x y : List Object) (object offset : ℕ) (a b : List ℕ) (fault : CFault) → Puts (text_stored x (Pointer object offset) a) x y (Err fault) →
    Puts (text_stored x (Pointer object offset) (a ++ b)) x y (Err fault)
puts-faulty x y object offset a b fault first = record {
  stores = store-both x object offset a b
      ∙ ap (λ (found : Or (List Object)). after found (λ changed. text_stored changed (Pointer object (offset + length a)) b)) first.stores;
  forms = first.forms;
}

-- the same text
pub puts-same : (x y : List Object) (object offset : ℕ) (a b : List ℕ) (result : Result (Unit {0}) CFault) → a ≡ b → Puts (text_stored x (Pointer object offset) a) x y result →
    Puts (text_stored x (Pointer object offset) b) x y result
puts-same x y object offset a b result same puts = subst (λ (text : List ℕ). Puts (text_stored x (Pointer object offset) text) x y result) same puts

-- the number that an offset is
pub offset-known : (at : Option ℕ) (number offset : ℕ) → at ≡ Some number → IsOffset at offset → number ≡ offset
offset-known at number offset is same = subst (λ (one : Option ℕ). IsOffset one offset) is same

-- a text with blanks behind it
pub puts-fitted : (x y z : List Object) (object offset further size : ℕ) (line : List ℕ) (result : Result (Unit {0}) CFault) → length line ≤ size → further ≡ offset + length line →
    Puts (text_stored x (Pointer object offset) line) x y (Ok tt) → Puts (text_stored y (Pointer object further) (replicate (size - length line) 32)) y z result →
    Puts (text_stored x (Pointer object offset) (fitted size line)) x z result
puts-fitted x y z object offset further size line result within is first second =
    puts-same x z object offset (line ++ replicate (size - length line) 32) (fitted size line) result (sym (fitted-whole size line within))
    (puts-behind x y z object offset further line (replicate (size - length line) 32) result is first second)

pub puts-fitted-faulty : (x y : List Object) (object offset size : ℕ) (line : List ℕ) (fault : CFault) → length line ≤ size →
    Puts (text_stored x (Pointer object offset) line) x y (Err fault) → Puts (text_stored x (Pointer object offset) (fitted size line)) x y (Err fault)
puts-fitted-faulty x y object offset size line fault within first =
    puts-same x y object offset (line ++ replicate (size - length line) 32) (fitted size line) (Err fault) (sym (fitted-whole size line within))
    (puts-faulty x y object offset line (replicate (size - length line) 32) fault first)

-- ## Blanks

abbrev pub blanks : ℕ → List ℕ
blanks n = replicate n 32

-- some blanks are stored, and so many are left
pub record Blanks (object : ℕ) (at place : Option ℕ) (count left : ℕ) (x y : List Object) : Type 0 where
  pub within : left ≤ count
  pub stored : (offset : ℕ) → IsOffset at offset → IsOffset place (offset + (count - left)) × Puts (text_stored x (Pointer object offset) (replicate (count - left) 32)) x y (Ok tt)

pub blanks-start : (object : ℕ) (at : Option ℕ) (count : ℕ) (objects : List Object) → Blanks object at at count count objects objects
blanks-start object at count objects = record {
  within = omega arith;
  stored = λ offset is.
      let none : 0 ≡ count - count = omega arith in
      let here : offset ≡ offset + (count - count) = omega arith in (
        subst (λ (n : ℕ). IsOffset at n) here is,
        puts-same objects objects object offset [] (replicate (count - count) 32) (Ok tt) (ap (λ (n : ℕ). replicate n 32) none) (puts-nothing objects object offset),
      );
}

more-blanks : (count left size : ℕ) → size ≤ left → left ≤ count → blanks (count - left) ++ blanks size ≡ blanks (count - (left - size))
more-blanks count left size some within =
    let sum : (count - left) + size ≡ count - (left - size) = omega arith in
    let joined : blanks (count - left) ++ blanks size ≡ blanks ((count - left) + size) = replicate-append-replicate (count - left) size 32 in joined ∙ ap blanks sum

pub blanks-put : (object : ℕ) (at place : Option ℕ) (count left size : ℕ) (piece : List ℕ) (x y z : List Object) (result : Result (Unit {0}) CFault) (offset : ℕ) → size ≤ left →
    piece ≡ replicate size 32 → Blanks object at place count left x y →
    ((offset : ℕ) → IsOffset place offset → Puts (text_stored y (Pointer object offset) piece) y z result) → IsOffset at offset →
    Puts (text_stored x (Pointer object offset) (replicate (count - (left - size)) 32)) x z result
blanks-put object at place count left size piece x y z result offset some same before wrote is =
    let known : IsOffset place (offset + (count - left)) × Puts (text_stored x (Pointer object offset) (replicate (count - left) 32)) x y (Ok tt) = before.stored offset is in
    let size_is : length (blanks (count - left)) ≡ count - left = length-replicate (count - left) 32 in
    let ends : offset + (count - left) ≡ offset + length (blanks (count - left)) = omega (arith, size_is) in
    puts-same x z object offset (replicate (count - left) 32 ++ piece) (replicate (count - (left - size)) 32) result
    (ap (λ (text : List ℕ). replicate (count - left) 32 ++ text) same ∙ more-blanks count left size some before.within)
    (puts-behind x y z object offset (offset + (count - left)) (replicate (count - left) 32) piece result ends known.1 (wrote (offset + (count - left)) known.0))

pub blanks-go_on : (object : ℕ) (at place next : Option ℕ) (count left size : ℕ) (piece : List ℕ) (x y z : List Object) → size ≤ left → piece ≡ replicate size 32 →
    Blanks object at place count left x y → ((offset : ℕ) → IsOffset place offset → Puts (text_stored y (Pointer object offset) piece) y z (Ok tt)) →
    ((offset : ℕ) → IsOffset place offset → IsOffset next (offset + size)) → Blanks object at next count (left - size) x z
blanks-go_on object at place next count left size piece x y z some same before wrote moved = record {
  within = (let within : left ≤ count = before.within in omega arith);
  stored = λ offset is.
      let within : left ≤ count = before.within in
      let sum : (offset + (count - left)) + size ≡ offset + (count - (left - size)) = omega arith in (
        subst (λ (n : ℕ). IsOffset next n) sum (moved (offset + (count - left)) (before.stored offset is).0),
        blanks-put object at place count left size piece x y z (Ok tt) offset some same before wrote is,
      );
}

pub blanks-faulty : (object : ℕ) (at place : Option ℕ) (count left size : ℕ) (piece : List ℕ) (x y z : List Object) (fault : CFault) (offset : ℕ) → size ≤ left → piece ≡ replicate size 32 →
    Blanks object at place count left x y → ((offset : ℕ) → IsOffset place offset → Puts (text_stored y (Pointer object offset) piece) y z (Err fault)) → IsOffset at offset →
    Puts (text_stored x (Pointer object offset) (replicate count 32)) x z (Err fault)
blanks-faulty object at place count left size piece x y z fault offset some same before wrote is =
    let within : left ≤ count = before.within in
    let sum : (count - (left - size)) + (left - size) ≡ count = omega arith in
    puts-same x z object offset (replicate (count - (left - size)) 32 ++ replicate (left - size) 32) (replicate count 32) (Err fault)
    (replicate-append-replicate (count - (left - size)) (left - size) 32 ∙ ap blanks sum)
    (puts-faulty x z object offset (replicate (count - (left - size)) 32) (replicate (left - size) 32) fault
    (blanks-put object at place count left size piece x y z (Err fault) offset some same before wrote is))

pub blanks-done : (object : ℕ) (at place : Option ℕ) (count left : ℕ) (x y : List Object) (offset : ℕ) → left ≡ 0 → Blanks object at place count left x y → IsOffset at offset →
    Puts (text_stored x (Pointer object offset) (replicate count 32)) x y (Ok tt)
blanks-done object at place count left x y offset none before is =
    let all : count - left ≡ count = omega arith in
    puts-same x y object offset (replicate (count - left) 32) (replicate count 32) (Ok tt) (ap (λ (n : ℕ). replicate n 32) all) (before.stored offset is).1

-- ## Records

abbrev pub then_fill : List (List ℕ) → Filling → Or Filling
then_fill later filling = elim filling [ Filled next changed ↦ fill_all later next changed | Stuck number changed ↦ Ok (Stuck number changed) ]

both-by : (later back : List (List ℕ)) → ((file : InternalFile) → (objects : List Object) → fill_all (later ++ back) file objects ≡ after (fill_all later file objects) (then_fill back)) →
    (found : Or Filling) → after found (then_fill (later ++ back)) ≡ after (after found (then_fill later)) (then_fill back)
both-by later back both (Ok (Filled file objects)) = both file objects
both-by later back both (Ok (Stuck number objects)) = refl
both-by later back both (Err reason) = refl

-- records behind others
fill-both : (front back : List (List ℕ)) (file : InternalFile) (objects : List Object) → fill_all (front ++ back) file objects ≡ after (fill_all front file objects) (then_fill back)
fill-both [] back file objects = refl
fill-both (line ∷ later) back file objects = both-by later back (λ next changed. fill-both later back next changed) (fill_one line file objects)

-- no record is stored
pub fills-nothing : (file : FileRecords) (objects : List Object) → Fills [] file objects file objects (Ok tt)
fills-nothing file objects = record { fills = refl; forms = same-objects objects }

pub fills-behind : (front back : List (List ℕ)) (f g h : FileRecords) (x y z : List Object) (result : Result (Unit {0}) RecordRefusal) → Fills front f x g y (Ok tt) → Fills back g y h z result →
    Fills (front ++ back) f x h z result
fills-behind front back f g h x y z result first second = record {
  fills = fill-both front back (file_of f) x ∙ ap (λ (found : Or Filling). after found (then_fill back)) first.fills ∙ second.fills;
  forms = forms-behind x y z first.forms second.forms;
}

stuck-stays : (later : List (List ℕ)) (file : InternalFile) (objects : List Object) (refusal : RecordRefusal) →
    after (filling_by file objects (Err refusal)) (then_fill later) ≡ filling_by file objects (Err refusal)
stuck-stays later file objects UsedUp = refl
stuck-stays later file objects TooLong = refl
stuck-stays later file objects (Faulty fault) = refl

-- where a record is not stored, no later one is
pub fills-refused : (lines later : List (List ℕ)) (file : FileRecords) (objects : List Object) (file' : FileRecords) (objects' : List Object) (refusal : RecordRefusal) →
    fill_all lines (file_of file) objects ≡ filling_by (file_of file') objects' (Err refusal) → fill_all (lines ++ later) (file_of file) objects ≡ filling_by (file_of file') objects' (Err refusal)
fills-refused lines later file objects file' objects' refusal is =
    fill-both lines later (file_of file) objects ∙ ap (λ (found : Or Filling). after found (then_fill later)) is ∙ stuck-stays later (file_of file') objects' refusal
