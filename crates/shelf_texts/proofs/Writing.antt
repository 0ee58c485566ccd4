-- What stands in a place after several calls of `put`.
use Rattle.std.proofs.Common.{◌≡◌, ℕ, ◌+◌, ◌-◌, ◌<◌, ◌≤◌, List, [], ◌∷◌, ◌++◌, length, take, drop, Option, Some, None, option_map, Result, Ok, Err, refl, ap, sym, ◌∙◌, arith, IsErrOf, OnErr, length-drop, zero, suc, get_or, append_assoc, add-one, map, subst, inr}
use Rattle.std.proofs.lemmas.List.{take_all, take-append-drop, append-nil}
use Rattle.std.proofs.Math.Seq.{take-add}
use Rattle.f2c_outside.specs.declared.shelves.Place.{Place}
use Rattle.f2c_outside.specs.declared.shelves.Place.TheVariants.{Fault}
use Rattle.f2c_outside.specs.declared.shelves.ShelfFault.{ShelfFault}
use Rattle.f2c_outside.specs.declared.shelves.ShelfFault.TheVariants.{Failed, Missing}
use Rattle.f2c_outside.specs.Shelf.{ShelfState, Contents, Rose, HasCause, IsPut, Put, StartedWrite, Stopped, added, begun}
use Rattle.f2c_outside.proofs.ShelfLaws.{told-nil, told-added}
use Rattle.shelf_texts.specs.ShelfLoops.{joined}
use Rattle.shelf_texts.specs.Messages.{Said}
use Rattle.shelf_texts.specs.ShelfLoops.{IsFront, HasPut, HasPutFront, IsUnwritten, written}

-- what a slice from `done` on holds
pub rest_of : (text : List ℕ) (done : ℕ) → take (length text - done) (drop done text) ≡ drop done text
rest_of text done = take_all (length text - done) (drop done text) (omega (arith, length-drop done text))

pub put_nothing : (text : List ℕ) (s : ShelfState) → HasPut (take 0 text) s s
put_nothing text s = record { active = refl; later = omega arith; put = λ place writes. sym (told-nil place s.told) }

pub put_more :
    (text piece : List ℕ) (done n : ℕ) (s b a : ShelfState)
    → piece ≡ drop done text
    → HasPut (take done text) s b
    → IsPut n piece b a
    → a.active ≡ b.active
    → b.faults ≤ a.faults
    → HasPut (take (done + n) text) s a
put_more text piece done n s b a is before now same later =
    record {
      active = same ∙ before.active;
      later = omega arith;
      put = λ place writes.
          now.put place (before.active ∙ writes)
          ∙ ap (option_map (added place (take n piece))) (before.put place writes)
          ∙ told-added place (take done text) (take n piece) s.told
          ∙ ap (λ bytes. option_map (added place bytes) s.told)
          (ap (λ p. take done text ++ take n p) is ∙ sym (take-add done n text));
    }

-- the whole text was put
pub put_whole :
    (text : List ℕ) (done : ℕ) (s b : ShelfState) → length text ≤ done → HasPut (take done text) s b → HasPut text s b
put_whole text done s b past h = let e : take done text ≡ text = take_all done text past in rw e at h

-- a call that fails makes the count rise
pub rose_at_error :
    {T : Type 0} (before after : ℕ) (fault : ShelfFault)
    → HasCause {T = T} before after (Err fault)
    → (IsErrOf {T = T} (Err fault) Missing → ⊥)
    → Rose before after
rose_at_error before after Failed cause other = cause.failed refl
rose_at_error before after Missing cause other = absurd (other refl)

-- the first bytes of a text are a front of it
pub front_of : (n : ℕ) (text : List ℕ) → IsFront (take n text) text
front_of n text = record { rest = drop n text; is = take-append-drop n text }

-- a call of `put` that fails leaves a front of the text
pub put_failed :
    (text : List ℕ) (done : ℕ) (s b a : ShelfState) (fault : ShelfFault)
    → HasPut (take done text) s b
    → HasCause {T = ℕ} b.faults a.faults (Err fault)
    → Put (take (length text - done) (drop done text)) b a (Err fault)
    → HasPutFront text s a
put_failed text done s b a fault before cause now =
    let rose : Rose b.faults a.faults = rose_at_error b.faults a.faults fault cause now.not_missing
    in record {
      part = take (done + now.err.0) text;
      front = front_of (done + now.err.0) text;
      put =
          put_more text (take (length text - done) (drop done text)) done now.err.0 s b a (rest_of text done) before now.err.1
          now.active cause.later;
      rose = λ below. let less : b.faults < a.faults = rose below in let front = before.later in omega arith;
    }

-- a call of `put` moves on
pub put_moved :
    (text : List ℕ) (done n : ℕ) (s b a : ShelfState)
    → HasPut (take done text) s b
    → HasCause {T = ℕ} b.faults a.faults (Ok n)
    → Put (take (length text - done) (drop done text)) b a (Ok n)
    → HasPut (take (done + n) text) s a
put_moved text done n s b a before cause now =
    put_more text (take (length text - done) (drop done text)) done n s b a (rest_of text done) before now.ok now.active
    cause.later

-- an empty front
pub front_nil : (text : List ℕ) → IsFront [] text
front_nil text = record { rest = text; is = refl }

-- the whole is a front of itself
pub front_all : (text : List ℕ) → IsFront text text
front_all text = record { rest = []; is = append-nil text }

-- pieces up to a number, and the next one
joined-next :
    {X : Type 0} (f : X → List ℕ) (pieces : List X) (i : ℕ) (other : X)
    → i < length pieces
    → joined (take (suc i) (map f pieces)) ≡ joined (take i (map f pieces)) ++ f (get_or pieces i other)
joined-next f [] i other within = absurd (omega arith)
joined-next f (p ∷ others) zero other within = append-nil (f p)
joined-next f (p ∷ others) (suc i) other within =
    ap (λ bytes. f p ++ bytes) (joined-next f others i other (omega arith))
    ∙ sym (append_assoc (f p) (joined (take i (map f others))) (f (get_or others i other)))

-- the pieces up to a number are a front of all
pub joined-append : (xs ys : List (List ℕ)) → joined (xs ++ ys) ≡ joined xs ++ joined ys
joined-append [] ys = refl
joined-append (x ∷ xs) ys =
    ap (λ bytes. x ++ bytes) (joined-append xs ys) ∙ sym (append_assoc x (joined xs) (joined ys))

-- the pieces up to one, and a front of that one, are a front of all
front_joined :
    {X : Type 0} (f : X → List ℕ) (pieces : List X) (i : ℕ) (other : X) (part : List ℕ)
    → i < length pieces
    → IsFront part (f (get_or pieces i other))
    → IsFront (joined (take i (map f pieces)) ++ part) (joined (map f pieces))
front_joined f pieces i other part within front =
    let before : List ℕ = joined (take i (map f pieces))
    in let after : List ℕ = joined (drop (suc i) (map f pieces))
    in record {
      rest = front.rest ++ after;
      is =
          append_assoc before part (front.rest ++ after)
          ∙ ap (λ bytes. before ++ bytes) (sym (append_assoc part front.rest after) ∙ ap (λ bytes. bytes ++ after) front.is)
          ∙ sym (append_assoc before (f (get_or pieces i other)) after)
          ∙ ap (λ bytes. bytes ++ after) (sym (joined-next f pieces i other within))
          ∙ sym (joined-append (take (suc i) (map f pieces)) (drop (suc i) (map f pieces)))
          ∙ ap joined (take-append-drop (suc i) (map f pieces));
    }

-- to put after having put
pub put_put :
    (first second : List ℕ) (s b a : ShelfState) → HasPut first s b → HasPut second b a → HasPut (first ++ second) s a
put_put first second s b a before now =
    record {
      active = now.active ∙ before.active;
      later = let one = before.later in let two = now.later in omega arith;
      put = λ place writes.
          now.put place (before.active ∙ writes)
          ∙ ap (option_map (added place second)) (before.put place writes)
          ∙ told-added place first second s.told;
    }

-- the next piece was put
pub put_piece :
    {X : Type 0} (f : X → List ℕ) (pieces : List X) (i : ℕ) (other : X) (s b a : ShelfState)
    → i < length pieces
    → HasPut (joined (take i (map f pieces))) s b
    → HasPut (f (get_or pieces i other)) b a
    → HasPut (joined (take (i + 1) (map f pieces))) s a
put_piece f pieces i other s b a within before now =
    subst (λ (n : ℕ). HasPut (joined (take n (map f pieces))) s a) (sym (add-one i))
    (subst (λ (bytes : List ℕ). HasPut bytes s a) (sym (joined-next f pieces i other within))
    (put_put (joined (take i (map f pieces))) (f (get_or pieces i other)) s b a before now))

-- a front of the next piece was put
pub put_piece_failed :
    {X : Type 0} (f : X → List ℕ) (pieces : List X) (i : ℕ) (other : X) (s b a : ShelfState)
    → i < length pieces
    → HasPut (joined (take i (map f pieces))) s b
    → HasPutFront (f (get_or pieces i other)) b a
    → HasPutFront (joined (map f pieces)) s a
put_piece_failed f pieces i other s b a within before now =
    record {
      part = joined (take i (map f pieces)) ++ now.part;
      front = front_joined f pieces i other now.part within now.front;
      put = put_put (joined (take i (map f pieces))) now.part s b a before now.put;
      rose = λ below. let less : b.faults < a.faults = now.rose below in let one = before.later in omega arith;
    }

-- a text that was begun, put and stopped is written
pub written_whole :
    (place : Place) (text : List ℕ) (s b c a : ShelfState)
    → StartedWrite {T = Unit {0}} place s b (Ok tt)
    → HasPut text b c
    → a.told ≡ c.told
    → a.told ≡ written place text s.told
written_whole place text s b c a started put same =
    same ∙ put.put place started.ok.0 ∙ ap (option_map (added place text)) started.ok.1 ∙ mapped place text s.told
  where
    mapped : (place : Place) (text : List ℕ) (told : Option Contents)
        → option_map (added place text) (option_map (begun place) told) ≡ written place text told
    mapped place text None = refl
    mapped place text (Some contents) = refl

-- what is written on Fault goes behind what it held
pub written-Fault : (text : List ℕ) (told : Option Contents) → written Fault text told ≡ option_map (added Fault text) told
written-Fault text None = refl
written-Fault text (Some contents) = refl

-- a stop that fails makes the count rise
pub rose_at_stop :
    {T : Type 0} (before after : ℕ) (result : Result T ShelfFault)
    → HasCause before after result
    → (IsErrOf result Missing → ⊥)
    → OnErr result (Rose before after)
rose_at_stop before after (Ok done) cause other = tt
rose_at_stop before after (Err fault) cause other = rose_at_error before after fault cause other

-- a text that was put and not stopped
pub unwritten_at_stop :
    {T : Type 0} (place : Place) (text : List ℕ) (s b c a : ShelfState) (result : Result T ShelfFault)
    → StartedWrite {T = Unit {0}} place s b (Ok tt)
    → s.faults ≤ b.faults
    → HasPut text b c
    → HasCause c.faults a.faults result
    → Stopped c a result
    → OnErr result (IsUnwritten place text s a)
unwritten_at_stop place text s b c a (Ok done) started later put cause stopped = tt
unwritten_at_stop place text s b c a (Err fault) started later put cause stopped =
    record {
      rose = λ below.
          let less : c.faults < a.faults = rose_at_error c.faults a.faults fault cause stopped.not_missing below
          in let one = put.later in omega arith;
      later = let one = put.later in let two = cause.later in omega arith;
      front = inr (text, front_all text, written_whole place text s b c a started put stopped.same);
    }

-- a line that was put on Fault and stopped is said
pub said_whole :
    (line : List ℕ) (s b c a : ShelfState)
    → StartedWrite {T = Unit {0}} Fault s b (Ok tt)
    → s.faults ≤ b.faults
    → HasPut line b c
    → c.faults ≤ a.faults
    → a.told ≡ c.told
    → Said line s a
said_whole line s b c a started first put last same =
    let told : a.told ≡ option_map (added Fault line) s.told =
    written_whole Fault line s b c a started put same ∙ written-Fault line s.told
    in record {
      later = let one = put.later in omega arith;
      part = line;
      front = front_all line;
      put = told;
      whole = λ quiet. told;
    }
