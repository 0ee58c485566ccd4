-- Texts that are prototype files, one after the other.
use Rattle.std.specs.Prelude.{◌≡◌, ℕ, ◌+◌, ◌<◌, ◌≤◌, Bool, true, false, not, List, [], ◌∷◌, ◌++◌, length, take, Some}
use Rattle.std.specs.Bool.{Decides}
use Rattle.std.proofs.Common.{refl, sym, ap, subst, ◌∙◌, get_or}
use Rattle.std.proofs.lemmas.List.{take_all}
use Rattle.std.proofs.lemmas.Option.{slice_get-get_or}
use Rattle.proto_file.specs.prototypes.declared.prototype.Prototype.{Prototype}
use Rattle.proto_file.specs.prototypes.PrototypeText.{IsFile, IsPrototypeFile, Spells, RefusedLine}
use Rattle.proto_file.specs.Failures.{IsRefusal}
use Rattle.proto_file.specs.declared.reader.ProtoFail.{ProtoFail}
use Rattle.proto_file.specs.declared.reader.ProtoFail.TheVariants as proto_fail
use Rattle.prototype_outputs.specs.Forms.{AreFiles, IsFirstBad}
use Rattle.prototype_outputs.proofs.FrontLemmas.{further}

-- A LIST of prototypes, against that of a text
same_list : (text : List ℕ) (there list : List Prototype) → IsPrototypeFile text there → there ≡ list → IsPrototypeFile text list
same_list text there list file same = subst (IsPrototypeFile text) same file

by_list : (text : List ℕ) (there list : List Prototype) (other : Bool) → IsPrototypeFile text there → ((found : List Prototype) → Spells text found → found ≡ there) →
    (other ≡ true → there ≡ list → ⊥) → (other ≡ false → there ≡ list) → Decides (not other) (IsPrototypeFile text list)
by_list text there list true file alone differs same = ((λ is. absurd (cc)), λ found. absurd (differs refl (sym (alone list found.spells))))
by_list text there list false file alone differs same = ((λ is. same_list text there list file (same refl)), λ found. refl)

pub other_list : (text : List ℕ) (there list : List Prototype) (other is : Bool) → IsPrototypeFile text there →
    ((found : List Prototype) → Spells text found → found ≡ there) → (other ≡ true → there ≡ list → ⊥) → (other ≡ false → there ≡ list) → is ≡ not other →
    Decides is (IsPrototypeFile text list)
other_list text there list other is file alone differs same is_not = subst (λ b. Decides b (IsPrototypeFile text list)) (sym is_not) (by_list text there list other file alone differs same)

never_both : (line : ℕ) (why : ProtoFail) → why ≡ proto_fail.NotPrototype line → why ≡ proto_fail.NoMemory → ⊥
never_both line why one other = cc

pub no_list : (text : List ℕ) (list : List Prototype) (line : ℕ) (why : ProtoFail) → why ≡ proto_fail.NotPrototype line → (IsFile text → why ≡ proto_fail.NoMemory) →
    Decides false (IsPrototypeFile text list)
no_list text list line why is whole =
    ((λ never. absurd (cc)), λ file. absurd (never_both line why is (whole (record { prototypes = list; is = file }))))

-- ONE TEXT MORE
pub none_yet : (texts : List (List ℕ)) → AreFiles (take 0 texts)
unfolding AreFiles
none_yet texts = tt

and_one : (texts : List (List ℕ)) (text : List ℕ) → AreFiles texts → IsFile text → AreFiles (texts ++ text ∷ [])
unfolding AreFiles
and_one [] text are one = (one, tt)
and_one (t ∷ texts) text are one = (are.0, and_one texts text are.1 one)

pub one_more : (texts : List (List ℕ)) (number : ℕ) (text : List ℕ) (list : List Prototype) → number < length texts → text ≡ get_or texts number text →
    AreFiles (take number texts) → IsPrototypeFile text list → AreFiles (take (number + 1) texts)
one_more texts number text list within is before file =
    subst AreFiles (further texts number text within is) (and_one (take number texts) text before (record { prototypes = list; is = file }))

pub all_files : (texts : List (List ℕ)) (number : ℕ) → length texts ≤ number → AreFiles (take number texts) → AreFiles texts
all_files texts number past before = subst AreFiles (take_all number texts past) before

pub bad_at : (texts : List (List ℕ)) (number line : ℕ) (text : List ℕ) → number < length texts → text ≡ get_or texts number text → AreFiles (take number texts) →
    RefusedLine text line → IsFirstBad texts number line
bad_at texts number line text within is before refused = record {
  text = text;
  text_is = slice_get-get_or texts number text within ∙ ap Some (sym is);
  before = before;
  refused = refused;
}

pub refused_as : (text : List ℕ) (why : ProtoFail) (line : ℕ) → why ≡ proto_fail.NotPrototype line → IsRefusal text why → RefusedLine text line
refused_as text why line is refused = subst (IsRefusal text) is refused
