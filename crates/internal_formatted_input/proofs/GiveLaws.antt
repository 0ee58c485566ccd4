-- The items of a call, one by one.
use Rattle.std.proofs.Common.{◌≡◌, ℕ, ℤ, suc, List, Option, refl, ap, sym, ◌∙◌, subst}
use Rattle.std.specs.Prelude.{None, Result, Ok, Err}
use Rattle.c_tree.specs.run_state.Units.{Units}
use Rattle.c_tree.specs.declared.outcome.CValue.{CValue}
use Rattle.c_tree.specs.Faults.{Or, failing}
use Rattle.c_tree.specs.Objects.{Object}
use Rattle.c_tree.specs.World.{Transfer, Reply}
use Rattle.c_tree.specs.LibraryArguments.{shifted}
use Rattle.c_tree.specs.Transfers.{numbered}
use Rattle.c_tree.specs.TransferInput.{formatted_item}
use Rattle.c_tree.specs.TransferCalls.{each_item}
use Rattle.taken_items.proofs.NextLaws.{from-next}
use Rattle.edit_rules.specs.edit_meaning.Formats.{Format}
use Rattle.edit_rules.specs.Walks.{StandsIn}
use Rattle.item_deeds.specs.Forms.{SameForms}
use Rattle.item_deeds.proofs.FormLaws.{same-objects}
use Rattle.internal_output.proofs.FileLaws.{forms-behind}
use Rattle.unit_answers.specs.Answers.{world_with}
use Rattle.internal_formatted_input.specs.declared.calls.InternalFormattedInput.{InternalFormattedInput}
use Rattle.internal_formatted_input.specs.declared.acts.Stop.{Stop}
use Rattle.internal_formatted_input.specs.declared.acts.Stop.TheVariants as stop
use Rattle.internal_formatted_input.specs.Transferring.{StandsFor}
use Rattle.internal_formatted_input.specs.Giving.{SameInput, GivesOn, ItemMeans, GivesItem, ItemsMean, GivesItems}

-- the transfer once some items have their values, and those from a pointer on that are left
pub record Along (text : List ℕ) (input : InternalFormattedInput) (format : Format) (meaning : Or Reply) (objects : List Object) (going : Option Transfer) (units : Units) (size left : ℕ) (pointer : CValue) : Type 0 where
  pub transfer : Transfer
  pub stands : StandsFor text input transfer
  pub same : stands.format ≡ format
  pub means : meaning ≡ each_item size (formatted_item format size) left pointer transfer (world_with objects going units)

pub record Giving (text : List ℕ) (first_input input : InternalFormattedInput) (count size : ℕ) (first : CValue) (left : ℕ) (pointer : CValue) (old now : List Object) : Type 0 where
  pub same : SameInput first_input input
  pub inside : StandsIn input.walk text
  pub forms : SameForms old now
  pub means : (units : Units) → (transfer : Transfer) → (stands : StandsFor text first_input transfer) → (going : Option Transfer) →
      Along text input stands.format (each_item size (formatted_item stands.format size) count first transfer (world_with old going units)) now going units size left pointer

pub giving-starts : (text : List ℕ) (input : InternalFormattedInput) (count size : ℕ) (first : CValue) (left : ℕ) (objects : List Object) → left ≡ count → StandsIn input.walk text →
    Giving text input input count size first left first objects objects
giving-starts text input count size first left objects all inside = record {
  same = record { on_error = refl; on_end = refl };
  inside = inside;
  forms = same-objects objects;
  means = λ units transfer stands going. record {
    transfer = transfer;
    stands = stands;
    same = refl;
    means = ap (λ (n : ℕ). each_item size (formatted_item stands.format size) n first transfer (world_with objects going units)) (sym all);
  };
}

same-then : (a b c : InternalFormattedInput) → SameInput a b → SameInput b c → SameInput a c
same-then a b c one two = record { on_error = two.on_error ∙ one.on_error; on_end = two.on_end ∙ one.on_end }

-- what the next item means, under the format of the call
next-means :
    (text : List ℕ) (input input' : InternalFormattedInput) (format : Format) (pointer : CValue) (size : ℕ) (now next : List Object) (units : Units) (result : Result (Unit {0}) Stop) (transfer : Transfer)
    (going : Option Transfer) → (stands : StandsFor text input transfer) → stands.format ≡ format →
    ItemMeans (formatted_item stands.format size pointer transfer (world_with now going units)) next going units text stands.format input input' result →
    ItemMeans (formatted_item format size pointer transfer (world_with now going units)) next going units text format input input' result
next-means text input input' format pointer size now next units result transfer going stands same means =
    subst (λ (one : Format). ItemMeans (formatted_item one size pointer transfer (world_with now going units)) next going units text one input input' result) same means

pub giving-goes_on :
    (text : List ℕ) (first_input input input' : InternalFormattedInput) (count size : ℕ) (first : CValue) (left less : ℕ) (pointer further : CValue) (old now next : List Object) →
    left ≡ suc less → further ≡ shifted size pointer → SameForms now next → GivesItem text input input' now next pointer size (Ok tt) →
    Giving text first_input input count size first left pointer old now → Giving text first_input input' count size first less further old next
giving-goes_on text first_input input input' count size first left less pointer further old now next more moved kept gives before = record {
  same = same-then first_input input input' before.same gives.same;
  inside = gives.inside;
  forms = forms-behind old now next before.forms kept;
  means = λ units transfer stands going.
      let along = before.means units transfer stands going in
      let given : GivesOn (formatted_item stands.format size pointer along.transfer (world_with now going units)) next going units text stands.format input' =
      next-means text input input' stands.format pointer size now next units (Ok tt) along.transfer going along.stands along.same (gives.means units along.transfer along.stands going) in
      record {
        transfer = given.transfer;
        stands = given.stands;
        same = given.same;
        means = along.means
            ∙ from-next stands.format size left less pointer along.transfer (world_with now going units) _ more given.means
            ∙ ap (λ (at : CValue). each_item size (formatted_item stands.format size) less at given.transfer (world_with next going units)) (sym moved);
      };
}

pub giving-ends :
    (text : List ℕ) (first_input input : InternalFormattedInput) (count size : ℕ) (first : CValue) (left : ℕ) (pointer : CValue) (old now : List Object) → left ≡ 0 →
    Giving text first_input input count size first left pointer old now → GivesItems text first_input input old now count size first (Ok tt)
giving-ends text first_input input count size first left pointer old now none before = record {
  same = before.same;
  inside = before.inside;
  means = λ units transfer stands going.
      let along = before.means units transfer stands going in
      record {
        transfer = along.transfer;
        stands = along.stands;
        replies = along.means ∙ ap (λ (n : ℕ). each_item size (formatted_item stands.format size) n pointer along.transfer (world_with now going units)) none;
      };
}

stopped-then :
    (text : List ℕ) (now next : List Object) (going : Option Transfer) (units : Units) (first_input input input' : InternalFormattedInput) (format : Format) (size left less : ℕ) (pointer : CValue)
    (transfer : Transfer) (meaning : Or Reply) (why : Stop) → SameInput first_input input → left ≡ suc less →
    meaning ≡ each_item size (formatted_item format size) left pointer transfer (world_with now going units) →
    ItemMeans (formatted_item format size pointer transfer (world_with now going units)) next going units text format input input' (Err why) →
    ItemsMean meaning next units text first_input input' (Err why)
stopped-then text now next going units first_input input input' format size left less pointer transfer meaning (stop.Number number) same more is means =
    is ∙ from-next format size left less pointer transfer (world_with now going units) _ more means
    ∙ ap (λ (n : ℤ). Ok (numbered number n input.on_end (world_with next None units))) same.on_error
    ∙ ap (λ (n : ℤ). Ok (numbered number first_input.on_error n (world_with next None units))) same.on_end
stopped-then text now next going units first_input input input' format size left less pointer transfer meaning (stop.Fault fault) same more is means =
    is ∙ from-next format size left less pointer transfer (world_with now going units) (failing fault) more means

pub giving-stops :
    (text : List ℕ) (first_input input input' : InternalFormattedInput) (count size : ℕ) (first : CValue) (left less : ℕ) (pointer : CValue) (old now next : List Object) (why : Stop) →
    left ≡ suc less → GivesItem text input input' now next pointer size (Err why) →
    Giving text first_input input count size first left pointer old now → GivesItems text first_input input' old next count size first (Err why)
giving-stops text first_input input input' count size first left less pointer old now next why more gives before = record {
  same = same-then first_input input input' before.same gives.same;
  inside = gives.inside;
  means = λ units transfer stands going.
      let along = before.means units transfer stands going in
      stopped-then text now next going units first_input input input' stands.format size left less pointer along.transfer
      (each_item size (formatted_item stands.format size) count first transfer (world_with old going units)) why before.same more along.means
      (next-means text input input' stands.format pointer size now next units (Err why) along.transfer going along.stands along.same
      (gives.means units along.transfer along.stands going));
}
