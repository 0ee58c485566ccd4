-- Which of what is given to a name excludes each other.
use Rattle.std.specs.Prelude.{◌≡◌, false, ◌||◌}
use Rattle.std.proofs.Common.{refl, ap}
use Rattle.declaration_rows.specs.GivenRows as rows
use Rattle.declaration_rows.specs.GivenRows.{agrees_with, exclude}
use Rattle.given_judge.specs.declared.gifts.Barred.{Barred}
use Rattle.given_judge.specs.GiftsSeen.{bars}

pub constant_alone : (g : rows.Gift) → agrees_with rows.ConstantOf g ≡ false
unfolding agrees_with
constant_alone g = refl

pub external_alone : (g : rows.Gift) → agrees_with rows.ExternalOf g ≡ false
unfolding agrees_with
external_alone g = refl

pub intrinsic_alone : (g : rows.Gift) → agrees_with rows.IntrinsicOf g ≡ false
unfolding agrees_with
intrinsic_alone g = refl

pub definition_alone : (g : rows.Gift) → agrees_with rows.DefinitionOf g ≡ false
unfolding agrees_with
definition_alone g = refl

pub ruleset alone = (constant_alone, external_alone, intrinsic_alone, definition_alone)

-- what is barred, one by one
pub barred_also : (b after : Barred) (k : rows.Gift) → after.type_of ≡ (b.type_of || exclude k rows.TypeOf) → after.dimensions ≡ (b.dimensions || exclude k rows.DimensionsOf)
    → after.common ≡ (b.common || exclude k rows.InCommon) → after.constant ≡ (b.constant || exclude k rows.ConstantOf) → after.dummy ≡ (b.dummy || exclude k rows.DummyOf)
    → after.result ≡ (b.result || exclude k rows.ResultOf) → after.unit ≡ (b.unit || exclude k rows.UnitOf) → after.external ≡ (b.external || exclude k rows.ExternalOf)
    → after.intrinsic ≡ (b.intrinsic || exclude k rows.IntrinsicOf) → after.saved ≡ (b.saved || exclude k rows.SavedOf) → after.data ≡ (b.data || exclude k rows.DataOf)
    → after.equivalenced ≡ (b.equivalenced || exclude k rows.EquivalencedOf) → after.definition ≡ (b.definition || exclude k rows.DefinitionOf)
    → (g : rows.Gift) → bars after g ≡ (bars b g || exclude k g)
unfolding bars
barred_also b after k e1 e2 e3 e4 e5 e6 e7 e8 e9 e10 e11 e12 e13 rows.TypeOf = e1
barred_also b after k e1 e2 e3 e4 e5 e6 e7 e8 e9 e10 e11 e12 e13 rows.DimensionsOf = e2
barred_also b after k e1 e2 e3 e4 e5 e6 e7 e8 e9 e10 e11 e12 e13 rows.InCommon = e3
barred_also b after k e1 e2 e3 e4 e5 e6 e7 e8 e9 e10 e11 e12 e13 rows.ConstantOf = e4
barred_also b after k e1 e2 e3 e4 e5 e6 e7 e8 e9 e10 e11 e12 e13 rows.DummyOf = e5
barred_also b after k e1 e2 e3 e4 e5 e6 e7 e8 e9 e10 e11 e12 e13 rows.ResultOf = e6
barred_also b after k e1 e2 e3 e4 e5 e6 e7 e8 e9 e10 e11 e12 e13 rows.UnitOf = e7
barred_also b after k e1 e2 e3 e4 e5 e6 e7 e8 e9 e10 e11 e12 e13 rows.ExternalOf = e8
barred_also b after k e1 e2 e3 e4 e5 e6 e7 e8 e9 e10 e11 e12 e13 rows.IntrinsicOf = e9
barred_also b after k e1 e2 e3 e4 e5 e6 e7 e8 e9 e10 e11 e12 e13 rows.SavedOf = e10
barred_also b after k e1 e2 e3 e4 e5 e6 e7 e8 e9 e10 e11 e12 e13 rows.DataOf = e11
barred_also b after k e1 e2 e3 e4 e5 e6 e7 e8 e9 e10 e11 e12 e13 rows.EquivalencedOf = e12
barred_also b after k e1 e2 e3 e4 e5 e6 e7 e8 e9 e10 e11 e12 e13 rows.DefinitionOf = e13

pub bars_nothing : (b : Barred) → b ≡ record { type_of = false; dimensions = false; common = false; constant = false; dummy = false; result = false; unit = false; external = false; intrinsic = false; saved = false; «data» = false; equivalenced = false; definition = false }
    → (g : rows.Gift) → bars b g ≡ false
unfolding bars
bars_nothing b is rows.TypeOf = ap (λ (c : Barred). c.type_of) is
bars_nothing b is rows.DimensionsOf = ap (λ (c : Barred). c.dimensions) is
bars_nothing b is rows.InCommon = ap (λ (c : Barred). c.common) is
bars_nothing b is rows.ConstantOf = ap (λ (c : Barred). c.constant) is
bars_nothing b is rows.DummyOf = ap (λ (c : Barred). c.dummy) is
bars_nothing b is rows.ResultOf = ap (λ (c : Barred). c.result) is
bars_nothing b is rows.UnitOf = ap (λ (c : Barred). c.unit) is
bars_nothing b is rows.ExternalOf = ap (λ (c : Barred). c.external) is
bars_nothing b is rows.IntrinsicOf = ap (λ (c : Barred). c.intrinsic) is
bars_nothing b is rows.SavedOf = ap (λ (c : Barred). c.saved) is
bars_nothing b is rows.DataOf = ap (λ (c : Barred). c.data) is
bars_nothing b is rows.EquivalencedOf = ap (λ (c : Barred). c.equivalenced) is
bars_nothing b is rows.DefinitionOf = ap (λ (c : Barred). c.definition) is
