-- What names a BLPU in a view: LPIs and cross references, and the BLPUs that are parts of it.
use Rattle.std.proofs.Common.{◌≡◌, ℕ, true, false, refl, sym, ap, ◌∙◌, true≢false, eqb-true, eq-eqb}
use Rattle.std.specs.Prelude.{◌==◌, Option, Some, None}
use Rattle.std.specs.Option.{option_map_or}
use Rattle.std.specs.FinMap as fin
use Rattle.gaz_records.proofs.KeyOrder.{keys_exact, keys_total}
use Rattle.gaz_records.specs.Blpus.{BlpuValue}
use Rattle.gaz_records.specs.declared.item.Item.{Item}
use Rattle.gaz_records.specs.declared.item.Item.TheVariants as item
use Rattle.gaz_records.specs.declared.key.Key.{Key}
use Rattle.gaz_records.specs.declared.key.Key.TheVariants as key
use Rattle.gaz_views.specs.View.{View}
use Rattle.gaz_views.specs.Words.{blpu_named, has_children, is_child_of, names, tied}
use Rattle.gaz_end_rules.specs.EndRules.{as_blpu, blpu_at, parent_of}
use Rattle.gaz_end_rules.proofs.Keys.{any_from, any_gives}
use Rattle.gaz_end_rules.proofs.Booleans.{and_then_gives}

pub a_blpu : (i : Item) (b : BlpuValue) → as_blpu i ≡ Some b → i ≡ item.Blpu b
a_blpu (item.Street t) b e = cc
a_blpu (item.Descriptor t) b e = cc
a_blpu (item.Blpu t) b e = let is : t ≡ b = cc in ap item.Blpu is
a_blpu (item.Xref t) b e = cc
a_blpu (item.Lpi t) b e = cc
a_blpu (item.Release t) b e = cc
a_blpu (item.Adopt t) b e = cc

-- ---- LPIs and cross references

named_told : (uprn : ℕ) (i : Item) → names uprn i ≡ true → blpu_named i ≡ Some uprn
named_told uprn (item.Street t) e = absurd (true≢false (sym e))
named_told uprn (item.Descriptor t) e = absurd (true≢false (sym e))
named_told uprn (item.Blpu t) e = absurd (true≢false (sym e))
named_told uprn (item.Xref t) e = ap Some (eqb-true _ _ e)
named_told uprn (item.Lpi t) e = ap Some (eqb-true _ _ e)
named_told uprn (item.Release t) e = absurd (true≢false (sym e))
named_told uprn (item.Adopt t) e = absurd (true≢false (sym e))

named_from : (uprn : ℕ) (i : Item) → blpu_named i ≡ Some uprn → names uprn i ≡ true
named_from uprn (item.Street t) e = cc
named_from uprn (item.Descriptor t) e = cc
named_from uprn (item.Blpu t) e = cc
named_from uprn (item.Xref t) e = let is : t.uprn ≡ uprn = cc in eq-eqb _ _ is
named_from uprn (item.Lpi t) e = let is : t.uprn ≡ uprn = cc in eq-eqb _ _ is
named_from uprn (item.Release t) e = cc
named_from uprn (item.Adopt t) e = cc

pub record TiedBy (v : View) (uprn : ℕ) : Type 0 where
  pub key : Key
  pub item : Item
  pub there : fin.get v.items key ≡ Some item
  pub names : blpu_named item ≡ Some uprn

pub tied_gives : (v : View) (uprn : ℕ) → tied v uprn ≡ true → TiedBy v uprn
tied_gives v uprn h =
    let some = any_gives keys_total keys_exact (λ e. names uprn e.1) v.items h in
    record { key = some.key; item = some.value; there = some.got; names = named_told uprn some.value some.passes }

pub tied_from : (v : View) (uprn : ℕ) (k : Key) (i : Item) → fin.get v.items k ≡ Some i → blpu_named i ≡ Some uprn → tied v uprn ≡ true
tied_from v uprn k i there is = any_from keys_total keys_exact (λ e. names uprn e.1) v.items k i there (named_from uprn i is)

-- ---- parts

parent_told : (o : Option ℕ) (uprn : ℕ) → option_map_or (λ p. p == uprn) o false ≡ true → o ≡ Some uprn
parent_told None uprn e = absurd (true≢false (sym e))
parent_told (Some p) uprn e = ap Some (eqb-true _ _ e)

part_told : (uprn : ℕ) (i : Item) → is_child_of uprn i ≡ true → (b : BlpuValue) × (i ≡ item.Blpu b) × (b.parent ≡ Some uprn)
part_told uprn (item.Street t) e = absurd (true≢false (sym e))
part_told uprn (item.Descriptor t) e = absurd (true≢false (sym e))
part_told uprn (item.Blpu t) e = (t, refl, parent_told t.parent uprn e)
part_told uprn (item.Xref t) e = absurd (true≢false (sym e))
part_told uprn (item.Lpi t) e = absurd (true≢false (sym e))
part_told uprn (item.Release t) e = absurd (true≢false (sym e))
part_told uprn (item.Adopt t) e = absurd (true≢false (sym e))

pub record PartOf (v : View) (uprn : ℕ) : Type 0 where
  pub key : Key
  pub blpu : BlpuValue
  pub there : fin.get v.items key ≡ Some (item.Blpu blpu)
  pub is_part : blpu.parent ≡ Some uprn

pub parts_gives : (v : View) (uprn : ℕ) → has_children v uprn ≡ true → PartOf v uprn
parts_gives v uprn h =
    let some = any_gives keys_total keys_exact (λ e. is_child_of uprn e.1) v.items h in
    let part = part_told uprn some.value some.passes in
    record { key = some.key; blpu = part.0; there = some.got ∙ ap Some part.1; is_part = part.2 }

pub parts_from : (v : View) (uprn : ℕ) (k : Key) (b : BlpuValue) → fin.get v.items k ≡ Some (item.Blpu b) → b.parent ≡ Some uprn → has_children v uprn ≡ true
parts_from v uprn k b there is =
    any_from keys_total keys_exact (λ e. is_child_of uprn e.1) v.items k (item.Blpu b) there
    (ap (λ o. option_map_or (λ p. p == uprn) o false) is ∙ eq-eqb uprn uprn refl)

-- a BLPU with a parent
pub part_at : (v : View) (uprn parent : ℕ) → parent_of v uprn ≡ Some parent → (b : BlpuValue) × (fin.get v.items (key.Blpu uprn) ≡ Some (item.Blpu b)) × (b.parent ≡ Some parent)
part_at v uprn parent e =
    let b = and_then_gives (λ b. b.parent) (blpu_at v uprn) parent e in
    let at = and_then_gives as_blpu (fin.get v.items (key.Blpu uprn)) b.0 b.1 in
    (b.0, at.1 ∙ ap Some (a_blpu at.0 b.0 at.2), b.2)
