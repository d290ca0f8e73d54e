-- What rows come to on worked examples, and what is told of them.
use Rattle.std.proofs.Common.{◌≡◌, ◌∙◌, ℕ, true, true≢false, List, [], ◌∷◌, inl, inr, Result, Ok, refl, sym, ap, subst, arith}
use Rattle.std.specs.Prelude.{Option, Some, None, codes, slice_index_or}
use Rattle.sqlite.specs.declared.types.Value.TheVariants.{Text}
use Rattle.sqlite.specs.Order.{Row, column}
use Rattle.sqlite_rules.specs.Lists.{Has}
use Rattle.gaz_ids.specs.Numbers.{read_id}
use Rattle.gaz_fields.specs.declared.fields.FieldFault.{FieldFault}
use Rattle.gaz_records.proofs.ItemsBack.{text-back}
use Rattle.gaz_records.specs.Items.{is_item, item_of_text, item_text, kind_of}
use Rattle.gaz_records.specs.Keys.{key_of}
use Rattle.gaz_records.specs.declared.item.Item.{Item}
use Rattle.gaz_records.specs.declared.item.Kind.TheVariants as kind
use Rattle.gaz_records.specs.declared.key.Key.{Key}
use Rattle.gaz_records.specs.declared.key.Key.TheVariants as key
use Rattle.gaz_cells.specs.Digits.{digits_in}
use Rattle.gaz_cells.specs.Ids.{kind_in}
use Rattle.gaz_overlay.specs.declared.touch.Stood.TheVariants.{NoRow, Past}
use Rattle.gaz_tables.specs.Versions.{body_shown, life_shown}
use Rattle.gaz_row_items.specs.Addresses.{Names, ShowsAddress}
use Rattle.gaz_row_items.specs.Decoding.{HasBody, HasItemAt, IsBodyOf, ShowsItem}
use Rattle.gaz_row_items.specs.Examples.{bare_past, changed, changed_101, changed_101_life}
use Rattle.gaz_row_items.specs.Newest.{HasNewest, SaysLife}
use Rattle.gaz_row_items.specs.RowExamples.{WorkedAddresses, WorkedLast, WorkedRows, WorkedShown, WorkedFaults, address, address_row, one_address, street_101, under_102}
use Rattle.gaz_row_items.specs.Versions.{text_in}
use Rattle.gaz_row_items.proofs.Examples.{not_102}

-- ---- what is told

faults_hold : WorkedFaults
faults_hold = record {
  told = λ so. tt;
  told_wrong = λ told. told refl;
  is_wrong = λ so. cc;
  without_memory = λ so. refl;
  told_as_wrong = λ told. let same = told refl in absurd (cc);
  is_as_wrong = λ so. absurd (cc);
}

-- ---- a row of id and body

ok_same : (a b : Item) → ◌≡◌ {A = Result Item FieldFault} (Ok a) (Ok b) → a ≡ b
ok_same a b e = cc

-- an item's own text is no other's
is_its : (k : Key) (x : Item) → is_item x ≡ true → kind_in k ≡ kind_of x → HasBody k (item_text x) → key_of x ≡ k
is_its k x is kinds (y, body) =
    let one : item_of_text (kind_of x) (item_text x) ≡ Ok y = ap (λ q. item_of_text q (item_text x)) (sym kinds) ∙ body.read in
    let same : x ≡ y = ok_same x y (sym (text-back x is) ∙ one) in
    ap key_of same ∙ body.own

-- so the column in which it stands has no other's item
is_there : (r : Row) (place : ℕ) (k : Key) (x : Item) → is_item x ≡ true → kind_in k ≡ kind_of x → column r place ≡ Text (item_text x) → HasItemAt r place k → key_of x ≡ k
is_there r place k x is kinds there (y, at) =
    let text : at.text ≡ item_text x = ap text_in (sym at.there ∙ there) in
    is_its k x is kinds (y, subst (λ t. IsBodyOf k t y) text at.body)

its_own : (x : Item) → is_item x ≡ true → kind_in (key_of x) ≡ kind_of x → IsBodyOf (key_of x) (item_text x) x
its_own x is kinds = record { read = ap (λ q. item_of_text q (item_text x)) kinds ∙ text-back x is; own = refl }

has_101 : HasItemAt street_101 1 (key.Street 101)
has_101 = (changed, record { text = item_text changed; there = refl; body = its_own changed refl refl })

no_102 : (r : Row) (place : ℕ) → column r place ≡ Text (item_text changed) → ¬ HasItemAt r place (key.Street 102)
no_102 r place there has = not_102 (is_there r place (key.Street 102) changed refl refl there has)

shown_holds : WorkedShown
unfolding digits_in read_id
shown_holds = record {
  names_street = record { text = refl; named = refl };
  names_in_english = record { text = refl; named = refl };
  too_few_digits = λ names. true≢false (sym names.named);
  no_language = λ names. true≢false (sym names.named);
  body = (changed, its_own changed refl refl);
  body_of_another = λ has. not_102 (is_its (key.Street 102) changed refl refl has);
  reads = (changed, refl, refl);
  reads_another = λ reads. let e = reads.1 in let own = reads.2 in not_102 (cc);
  reads_none = λ reads. let e = reads.1 in absurd (cc);
  has_item = has_101;
  has_another = no_102 street_101 1 refl;
  no_item = λ has. let there = has.1.there in absurd (cc);
  shows = record { key = key.Street 101; text = refl; named = refl; item = has_101 };
  shows_another = λ shows. let named = shows.named in let is : shows.key ≡ key.Street 102 = cc in no_102 under_102 1 refl (subst (HasItemAt under_102 1) is shows.item);
}

-- ---- addresses

text_named : Option Key → List ℕ
text_named (Some (key.Lpi t)) = t
text_named k = []

not_l4 : ¬ Names (body_shown address_row) (key.Lpi (codes "L4"))
unfolding text_named
not_l4 named =
    let texts : codes "L3" ≡ codes "L4" = ap text_named named in
    let last : ◌≡◌ {A = ℕ} 51 52 = ap (λ t. slice_index_or t 1 0) texts in
    absurd (omega arith)

none_of_l4 : ¬ ShowsAddress one_address (key.Lpi (codes "L4"))
none_of_l4 shows = by_row shows.there
  where
    by_row : Has one_address shows.row → ⊥
    by_row (inl is) = not_l4 (subst (λ r. Names r (key.Lpi (codes "L4"))) is shows.named)
    by_row (inr never) = never

shows_it : ShowsItem kind.Lpi (body_shown address_row)
shows_it = record { key = key.Lpi (codes "L3"); text = refl; named = refl; item = (address, record { text = item_text address; there = refl; body = its_own address refl refl }) }

address_shown : ShowsAddress one_address (key.Lpi (codes "L3"))
address_shown = record { each = each; row = body_shown address_row; there = inl refl; named = refl }
  where
    each : (r : Row) → Has one_address r → ShowsItem kind.Lpi r
    each r (inl is) = subst (ShowsItem kind.Lpi) (sym is) shows_it
    each r (inr never) = absurd never

addresses_hold : WorkedAddresses
addresses_hold = record {
  names = record { text = refl; named = refl };
  no_text = λ names. let text = names.text in absurd (cc);
  shows = address_shown;
  of_another = none_of_l4;
  first = address_shown;
  not_first = none_of_l4;
}

-- ---- a row of born, gone and more

life_101 : SaysLife (key.Street 101) (life_shown changed_101) changed_101_life
life_101 = record { born = refl; gone = refl; item = record { text = item_text changed; there = refl; body = its_own changed refl refl } }

no_body : ¬ HasNewest (key.Street 101) (bare_past ∷ [])
no_body (None, none) = none
no_body (Some life, says) = let there = says.item.there in absurd (cc)

last_hold : WorkedLast
last_hold = record {
  life = (changed_101_life, life_101);
  of_another = λ has. no_102 (life_shown changed_101) 2 refl (has.0.item, has.1.item);
  newest = (Some changed_101_life, life_101);
  no_row = (None, refl);
  no_body = no_body;
  stood = (Past, (2, 4, refl, refl, refl));
  none_stood = (NoRow, refl);
  no_number = λ has. let born = has.1.2 in absurd (cc);
  passage = record { born = refl; live = refl; other = refl; hop = refl; custody = refl; bare = record { language = refl; body = refl } };
  damaged = λ shows. true≢false (sym shows.custody);
}

pub rows_hold : WorkedRows
rows_hold = record { on_faults = faults_hold; on_shown = shown_holds; on_addresses = addresses_hold; on_last = last_hold }
