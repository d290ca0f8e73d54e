-- What the fields of a record say is an item that the table allows.
use Rattle.std.proofs.Common.{◌≡◌, ℕ, ◌+◌, Bool, true, false, List, [], ◌∷◌, length, refl, ◌∙◌, subst, Some, None, Ok, Err}
use Rattle.std.specs.Prelude.{◌==◌, is_some, Option, if◌then◌else◌, Result}
use Rattle.gaz_fields.specs.Forms.{Form, first_bad, in_form, says, total_width, unless_bad, width}
use Rattle.gaz_fields.specs.declared.fields.FieldFault.{FieldFault}
use Rattle.gaz_fields.specs.declared.fields.FieldFault.TheVariants as fault
use Rattle.gaz_fields.proofs.Both.{and-both, and-right}
use Rattle.gaz_fields.proofs.ReadObjects.{object-fits}
use Rattle.gaz_fields.proofs.ReadFields.{blpu_status-fits, day-fits, end-fits, label-fits, number-fits, opt_text-fits, text-fits}
use Rattle.gaz_records.specs.Streets.{is_street, read_street, street_said}
use Rattle.gaz_records.specs.Descriptors.{descriptor_said, is_descriptor, read_descriptor}
use Rattle.gaz_records.specs.Blpus.{blpu_said, is_blpu, read_blpu}
use Rattle.gaz_records.specs.Xrefs.{is_xref, read_xref, xref_said}
use Rattle.gaz_records.specs.Lpis.{is_lpi, lpi_said, read_lpi}
use Rattle.gaz_records.specs.Releases.{is_release, read_release, release_said}
use Rattle.gaz_records.specs.Adopts.{adopt_said, is_adopt, read_adopt}
use Rattle.gaz_records.specs.Items.{ReadsItems, is_item, kind_of, map_ok}
use Rattle.gaz_records.specs.Table.{adopt_table, blpu_table, descriptor_table, lpi_table, release_table, street_table, xref_table}
use Rattle.gaz_records.specs.declared.item.Item.{Item}
use Rattle.gaz_records.specs.declared.item.Item.TheVariants as item
use Rattle.gaz_records.specs.declared.item.Kind.{Kind}
use Rattle.gaz_records.specs.declared.item.Kind.TheVariants as kind
use Rattle.gaz_records.proofs.LeftOut.{opt_object-fits, parent-fits}

-- where fields are in their forms, none is bad, and what they say is what is answered
record InForm {A : Type 0} (forms : List Form) (f : List (List ℕ)) (said answer : A) : Type 0 where
  none : first_bad forms f 0 ≡ None
  same : said ≡ answer

in_form-kept : {A : Type 0} (forms : List Form) (f : List (List ℕ)) (said answer : A) → in_form forms f said ≡ Ok answer → InForm forms f said answer
in_form-kept forms f said answer h = by_count (length f == total_width forms) h
  where
    by_bad : (o : Option ℕ) → first_bad forms f 0 ≡ o → unless_bad o said ≡ Ok answer → InForm forms f said answer
    by_bad None e h = record { none = e; same = cc h }
    by_bad (Some n) e h = cc h

    by_count : (b : Bool) → (if b then unless_bad (first_bad forms f 0) said else Err fault.Count) ≡ Ok answer → InForm forms f said answer
    by_count true h = by_bad (first_bad forms f 0) refl h
    by_count false h = cc h

-- each field is in its form
abbrev AreSaid : List Form → List (List ℕ) → ℕ → Type 0
AreSaid [] f i = Unit {0}
AreSaid (form ∷ forms) f i = (is_some (says form f i) ≡ true) × AreSaid forms f (i + width form)

one-said : (form : Form) (forms : List Form) (f : List (List ℕ)) (i : ℕ) (b : Bool) → is_some (says form f i) ≡ b
    → (if b then first_bad forms f (i + width form) else Some (i + 1)) ≡ None → (is_some (says form f i) ≡ true) × (first_bad forms f (i + width form) ≡ None)
one-said form forms f i true e h = (e, h)
one-said form forms f i false e h = cc h

are-said : (forms : List Form) (f : List (List ℕ)) (i : ℕ) → first_bad forms f i ≡ None → AreSaid forms f i
are-said [] f i h = tt
are-said (form ∷ forms) f i h =
    let k = one-said form forms f i (is_some (says form f i)) refl h in
    (k.0, are-said forms f (i + width form) k.1)

-- what is answered is what fields in their forms say
answered : {A : Type 0} (forms : List Form) (f : List (List ℕ)) (is : A → Bool) (said answer : A) → (AreSaid forms f 0 → is said ≡ true) → in_form forms f said ≡ Ok answer → is answer ≡ true
answered forms f is said answer fits h =
    let k = in_form-kept forms f said answer h in
    subst (λ x. is x ≡ true) k.same (fits (are-said forms f 0 k.none))

street-said : (f : List (List ℕ)) → AreSaid street_table f 0 → is_street (street_said f) ≡ true
street-said f (usrn, (street_type, (start, (end, done)))) =
    let ends = end-fits f 3 end in
    and-both _ _ (and-both _ _ (and-both _ _ (and-both _ _ (number-fits f 0 8 1 99_999_999 usrn) (number-fits f 1 1 1 4 street_type)) (day-fits f 2 start)) ends.days) ends.order

descriptor-said : (f : List (List ℕ)) → AreSaid descriptor_table f 0 → is_descriptor (descriptor_said f) ≡ true
descriptor-said f (usrn, (lang, (description, (locality, (town, (area, done)))))) =
    and-both _ _ (and-both _ _ (and-both _ _ (and-both _ _ (number-fits f 0 8 1 99_999_999 usrn) (text-fits f 2 100 description)) (opt_text-fits f 3 35 locality)) (opt_text-fits f 4 30 town))
    (text-fits f 5 30 area)

blpu-said : (f : List (List ℕ)) → AreSaid blpu_table f 0 → is_blpu (blpu_said f 1) ≡ true
blpu-said f (uprn, (status, (easting, (northing, (parent, (postcode, (start, (end, done)))))))) =
    let ends = end-fits f 7 end in
    and-both _ _ (and-both _ _ (and-both _ _ (and-both _ _ (and-both _ _ (and-both _ _ (and-both _ _ (and-both _ _
    (number-fits f 0 12 1 999_999_999_999 uprn)
    (blpu_status-fits f 1 status))
    (and-right _ _ (number-fits f 2 6 0 700_000 easting)))
    (and-right _ _ (number-fits f 3 7 0 1_300_000 northing)))
    (parent-fits f 4 parent))
    (opt_text-fits f 5 8 postcode))
    (day-fits f 6 start))
    ends.days)
    ends.order

xref-said : (f : List (List ℕ)) → AreSaid xref_table f 0 → is_xref (xref_said f) ≡ true
xref-said f (key, (uprn, (source, (reference, (start, (end, done)))))) =
    let ends = end-fits f 5 end in
    and-both _ _ (and-both _ _ (and-both _ _ (and-both _ _ (and-both _ _ (and-both _ _
    (label-fits f 0 14 key)
    (number-fits f 1 12 1 999_999_999_999 uprn))
    (label-fits f 2 6 source))
    (text-fits f 3 50 reference))
    (day-fits f 4 start))
    ends.days)
    ends.order

lpi-said : (f : List (List ℕ)) → AreSaid lpi_table f 0 → is_lpi (lpi_said f) ≡ true
lpi-said f (key, (uprn, (lang, (status, (usrn, (secondary, (primary, (start, (end, done))))))))) =
    let ends = end-fits f 16 end in
    and-both _ _ (and-both _ _ (and-both _ _ (and-both _ _ (and-both _ _ (and-both _ _ (and-both _ _
    (label-fits f 0 14 key)
    (number-fits f 1 12 1 999_999_999_999 uprn))
    (number-fits f 4 8 1 99_999_999 usrn))
    (opt_object-fits f 5 secondary))
    (object-fits f 10 primary))
    (day-fits f 15 start))
    ends.days)
    ends.order

release-said : (f : List (List ℕ)) → AreSaid release_table f 0 → is_release (release_said f) ≡ true
release-said f (uprn, (to, (hop, done))) =
    and-both _ _ (and-both _ _ (number-fits f 0 12 1 999_999_999_999 uprn) (number-fits f 1 4 1 9999 to)) (number-fits f 2 4 1 9999 hop)

adopt-said : (f : List (List ℕ)) → AreSaid adopt_table f 0 → is_adopt (adopt_said f) ≡ true
adopt-said f (uprn, (from, (hop, (status, (easting, (northing, (parent, (postcode, (start, (end, done)))))))))) =
    let ends = end-fits f 9 end in
    and-both _ _ (and-both _ _ (and-both _ _ (and-both _ _ (and-both _ _ (and-both _ _ (and-both _ _ (and-both _ _ (and-both _ _ (and-both _ _
    (number-fits f 0 12 1 999_999_999_999 uprn)
    (blpu_status-fits f 3 status))
    (and-right _ _ (number-fits f 4 6 0 700_000 easting)))
    (and-right _ _ (number-fits f 5 7 0 1_300_000 northing)))
    (parent-fits f 6 parent))
    (opt_text-fits f 7 8 postcode))
    (day-fits f 8 start))
    ends.days)
    ends.order)
    (number-fits f 1 4 1 9999 from))
    (number-fits f 2 4 1 9999 hop)

-- the item of a kind
made : {A : Type 0} (k : Kind) (item : A → Item) (is : A → Bool) → ((x : A) → kind_of (item x) ≡ k) → ((x : A) → is_item (item x) ≡ is x)
    → (r : Result A FieldFault) → ((x : A) → r ≡ Ok x → is x ≡ true) → (x : Item) → map_ok item r ≡ Ok x → (kind_of x ≡ k) × (is_item x ≡ true)
made k item is kinds same (Ok v) fits x h =
    let it : item v ≡ x = cc h in
    subst (λ x. (kind_of x ≡ k) × (is_item x ≡ true)) it (kinds v, same v ∙ fits v refl)
made k item is kinds same (Err e) fits x h = cc h

pub reads_items : ReadsItems
unfolding read_street read_descriptor read_blpu read_xref read_lpi read_release read_adopt
reads_items kind.Street f x h = made kind.Street item.Street is_street (λ x. refl) (λ x. refl) (read_street f) (λ v e. answered street_table f is_street (street_said f) v (street-said f) e) x h
reads_items kind.Descriptor f x h =
    made kind.Descriptor item.Descriptor is_descriptor (λ x. refl) (λ x. refl) (read_descriptor f)
    (λ v e. answered descriptor_table f is_descriptor (descriptor_said f) v (descriptor-said f) e) x h
reads_items kind.Blpu f x h = made kind.Blpu item.Blpu is_blpu (λ x. refl) (λ x. refl) (read_blpu f) (λ v e. answered blpu_table f is_blpu (blpu_said f 1) v (blpu-said f) e) x h
reads_items kind.Xref f x h = made kind.Xref item.Xref is_xref (λ x. refl) (λ x. refl) (read_xref f) (λ v e. answered xref_table f is_xref (xref_said f) v (xref-said f) e) x h
reads_items kind.Lpi f x h = made kind.Lpi item.Lpi is_lpi (λ x. refl) (λ x. refl) (read_lpi f) (λ v e. answered lpi_table f is_lpi (lpi_said f) v (lpi-said f) e) x h
reads_items kind.Release f x h =
    made kind.Release item.Release is_release (λ x. refl) (λ x. refl) (read_release f) (λ v e. answered release_table f is_release (release_said f) v (release-said f) e) x h
reads_items kind.Adopt f x h = made kind.Adopt item.Adopt is_adopt (λ x. refl) (λ x. refl) (read_adopt f) (λ v e. answered adopt_table f is_adopt (adopt_said f) v (adopt-said f) e) x h
