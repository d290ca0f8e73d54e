-- Items go through their cells and back.
use Rattle.std.proofs.Common.{◌≡◌, inl, inr, ℕ, Bool, true, false, List, [], ◌∷◌, refl, sym, ap, ◌∙◌, Option, Some, None, Result, Ok, Err, arith}
use Rattle.std.specs.Prelude.{◌==◌, if◌then◌else◌}
use Rattle.std.proofs.lemmas.Bool.Decides.{nat_tests}
use Rattle.std.proofs.lemmas.Slice.Eq.{bytes_eq-Decides}
use Rattle.std.specs.List.{AllByRecursion, find}
use Rattle.std.specs.Str.{bytes_eq}
use Rattle.gaz_fields.specs.Fields.{OrMemory}
use Rattle.gaz_fields.specs.declared.fields.FieldFault.{FieldFault}
use Rattle.gaz_fields.proofs.Both.{and-left}
use Rattle.gaz_records.specs.Streets.{read_street}
use Rattle.gaz_records.specs.Descriptors.{read_descriptor}
use Rattle.gaz_records.specs.Blpus.{read_blpu}
use Rattle.gaz_records.specs.Xrefs.{read_xref}
use Rattle.gaz_records.specs.Lpis.{read_lpi}
use Rattle.gaz_records.specs.Releases.{read_release}
use Rattle.gaz_records.specs.Adopts.{read_adopt}
use Rattle.gaz_records.specs.Items.{ItemsReadBack, is_entry, is_item, item_of_row, item_of_text, item_text, kind_of, map_ok, read_item}
use Rattle.gaz_records.specs.Keys.{key_of}
use Rattle.gaz_records.specs.Kinds.{is_entry_kind, number_of}
use Rattle.gaz_records.specs.declared.item.Item.{Item}
use Rattle.gaz_records.specs.declared.item.Item.TheVariants as item
use Rattle.gaz_records.specs.declared.item.Kind.{Kind}
use Rattle.gaz_records.specs.declared.item.Kind.TheVariants as kind
use Rattle.gaz_cells.specs.Ids.{id_of, is_key, kind_in}
use Rattle.gaz_cells.specs.Columns.{CellsValue, blpu_of, cells_of, lang_in, live_of, street_of}
use Rattle.gaz_cells.specs.Laws.{CellsFit, CellsFollow, CellsSayEntries}
use Rattle.gaz_cells.specs.Reading.{agreed, disagreement, entry_kinds, kind_numbered, read_cells, said_in, unless}
use Rattle.gaz_cells.specs.declared.fault.CellFault.{CellFault}

-- ---- from an item

bytes_same : (t : List ℕ) → bytes_eq t t ≡ true
bytes_same t = (bytes_eq-Decides t t).1 refl

number_same : (n : ℕ) → (n == n) ≡ true
number_same n = grind (arith, nat_tests)

pub numbered : (k : Kind) → is_entry_kind k ≡ true → kind_numbered (number_of k) ≡ Some k
numbered kind.Street h = refl
numbered kind.Descriptor h = refl
numbered kind.Blpu h = refl
numbered kind.Xref h = refl
numbered kind.Lpi h = refl
numbered kind.Release h = cc
numbered kind.Adopt h = cc

no_disagreement : (x : Item) → disagreement (cells_of x) x ≡ None
no_disagreement x =
    rw (bytes_same (item_text x), bytes_same (id_of (key_of x)), number_same (blpu_of x), number_same (street_of x), number_same (lang_in x), number_same (live_of x)) refl

pub cells_back : (x : Item) → is_entry x ≡ true → item_of_text (kind_of x) (item_text x) ≡ Ok x → read_cells (cells_of x) ≡ Ok x
unfolding read_cells
cells_back x entry back =
    ap (said_in (cells_of x)) (numbered (kind_of x) entry) ∙ ap (agreed (cells_of x)) back ∙ ap (unless x) (no_disagreement x)

item_key : (x : Item) → is_item x ≡ true → is_entry x ≡ true → is_key (key_of x) ≡ true
item_key (item.Street x) h entry = and-left _ _ (and-left _ _ (and-left _ _ (and-left _ _ h)))
item_key (item.Descriptor x) h entry = and-left _ _ (and-left _ _ (and-left _ _ (and-left _ _ h)))
item_key (item.Blpu x) h entry = and-left _ _ (and-left _ _ (and-left _ _ (and-left _ _ (and-left _ _ (and-left _ _ (and-left _ _ (and-left _ _ h)))))))
item_key (item.Xref x) h entry = and-left _ _ (and-left _ _ (and-left _ _ (and-left _ _ (and-left _ _ (and-left _ _ h)))))
item_key (item.Lpi x) h entry = and-left _ _ (and-left _ _ (and-left _ _ (and-left _ _ (and-left _ _ (and-left _ _ (and-left _ _ h))))))
item_key (item.Release x) h entry = cc
item_key (item.Adopt x) h entry = cc

item_kind : (x : Item) → is_entry x ≡ true → kind_in (key_of x) ≡ kind_of x
item_kind (item.Street x) h = refl
item_kind (item.Descriptor x) h = refl
item_kind (item.Blpu x) h = refl
item_kind (item.Xref x) h = refl
item_kind (item.Lpi x) h = refl
item_kind (item.Release x) h = cc
item_kind (item.Adopt x) h = cc

pub cells_fit : ItemsReadBack → (x : Item) → is_item x ≡ true → is_entry x ≡ true → CellsFit x
cells_fit back x h entry = record { key = item_key x h entry; kind = item_kind x entry; body = (back x h).1 }

-- ---- from cells

passed : {A : Type 0} (b : Bool) (o : Option A) (f : A) → (if b then o else Some f) ≡ None → (b ≡ true) × (o ≡ None)
passed true o f e = (refl, e)
passed false o f e = cc

found : {X : Type 0} (p : X → Bool) (y x : X) (ys : List X) (b : Bool) → p y ≡ b → (if b then Some y else find p ys) ≡ Some x → (find p ys ≡ Some x → p x ≡ true) → p x ≡ true
found p y x ys true h e rest = let same : y ≡ x = cc in ap p (sym same) ∙ h
found p y x ys false h e rest = rest e

find_passes : {X : Type 0} (p : X → Bool) (xs : List X) (x : X) → find p xs ≡ Some x → p x ≡ true
find_passes p [] x e = cc
find_passes p (y ∷ ys) x e = found p y x ys (p y) refl e (find_passes p ys x)

number_is : (n : ℕ) (k : Kind) → kind_numbered n ≡ Some k → number_of k ≡ n
number_is n k e =
    let test : (n == number_of k) ≡ true = find_passes (λ k. n == number_of k) entry_kinds k e in
    grind (arith, nat_tests)

mapped : {A B E : Type 0} (f : A → B) (r : Result A E) (y : B) → map_ok f r ≡ Ok y → (x : A) × (f x ≡ y)
mapped f (Ok x) y e = (x, cc)
mapped f (Err x) y e = cc

kind_read : (k : Kind) (f : List (List ℕ)) (x : Item) → read_item k f ≡ Ok x → kind_of x ≡ k
kind_read kind.Street f x e = let p = mapped item.Street (read_street f) x e in ap kind_of (sym p.1)
kind_read kind.Descriptor f x e = let p = mapped item.Descriptor (read_descriptor f) x e in ap kind_of (sym p.1)
kind_read kind.Blpu f x e = let p = mapped item.Blpu (read_blpu f) x e in ap kind_of (sym p.1)
kind_read kind.Xref f x e = let p = mapped item.Xref (read_xref f) x e in ap kind_of (sym p.1)
kind_read kind.Lpi f x e = let p = mapped item.Lpi (read_lpi f) x e in ap kind_of (sym p.1)
kind_read kind.Release f x e = let p = mapped item.Release (read_release f) x e in ap kind_of (sym p.1)
kind_read kind.Adopt f x e = let p = mapped item.Adopt (read_adopt f) x e in ap kind_of (sym p.1)

-- what is read as a kind is of the kind
pub kind_read_in : (k : Kind) (f : List (List ℕ)) (x : Item) → OrMemory (Ok x) (read_item k f) → kind_of x ≡ k
kind_read_in k f x (inl e) = kind_read k f x (sym e)
kind_read_in k f x (inr e) = cc

kind_said : (k : Kind) (row : Option (List (List ℕ))) (x : Item) → item_of_row k row ≡ Ok x → kind_of x ≡ k
kind_said k None x e = cc
kind_said k (Some f) x e = kind_read k f x e

bytes_are : (a b : List ℕ) → bytes_eq a b ≡ true → b ≡ a
bytes_are a b h = sym ((bytes_eq-Decides a b).0 h)

number_as : (a b : ℕ) → (a == b) ≡ true → b ≡ a
number_as a b h = grind (arith, nat_tests)

-- an item from which no cell differs
same_cells : (c : CellsValue) (x : Item) → number_of (kind_of x) ≡ c.kind → disagreement c x ≡ None → cells_of x ≡ c
same_cells c x kind e =
    let body = passed _ _ _ e in
    let id = passed _ _ _ body.1 in
    let blpu = passed _ _ _ id.1 in
    let street = passed _ _ _ blpu.1 in
    let lang = passed _ _ _ street.1 in
    let live = passed _ _ _ lang.1 in
    let bodies = bytes_are _ _ body.0 in
    let ids = bytes_are _ _ id.0 in
    let blpus = number_as _ _ blpu.0 in
    let streets = number_as _ _ street.0 in
    let langs = number_as _ _ lang.0 in
    let lives = number_as _ _ live.0 in
    λ i. record { kind = kind i; id = ids i; links = record { blpu = blpus i; street = streets i; lang = langs i; live = lives i }; body = bodies i }

agrees : (c : CellsValue) (k : Kind) (x y : Item) (o : Option CellFault) → number_of k ≡ c.kind → kind_of y ≡ k → disagreement c y ≡ o → unless y o ≡ Ok x → cells_of x ≡ c
agrees c k x y None n kind d e =
    let same : y ≡ x = cc in
    ap cells_of (sym same) ∙ same_cells c y (ap number_of kind ∙ n) d
agrees c k x y (Some f) n kind d e = cc

said : (c : CellsValue) (k : Kind) (x : Item) (r : Result Item FieldFault) → number_of k ≡ c.kind → item_of_text k c.body ≡ r → agreed c r ≡ Ok x → cells_of x ≡ c
said c k x (Ok y) n t e = agrees c k x y (disagreement c y) n (kind_said k _ y t) refl e
said c k x (Err f) n t e = cc

follow : (c : CellsValue) (x : Item) (o : Option Kind) → kind_numbered c.kind ≡ o → said_in c o ≡ Ok x → cells_of x ≡ c
follow c x None k e = cc
follow c x (Some kind) k e = said c kind x (item_of_text kind c.body) (number_is c.kind kind k) refl e

pub cells_follow : CellsFollow
unfolding read_cells
cells_follow c x e = follow c x (kind_numbered c.kind) refl e

-- ---- what cells say

-- one that is found has what each has
found_has : {X : Type 0} (p q : X → Bool) (y x : X) (ys : List X) (b : Bool) → q y ≡ true → (if b then Some y else find p ys) ≡ Some x → (find p ys ≡ Some x → q x ≡ true) → q x ≡ true
found_has p q y x ys true h e rest = let same : y ≡ x = cc in ap q (sym same) ∙ h
found_has p q y x ys false h e rest = rest e

find_has : {X : Type 0} (p q : X → Bool) (xs : List X) (x : X) → AllByRecursion (λ y. q y ≡ true) xs → find p xs ≡ Some x → q x ≡ true
find_has p q [] x all e = cc
find_has p q (y ∷ ys) x all e = found_has p q y x ys (p y) all.0 e (find_has p q ys x all.1)

entry_found : (n : ℕ) (k : Kind) → kind_numbered n ≡ Some k → is_entry_kind k ≡ true
entry_found n k e = find_has (λ k. n == number_of k) is_entry_kind entry_kinds k (refl, (refl, (refl, (refl, (refl, tt))))) e

entry_agreed : (x y : Item) (o : Option CellFault) → is_entry y ≡ true → unless y o ≡ Ok x → is_entry x ≡ true
entry_agreed x y None h e = let same : y ≡ x = cc in ap is_entry (sym same) ∙ h
entry_agreed x y (Some f) h e = cc

entry_read : (c : CellsValue) (k : Kind) (x : Item) (r : Result Item FieldFault) → is_entry_kind k ≡ true → item_of_text k c.body ≡ r → agreed c r ≡ Ok x → is_entry x ≡ true
entry_read c k x (Ok y) h t e = entry_agreed x y (disagreement c y) (ap is_entry_kind (kind_said k _ y t) ∙ h) e
entry_read c k x (Err f) h t e = cc

entry_said : (c : CellsValue) (x : Item) (o : Option Kind) → kind_numbered c.kind ≡ o → said_in c o ≡ Ok x → is_entry x ≡ true
entry_said c x None k e = cc
entry_said c x (Some kind) k e = entry_read c kind x (item_of_text kind c.body) (entry_found c.kind kind k) refl e

pub cells_say_entries : CellsSayEntries
unfolding read_cells
cells_say_entries c x e = entry_said c x (kind_numbered c.kind) refl e
