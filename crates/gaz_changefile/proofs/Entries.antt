-- Where the header doesn't name profile 2, each change is of an entry.
use Rattle.std.proofs.Common.{◌≡◌, ◌≢◌, ℕ, suc, true, false, List, [], ◌∷◌, refl, arith, Option, Some, None, Result, Ok, Err, ap, ◌∙◌, sym, inl, inr, take}
use Rattle.std.specs.Prelude.{◌==◌, codes}
use Rattle.std.specs.List.{All, enumerate_from, filter_map, list_any}
use Rattle.std.specs.Str.{bytes_eq}
use Rattle.std.proofs.lemmas.Bool.{cases_Bool}
use Rattle.std.proofs.lemmas.Bool.Decides.{nat_tests}
use Rattle.gaz_rows.specs.Rows.{Fields}
use Rattle.gaz_fields.specs.declared.fields.FieldFault.{FieldFault}
use Rattle.gaz_records.specs.Adopts.{read_adopt}
use Rattle.gaz_records.specs.Blpus.{read_blpu}
use Rattle.gaz_records.specs.Descriptors.{read_descriptor}
use Rattle.gaz_records.specs.Items.{is_entry, kind_of, map_ok, read_item}
use Rattle.gaz_records.specs.Kinds.{identified, is_entry_kind}
use Rattle.gaz_records.specs.Lpis.{read_lpi}
use Rattle.gaz_records.specs.Releases.{read_release}
use Rattle.gaz_records.specs.Streets.{read_street}
use Rattle.gaz_records.specs.Xrefs.{read_xref}
use Rattle.gaz_records.specs.declared.item.Item.{Item}
use Rattle.gaz_records.specs.declared.item.Item.TheVariants as item
use Rattle.gaz_records.specs.declared.item.Kind.{Kind}
use Rattle.gaz_records.specs.declared.item.Kind.TheVariants as kind
use Rattle.gaz_changefile.specs.Contents.{change_at, change_from, change_of, contents_of}
use Rattle.gaz_changefile.specs.Laws.{BeginsPassing, EntriesAlone}
use Rattle.gaz_changefile.specs.Lines.{field, has_kind, is_trailer, line_from, line_of, profile_named}
use Rattle.gaz_changefile.specs.Rules.{Before, before_of, later_rules, rules_at}
use Rattle.gaz_changefile.specs.declared.action.Action.{Action}
use Rattle.gaz_changefile.specs.declared.change.Change.{Change}
use Rattle.gaz_changefile.specs.declared.line.Line.TheVariants as line
use Rattle.gaz_changefile.proofs.RecordsBack.{cons_all}

-- an item that was read is of the kind that it was read as
mapped : {A B E : Type 0} (f : A → B) (r : Result A E) (y : B) → map_ok f r ≡ Ok y → (x : A) × (f x ≡ y)
mapped f (Ok x) y e = (x, cc e)
mapped f (Err x) y e = cc e

kind_read : (k : Kind) (f : List (List ℕ)) (x : Item) → read_item k f ≡ Ok x → kind_of x ≡ k
kind_read kind.Street f x e = let p = mapped item.Street (read_street f) x e in ap kind_of (sym p.1)
kind_read kind.Descriptor f x e = let p = mapped item.Descriptor (read_descriptor f) x e in ap kind_of (sym p.1)
kind_read kind.Blpu f x e = let p = mapped item.Blpu (read_blpu f) x e in ap kind_of (sym p.1)
kind_read kind.Xref f x e = let p = mapped item.Xref (read_xref f) x e in ap kind_of (sym p.1)
kind_read kind.Lpi f x e = let p = mapped item.Lpi (read_lpi f) x e in ap kind_of (sym p.1)
kind_read kind.Release f x e = let p = mapped item.Release (read_release f) x e in ap kind_of (sym p.1)
kind_read kind.Adopt f x e = let p = mapped item.Adopt (read_adopt f) x e in ap kind_of (sym p.1)

kind_said : (place : ℕ) (a : Option Action) (k : Kind) (f : List (List ℕ)) (r : Result Item FieldFault) → read_item k f ≡ r → (x : Change) → change_from place a r ≡ Some x
    → kind_of x.item ≡ k
kind_said place None k f r e x h = cc h
kind_said place (Some a) k f (Err n) e x h = cc h
kind_said place (Some a) k f (Ok i) e x h =
    let q : record { place = place; action = a; item = i } ≡ x = cc h in
    ap (λ (y : Change). kind_of y.item) (sym q) ∙ kind_read k f i e

-- other profiles than 2 have the kinds of entries alone
entry_kind : (pr : ℕ) (k : Kind) → pr ≢ 2 → has_kind pr k ≡ true → is_entry_kind k ≡ true
entry_kind pr kind.Street n h = refl
entry_kind pr kind.Descriptor n h = refl
entry_kind pr kind.Blpu n h = refl
entry_kind pr kind.Xref n h = refl
entry_kind pr kind.Lpi n h = refl
entry_kind pr kind.Release n h = let e : pr ≡ 2 = grind (arith, nat_tests, h) in absurd (n e)
entry_kind pr kind.Adopt n h = let e : pr ≡ 2 = grind (arith, nat_tests, h) in absurd (n e)

by_kind : (pr place : ℕ) (row : Fields) (text : List ℕ) (o : Option Kind) (x : Change) → pr ≢ 2 → change_of place row (line_from pr text o) ≡ Some x → is_entry x.item ≡ true
by_kind pr place row text None x n h = elim (cases_Bool (bytes_eq text (codes "90"))) [
  | inl basis ↦ cc (rw basis at h)
  | inr other ↦ elim (cases_Bool (bytes_eq text (codes "99"))) [
    | inl trailer ↦ cc (rw (other, trailer) at h)
    | inr none ↦ cc (rw (other, none) at h)
  ]
]
by_kind pr place row text (Some k) x n h = elim (cases_Bool (has_kind pr k)) [
  | inl has ↦ let said = rw has at h in rw (kind_said place _ k _ _ refl x said) (entry_kind pr k n has)
  | inr hasnt ↦ cc (rw hasnt at h)
]

one_more : (pr : ℕ) (p : ℕ × Fields) (ps : List (ℕ × Fields)) (o : Option Change) → change_at pr p ≡ o → ((x : Change) → o ≡ Some x → is_entry x.item ≡ true)
    → All (λ x. is_entry x.item ≡ true) (filter_map (change_at pr) ps) → All (λ x. is_entry x.item ≡ true) (filter_map (change_at pr) (p ∷ ps))
one_more pr p ps None e here rest = rw e rest
one_more pr p ps (Some x) e here rest = rw e (cons_all (λ x. is_entry x.item ≡ true) x (filter_map (change_at pr) ps) (here x refl) rest)

all_entries : (pr : ℕ) (ps : List (ℕ × Fields)) → pr ≢ 2 → All (λ x. is_entry x.item ≡ true) (filter_map (change_at pr) ps)
all_entries pr [] n = λ k d l. absurd (omega arith)
all_entries pr ((place, row) ∷ ps) n =
    one_more pr (place, row) ps (change_at pr (place, row)) refl (λ x h. by_kind pr place row (field row 0) (identified (field row 0)) x n h) (all_entries pr ps n)

-- a release or an adoption is no record of another profile
passing_line : (pr : ℕ) (row : Fields) → pr ≢ 2 → BeginsPassing row → line_of pr row ≡ line.Other
passing_line pr row n (inl e) = let other : (pr == 2) ≡ false = grind (arith, nat_tests, n) in rw (e, other) refl
passing_line pr row n (inr e) = let other : (pr == 2) ≡ false = grind (arith, nat_tests, n) in rw (e, other) refl

later_other : (c : ℕ) (p : Before) (row : Fields) → line_of p.profile row ≡ line.Other → later_rules c p (Some row) ≡ (8, p.ended) ∷ (5, true) ∷ []
unfolding later_rules
later_other c p row e = rw e refl

pub entries-alone : EntriesAlone
unfolding contents_of rules_at
entries-alone rows n =
    let pr = profile_named rows in record {
      entries = all_entries pr (enumerate_from 1 rows) n;
      others = λ c v i row get begins.
          let p = before_of pr (take (suc i) rows) in
          (list_any (is_trailer pr) (take (suc i) rows), ap (later_rules c p) get ∙ later_other c p row (passing_line pr row n begins));
    }
