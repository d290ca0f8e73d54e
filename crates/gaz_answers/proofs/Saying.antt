-- What a row says that names a key and has an item's body.
use Rattle.std.proofs.Common.{◌≡◌, ◌∙◌, ◌==◌, ℕ, Bool, true, false, cond, List, Result, Ok, Err, IfOk, drop, length, take, refl, sym, ap}
use Rattle.std.specs.Prelude.{Option, Some, None, option_map}
use Rattle.std.specs.Result.{result_ok}
use Rattle.sqlite.specs.Order.{Row, column}
use Rattle.gaz_ids.specs.Codes.{lang_of}
use Rattle.gaz_ids.specs.declared.lang.Lang.{Lang}
use Rattle.gaz_fields.specs.Labels.{label_of}
use Rattle.gaz_records.specs.Items.{item_of_text}
use Rattle.gaz_records.specs.declared.item.Item.{Item}
use Rattle.gaz_records.specs.declared.item.Kind.{Kind}
use Rattle.gaz_records.specs.declared.item.Kind.TheVariants as kind
use Rattle.gaz_records.specs.declared.key.Key.{Key}
use Rattle.gaz_records.specs.declared.key.Key.TheVariants as key
use Rattle.gaz_cells.specs.Ids.{key_named, kind_in, name_of, uprn_in, usrn_in}
use Rattle.gaz_row_items.specs.Decoding.{IsItemAt}
use Rattle.gaz_row_items.specs.Versions.{text_in}
use Rattle.gaz_answers.specs.Paging.{item_said}

made_kind : {A : Type 0} (f : A → Key) (k : Kind) → ((a : A) → kind_in (f a) ≡ k) → (o : Option A) (q : Key) → option_map f o ≡ Some q → kind_in q ≡ k
made_kind f k all None q e = absurd (cc)
made_kind f k all (Some a) q e = let same : f a ≡ q = cc in ap kind_in (sym same) ∙ all a

name_kind : (n : Option ℕ) (l : Option Lang) (q : Key) → name_of n l ≡ Some q → kind_in q ≡ kind.Descriptor
name_kind None l q e = absurd (cc)
name_kind (Some n) None q e = absurd (cc)
name_kind (Some n) (Some l) q e = let same : key.Descriptor n l ≡ q = cc in ap kind_in (sym same)

-- a key that a text names is one of its kind
pub named_kind : (k : Kind) (t : List ℕ) (q : Key) → key_named k t ≡ Some q → kind_in q ≡ k
named_kind kind.Street t q e = made_kind key.Street kind.Street (λ a. refl) (usrn_in t) q e
named_kind kind.Descriptor t q e = by_length (length t == 11) e
  where
    by_length : (b : Bool) → cond b (name_of (usrn_in (take 8 t)) (lang_of (drop 8 t))) None ≡ Some q → kind_in q ≡ kind.Descriptor
    by_length true e = name_kind (usrn_in (take 8 t)) (lang_of (drop 8 t)) q e
    by_length false e = absurd (cc)
named_kind kind.Blpu t q e = made_kind key.Blpu kind.Blpu (λ a. refl) (uprn_in t) q e
named_kind kind.Xref t q e = made_kind key.Xref kind.Xref (λ a. refl) (label_of 14 t) q e
named_kind kind.Lpi t q e = made_kind key.Lpi kind.Lpi (λ a. refl) (label_of 14 t) q e
named_kind kind.Release t q e = absurd (cc)
named_kind kind.Adopt t q e = absurd (cc)

-- so the item at the key is the one that the row says
pub said_told : {E : Type 0} (k : Kind) (r : Row) (q : Key) → key_named k (text_in (column r 0)) ≡ Some q → (found : Result Item E) → IfOk found (IsItemAt r 1 q) → IfOk found (λ x. item_said k r ≡ Some x)
said_told k r q named (Err e) h = tt
said_told k r q named (Ok x) h =
    (λ i. result_ok (item_of_text (sym (named_kind k (text_in (column r 0)) q named) i) (text_in (h.there i))))
    ∙ ap result_ok h.body.read
