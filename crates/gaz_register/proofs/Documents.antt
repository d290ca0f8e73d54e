-- What TOML's values say, item by item and key by key.
use Rattle.std.proofs.Common.{◌≡◌, inl, inr, ℕ, true, false, List, [], ◌∷◌, length, map, Option, Some, None, refl, ap, sym, ◌∙◌, arith, add-one, option_map, Ok, Err, ℤ}
use Rattle.std.specs.Prelude.{IsUtf8, Result, ◌==◌, codes, not}
use Rattle.std.specs.Option.{ok_or}
use Rattle.std.specs.Result.{result_map_both}
use Rattle.std.specs.Str.{is_utf8}
use Rattle.std.proofs.lemmas.Str.{IsUtf8-from_is_utf8, is_utf8-from_IsUtf8}
use Rattle.std.proofs.lemmas.Bool.{cases_Bool}
use Rattle.std.proofs.lemmas.Bool.Decides.{nat_tests}
use Rattle.std.proofs.lemmas.List.{length-map}
use Rattle.toml.specs.Data.{Data, string, integer, float, boolean, datetime, array, table, Items, no_items, item, Members, as_array, as_integer, as_str, get_member}
use Rattle.toml.specs.Parse.{parse_document}
use Rattle.toml.specs.View.{view, items_of, items_view, members_view}
use Rattle.toml.specs.declared.value.Value.{Value}
use Rattle.toml.proofs.Views.{Entry}
use Rattle.gaz_register.specs.Drafts.{all_good, at_key, draft_in, draft_of, drafts_in, key_count, listed, pair_of, pairs_of}
use Rattle.gaz_register.specs.Reading.{document}
use Rattle.gaz_register.specs.declared.fault.RegFault.{RegFault}
use Rattle.gaz_register.specs.declared.fault.RegFault.TheVariants.{Shape}

pub document-text : (bs : List ℕ) → IsUtf8 bs → document bs ≡ parse_document bs
document-text bs u = rw (is_utf8-from_IsUtf8 bs u) refl

pub document-none : (bs : List ℕ) → (IsUtf8 bs → ⊥) → document bs ≡ None
document-none bs n = elim (cases_Bool (is_utf8 bs)) [
  | inl valid ↦ absurd (n (IsUtf8-from_is_utf8 bs valid))
  | inr other ↦ rw other refl
]

pub listed-items_of : (ds : List Data) → listed (items_of ds) ≡ ds
listed-items_of [] = refl
listed-items_of (d ∷ ds) = ap (λ t. d ∷ t) (listed-items_of ds)

pub key_count-members : (es : List Entry) → key_count (members_view es) ≡ length es
key_count-members [] = refl
key_count-members (e ∷ es) = rw (key_count-members es, add-one) refl

pair-short : (d : Data) → pair_of (array (item d no_items)) ≡ Err Shape
pair-short (string s) = refl
pair-short (integer z) = refl
pair-short (float x) = refl
pair-short (boolean b) = refl
pair-short (datetime t) = refl
pair-short (array ds) = refl
pair-short (table ms) = refl

pair-long : (d e f : Data) (ds : Items) → pair_of (array (item d (item e (item f ds)))) ≡ Err Shape
pair-long (string s) e f ds = refl
pair-long (integer z) (string s) f ds = refl
pair-long (integer z) (integer y) f ds = refl
pair-long (integer z) (float x) f ds = refl
pair-long (integer z) (boolean b) f ds = refl
pair-long (integer z) (datetime t) f ds = refl
pair-long (integer z) (array xs) f ds = refl
pair-long (integer z) (table ms) f ds = refl
pair-long (float x) e f ds = refl
pair-long (boolean b) e f ds = refl
pair-long (datetime t) e f ds = refl
pair-long (array xs) e f ds = refl
pair-long (table ms) e f ds = refl

-- a list of another length than two is no pair
pub pair-length : (ds : List Data) → (length ds ≡ 2 → ⊥) → pair_of (array (items_of ds)) ≡ Err Shape
pair-length [] n = refl
pair-length (d ∷ []) n = pair-short d
pair-length (d ∷ e ∷ []) n = absurd (n refl)
pair-length (d ∷ e ∷ f ∷ ds) n = pair-long d e f (items_of ds)

pub is-array : (d : Data) (ds : Items) → Some ds ≡ as_array d → d ≡ array ds
is-array (string s) ds e = cc e
is-array (integer z) ds e = cc e
is-array (float x) ds e = cc e
is-array (boolean b) ds e = cc e
is-array (datetime t) ds e = cc e
is-array (array xs) ds e = let same : ds ≡ xs = cc e in ap array (sym same)
is-array (table ms) ds e = cc e

-- the value at a key that isn't there
pub no-key : {A : Type 0} (as_type : Data → Option A) (key : List ℕ) (es : List Entry) → get_member key (members_view es) ≡ None → at_key as_type key (members_view es) ≡ Err Shape
no-key as_type key es e = rw e refl

pub its-value : {A : Type 0} (as_type : Data → Option A) (key : List ℕ) (es : List Entry) (d : Data) → get_member key (members_view es) ≡ Some d → at_key as_type key (members_view es) ≡ ok_or (as_type d) Shape
its-value as_type key es d e = rw e refl

pub map-ok_or : {A B : Type 0} (f : A → B) (o : Option A) (e : RegFault) → result_map_both f (λ e. e) (ok_or o e) ≡ ok_or (option_map f o) e
map-ok_or f None e = refl
map-ok_or f (Some a) e = refl

map-map : {A B C : Type 0} (f : B → C) (g : A → B) (xs : List A) → map f (map g xs) ≡ map (λ x. f (g x)) xs
map-map f g [] = refl
map-map f g (x ∷ xs) = ap (λ t. f (g x) ∷ t) (map-map f g xs)

-- what is read of each item of an array
pub all-listed : {A : Type 0} (f : Data → Result A RegFault) (vs : List Value) → all_good (map f (listed (items_view vs))) ≡ all_good (map (λ v. f (view v)) vs)
all-listed f vs = rw (listed-items_of (map view vs), map-map f view vs) refl

not-same : (a b : ℕ) → (a ≡ b → ⊥) → not (a == b) ≡ true
not-same a b n = grind (arith, nat_tests)

same : (a b : ℕ) → a ≡ b → not (a == b) ≡ false
same a b e = grind (arith, nat_tests)

not-none : (n : ℕ) → (n ≡ 0 → ⊥) → (n == 0) ≡ false
not-none n h = grind (arith, nat_tests)

-- ---- a custodian's members, key by key

pub draft-keys : (members : Members) → (key_count members ≡ 4 → ⊥) → draft_in members ≡ Err Shape
unfolding draft_in
draft-keys members n = rw (not-same (key_count members) 4 n) refl

pub draft-uprn : (members : Members) (code : ℤ) (name : List ℕ) (fault : RegFault) → key_count members ≡ 4
    → at_key as_integer (codes "code") members ≡ Ok code → at_key as_str (codes "name") members ≡ Ok name → pairs_of (codes "uprn") members ≡ Err fault
    → draft_in members ≡ Err fault
unfolding draft_in
draft-uprn members code name fault count a b c = rw (same (key_count members) 4 count, a, b, c) refl

pub draft-usrn : (members : Members) (code : ℤ) (name : List ℕ) (uprn : List (ℤ × ℤ)) (fault : RegFault) → key_count members ≡ 4
    → at_key as_integer (codes "code") members ≡ Ok code → at_key as_str (codes "name") members ≡ Ok name → pairs_of (codes "uprn") members ≡ Ok uprn → pairs_of (codes "usrn") members ≡ Err fault
    → draft_in members ≡ Err fault
unfolding draft_in
draft-usrn members code name uprn fault count a b c d = rw (same (key_count members) 4 count, a, b, c, d) refl

pub draft-whole : (members : Members) (code : ℤ) (name : List ℕ) (uprn usrn : List (ℤ × ℤ)) → key_count members ≡ 4
    → at_key as_integer (codes "code") members ≡ Ok code → at_key as_str (codes "name") members ≡ Ok name → pairs_of (codes "uprn") members ≡ Ok uprn → pairs_of (codes "usrn") members ≡ Ok usrn
    → draft_in members ≡ Ok (record { code = code; name = name; uprn = uprn; usrn = usrn })
unfolding draft_in
draft-whole members code name uprn usrn count a b c d = rw (same (key_count members) 4 count, a, b, c, d) refl

-- ---- the document

pub drafts-keys : (members : Members) → (key_count members ≡ 1 → ⊥) → drafts_in members ≡ Err Shape
unfolding drafts_in
drafts-keys members n = rw (not-same (key_count members) 1 n) refl

pub drafts-whole : (members : Members) (vs : List Value) → key_count members ≡ 1 → at_key as_array (codes "custodian") members ≡ Ok (items_view vs) → (length vs ≡ 0 → ⊥)
    → drafts_in members ≡ all_good (map (λ v. draft_of (view v)) vs)
unfolding drafts_in
drafts-whole members vs count a some =
    let filled : length (listed (items_view vs)) ≡ length vs = ap length (listed-items_of (map view vs)) ∙ length-map vs view in
    rw (same (key_count members) 1 count, a, filled, not-none (length vs) some) (all-listed draft_of vs)
