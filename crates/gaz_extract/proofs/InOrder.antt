-- The items of a view kind by kind are its items in the order of keys.
use Rattle.std.proofs.Common.{◌≡◌, ◌≢◌, ◌≤◌, ℕ, Bool, true, false, cond, ◌&&◌, List, [], ◌∷◌, ◌++◌, map, refl, sym, ap, subst, ◌∙◌, arith, T}
use Rattle.std.specs.Prelude.{filter, nat_le, not}
use Rattle.std.proofs.lemmas.Bool.Decides.{nat_tests}
use Rattle.std.proofs.lemmas.List.{map-append}
use Rattle.std.proofs.lemmas.List.Elements.{filter_agree}
use Rattle.std.specs.Ordering.{is_lt, nat_cmp, ordering_then}
use Rattle.std.specs.declared.cmp.Ordering.{Ordering}
use Rattle.std.specs.declared.cmp.Ordering.TheVariants.{Less, Equal, Greater}
use Rattle.std.specs.FinMap as finite
use Rattle.std.specs.FinMap.Entries.{below_all, is_sorted, is_sorted-where_key}
use Rattle.gaz_records.specs.Keys.{key_cmp, kind_number}
use Rattle.gaz_records.specs.declared.item.Item.{Item}
use Rattle.gaz_records.specs.declared.item.Kind.{Kind}
use Rattle.gaz_records.specs.declared.item.Kind.TheVariants as kind
use Rattle.gaz_records.specs.declared.key.Key.{Key}
use Rattle.gaz_records.specs.declared.key.Key.TheVariants as key
use Rattle.gaz_views.specs.View.{View}
use Rattle.gaz_views.specs.Words.{entries, is_of}
use Rattle.gaz_extract.specs.Drafts.{by_kind}
use Rattle.gaz_extract.specs.Extracts.{items_of}

abbrev Row : Type 0
Row = Key × Item

-- up to this record identifier, and above it
abbrev low : ℕ → Key → Bool
low n k = nat_le (kind_number k) n

abbrev high : ℕ → Key → Bool
high n k = not (low n k)

both_true : (a b : Bool) → T (a && b) → (a ≡ true) × T b
both_true true b h = (refl, h)
both_true false b h = absurd h

then_less : (o p : Ordering) → is_lt (ordering_then o p) ≡ true → o ≢ Greater
then_less Less p e is = cc
then_less Equal p e is = cc
then_less Greater p e is = cc

kinds_rise : (k q : Key) → is_lt (key_cmp k q) ≡ true → kind_number k ≤ kind_number q
kinds_rise k q e = let less = then_less (nat_cmp (kind_number k) (kind_number q)) _ e in grind (arith, nat_tests, less)

still_high : (n : ℕ) (k q : Key) → low n k ≡ false → is_lt (key_cmp k q) ≡ true → low n q ≡ false
still_high n k q above less = let more = kinds_rise k q less in grind (arith, nat_tests, above, more)

none_low : (n : ℕ) (k : Key) (es : List Row) → low n k ≡ false → T (below_all key_cmp k es) → (filter (λ e. low n e.0) es ≡ []) × (filter (λ e. high n e.0) es ≡ es)
none_low n k [] above h = (refl, refl)
none_low n k (e ∷ es) above h =
    let two = both_true _ _ h in
    let is = still_high n k e.0 above two.0 in
    let rest = none_low n k es above two.1 in (
      ap (λ b. cond b (e ∷ filter (λ f. low n f.0) es) (filter (λ f. low n f.0) es)) is ∙ rest.0,
      ap (λ b. cond (not b) (e ∷ filter (λ f. high n f.0) es) (filter (λ f. high n f.0) es)) is ∙ ap (λ l. e ∷ l) rest.1,
    )

passing : (b : Bool) → b ≡ true → T b
passing b e = subst T (sym e) tt

by_test : (n : ℕ) (e : Row) (es : List Row) (b : Bool) → low n e.0 ≡ b → T (below_all key_cmp e.0 es) → filter (λ f. low n f.0) es ++ filter (λ f. high n f.0) es ≡ es
    → cond b (e ∷ filter (λ f. low n f.0) es) (filter (λ f. low n f.0) es) ++ cond (not b) (e ∷ filter (λ f. high n f.0) es) (filter (λ f. high n f.0) es) ≡ e ∷ es
by_test n e es true is above rest = ap (λ l. e ∷ l) rest
by_test n e es false is above rest =
    let none = none_low n e.0 es is above in
    ap (λ l. l ++ (e ∷ filter (λ f. high n f.0) es)) none.0 ∙ ap (λ l. e ∷ l) none.1

-- rows whose keys ascend fall into the low ones and the high ones
split : (n : ℕ) (es : List Row) → T (is_sorted key_cmp es) → filter (λ e. low n e.0) es ++ filter (λ e. high n e.0) es ≡ es
split n [] h = refl
split n (e ∷ es) h =
    let two = both_true _ _ h in
    by_test n e es (low n e.0) refl (passing _ two.0) (split n es two.1)

passes : (p q : Key → Bool) (es : List Row) → filter (λ e. q e.0) (filter (λ e. p e.0) es) ≡ filter (λ e. p e.0 && q e.0) es
passes p q [] = refl
passes p q (x ∷ xs) = elim (p x.0) as (λ b. filter (λ e. q e.0) (cond b (x ∷ filter (λ e. p e.0) xs) (filter (λ e. p e.0) xs)) ≡ cond (b && q x.0) (x ∷ filter (λ e. p e.0 && q e.0) xs) (filter (λ e. p e.0 && q e.0) xs)) [
  | true ↦ ap (λ l. cond (q x.0) (x ∷ l) l) (passes p q xs)
  | false ↦ passes p q xs
]

abbrev rows_of : Kind → List Row → List Row
rows_of k es = filter (λ e. is_of k e.0 && true) es

-- the rows of a kind, and those of later kinds
stage : (n m : ℕ) (k : Kind) (es : List Row) → T (is_sorted key_cmp es)
    → ((q : Key) → (high n q && low m q) ≡ (is_of k q && true)) → ((q : Key) → (high n q && high m q) ≡ high m q)
    → rows_of k es ++ filter (λ e. high m e.0) es ≡ filter (λ e. high n e.0) es
stage n m k es h these later =
    let here = passes (high n) (low m) es ∙ filter_agree _ _ (λ (e : Row). these e.0) es in
    let more = passes (high n) (high m) es ∙ filter_agree _ _ (λ (e : Row). later e.0) es in
    (λ i. sym here i ++ sym more i) ∙ split m (filter (λ e. high n e.0) es) (is_sorted-where_key key_cmp (high n) es h)

streets : (q : Key) → low 11 q ≡ (is_of kind.Street q && true)
streets (key.Street n) = refl
streets (key.Descriptor n l) = refl
streets (key.Blpu n) = refl
streets (key.Xref t) = refl
streets (key.Lpi t) = refl

descriptors : (q : Key) → (high 11 q && low 15 q) ≡ (is_of kind.Descriptor q && true)
descriptors (key.Street n) = refl
descriptors (key.Descriptor n l) = refl
descriptors (key.Blpu n) = refl
descriptors (key.Xref t) = refl
descriptors (key.Lpi t) = refl

blpus : (q : Key) → (high 15 q && low 21 q) ≡ (is_of kind.Blpu q && true)
blpus (key.Street n) = refl
blpus (key.Descriptor n l) = refl
blpus (key.Blpu n) = refl
blpus (key.Xref t) = refl
blpus (key.Lpi t) = refl

xrefs : (q : Key) → (high 21 q && low 23 q) ≡ (is_of kind.Xref q && true)
xrefs (key.Street n) = refl
xrefs (key.Descriptor n l) = refl
xrefs (key.Blpu n) = refl
xrefs (key.Xref t) = refl
xrefs (key.Lpi t) = refl

lpis : (q : Key) → high 23 q ≡ (is_of kind.Lpi q && true)
lpis (key.Street n) = refl
lpis (key.Descriptor n l) = refl
lpis (key.Blpu n) = refl
lpis (key.Xref t) = refl
lpis (key.Lpi t) = refl

past_11 : (q : Key) → (high 11 q && high 15 q) ≡ high 15 q
past_11 (key.Street n) = refl
past_11 (key.Descriptor n l) = refl
past_11 (key.Blpu n) = refl
past_11 (key.Xref t) = refl
past_11 (key.Lpi t) = refl

past_15 : (q : Key) → (high 15 q && high 21 q) ≡ high 21 q
past_15 (key.Street n) = refl
past_15 (key.Descriptor n l) = refl
past_15 (key.Blpu n) = refl
past_15 (key.Xref t) = refl
past_15 (key.Lpi t) = refl

past_21 : (q : Key) → (high 21 q && high 23 q) ≡ high 23 q
past_21 (key.Street n) = refl
past_21 (key.Descriptor n l) = refl
past_21 (key.Blpu n) = refl
past_21 (key.Xref t) = refl
past_21 (key.Lpi t) = refl

rows_by_kind : (es : List Row) → T (is_sorted key_cmp es)
    → rows_of kind.Street es ++ (rows_of kind.Descriptor es ++ (rows_of kind.Blpu es ++ (rows_of kind.Xref es ++ rows_of kind.Lpi es))) ≡ es
rows_by_kind es h =
    let five = sym (filter_agree _ _ (λ (e : Row). lpis e.0) es) in
    let four = ap (λ l. rows_of kind.Xref es ++ l) five ∙ stage 21 23 kind.Xref es h xrefs past_21 in
    let three = ap (λ l. rows_of kind.Blpu es ++ l) four ∙ stage 15 21 kind.Blpu es h blpus past_15 in
    let two = ap (λ l. rows_of kind.Descriptor es ++ l) three ∙ stage 11 15 kind.Descriptor es h descriptors past_11 in
    let one = sym (filter_agree _ _ (λ (e : Row). streets e.0) es) in
    (λ i. one i ++ two i) ∙ split 11 es h

pub in_key_order : (v : View) → by_kind v ≡ items_of v
in_key_order v =
    let es = entries v in
    let four = sym (map-append (λ (e : Row). e.1) (rows_of kind.Xref es) (rows_of kind.Lpi es)) in
    let three = ap (λ l. map (λ (e : Row). e.1) (rows_of kind.Blpu es) ++ l) four ∙ sym (map-append (λ (e : Row). e.1) (rows_of kind.Blpu es) _) in
    let two = ap (λ l. map (λ (e : Row). e.1) (rows_of kind.Descriptor es) ++ l) three ∙ sym (map-append (λ (e : Row). e.1) (rows_of kind.Descriptor es) _) in
    let one = ap (λ l. map (λ (e : Row). e.1) (rows_of kind.Street es) ++ l) two ∙ sym (map-append (λ (e : Row). e.1) (rows_of kind.Street es) _) in
    one ∙ ap (λ (l : List Row). map (λ e. e.1) l) (rows_by_kind es (finite.entries_sorted v.items))
