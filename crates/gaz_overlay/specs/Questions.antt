-- What is asked of a view, answered for a laid view from answers for the last one and the changes.
use Rattle.std.specs.Prelude.{◌≡◌, ◌||◌, ◌++◌, ℕ, Bool, List, map, filter, Option, option_map}
use Rattle.std.specs.FinMap as finite
use Rattle.std.specs.Option.{option_and_then}
use Rattle.gaz_ids.specs.declared.lang.Lang.{Lang}
use Rattle.gaz_records.specs.Keys.{key_cmp}
use Rattle.gaz_records.specs.declared.item.Item.{Item}
use Rattle.gaz_records.specs.declared.key.Key.{Key}
use Rattle.gaz_records.specs.declared.key.Key.TheVariants as key
use Rattle.gaz_views.specs.Lawful.{IsLawfulView}
use Rattle.gaz_views.specs.View.{View}
use Rattle.gaz_views.specs.Words.{approved_of, approved_on, entries, has_children, first_of}
use Rattle.gaz_views.specs.Words.{is_approved_on, is_child_of, names, property_of, tied}
use Rattle.gaz_views.specs.declared.property.Property.{Property}
use Rattle.gaz_overlay.specs.Laid.{any_untouched, laid, untouched}

-- these keys, each once, in their order
abbrev pub in_order : List Key → List Key
in_order ks = finite.keys (finite.from_entries {X = Unit {0}} {R = key_cmp} (map (λ k. (k, tt)) ks))

-- the keys of the items that pass a test, in the order of keys
abbrev pub keys_with : (Item → Bool) → View → List Key
keys_with p v = map (λ e. e.0) (filter (λ e. p e.1) (entries v))

-- those of the view's keys that the changes haven't used, and those of the changes
abbrev pub both : View → List Key → List Key → List Key
both s last own = in_order (filter (untouched s) last ++ own)

-- the property of a view whose addresses have these keys: its address is the item of the first
abbrev pub property_at : View → ℕ → List Key → Option Property
property_at v uprn keys =
    option_map
    (λ blpu. record { blpu = blpu; address = option_and_then (finite.get v.items) (first_of keys) })
    (finite.get v.items (key.Blpu uprn))

-- a property's approved addresses of both
abbrev pub both_approved : View → View → ℕ → List Key
both_approved v s uprn = both s (approved_of v uprn) (approved_of s uprn)

-- an item of the view passes a test whose key the changes haven't used
abbrev pub any_left : (Item → Bool) → View → View → Bool
any_left p v s = any_untouched s (keys_with p v)

pub record LaidAnswers (v s : View) : Type 0 where
  -- the first of the addresses is that of the property
  pub property_of : (uprn : ℕ)
      → property_of (laid v s) uprn ≡ property_at (laid v s) uprn (both_approved v s uprn)
  pub approved_of : (uprn : ℕ) → approved_of (laid v s) uprn ≡ both_approved v s uprn
  pub approved_on : (usrn : ℕ) (lang : Option Lang) → approved_on (laid v s) usrn lang
      ≡ (any_left (is_approved_on usrn lang) v s || approved_on s usrn lang)
  pub has_children : (uprn : ℕ)
      → has_children (laid v s) uprn ≡ (any_left (is_child_of uprn) v s || has_children s uprn)
  pub tied : (uprn : ℕ) → tied (laid v s) uprn ≡ (any_left (names uprn) v s || tied s uprn)

-- each question of a laid view is answered from what the last view and the changes answer
abbrev pub LaidQuestions : Type 0
LaidQuestions = (v s : View) → IsLawfulView s → LaidAnswers v s
