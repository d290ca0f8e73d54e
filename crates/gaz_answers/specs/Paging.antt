-- Where a page begins, and what its rows say.
use Rattle.std.specs.Prelude.{◌≡◌, ◌==◌, ℕ, Bool, true, false, List, Option, Some, None, map}
use Rattle.std.specs.Result.{result_ok}
use Rattle.std.specs.Option.{option_map_or}
use Rattle.std.specs.Ordering.{is_gt, nat_cmp}
use Rattle.std.specs.Cmp.Lexicographic.{slice_cmp}
use Rattle.sqlite.specs.Order.{Row, column}
use Rattle.gaz_ids.specs.Codes.{lang_number}
use Rattle.gaz_ids.specs.declared.lang.Lang.{Lang}
use Rattle.gaz_records.specs.Items.{item_of_text}
use Rattle.gaz_records.specs.declared.item.Item.{Item}
use Rattle.gaz_records.specs.declared.item.Kind.{Kind}
use Rattle.gaz_records.specs.declared.key.Key.{Key}
use Rattle.gaz_views.specs.Words.{comes_after}
use Rattle.gaz_cells.specs.Ids.{id_of, is_key, kind_in}
use Rattle.gaz_keeper.specs.Board.{Board}
use Rattle.gaz_keeper.specs.Telling.{IsPageAt}
use Rattle.gaz_row_items.specs.Versions.{number_in, text_in}

-- ---- where a page begins

-- a key's id comes behind a text
abbrev pub is_behind : List ℕ → Key → Bool
is_behind start k = is_gt (slice_cmp nat_cmp (id_of k) start)

-- the keys of a kind that come after one are those whose ids come behind this text; without a text,
-- none comes after it
abbrev pub IsStart : Kind → Option Key → Option (List ℕ) → Type 0
IsStart kind after None = (k : Key) → kind_in k ≡ kind → comes_after after k ≡ false
IsStart kind after (Some start) =
    (k : Key) → is_key k ≡ true → kind_in k ≡ kind → comes_after after k ≡ is_behind start k

-- ---- what rows say

-- the item that a row of id and body says
abbrev pub item_said : Kind → Row → Option Item
item_said kind r = result_ok (item_of_text kind (text_in (column r 1)))

-- each row says an item, and these are they in turn
abbrev pub SayItems : Kind → List Row → List Item → Type 0
SayItems kind rows items = map (item_said kind) rows ≡ map Some items

-- a row of id and language says this language, or any where none is given
abbrev pub says_lang : Option Lang → Row → Bool
says_lang lang r = option_map_or (λ l. number_in (column r 1) == lang_number l) lang true

-- these are the first so many items of a kind in key order, from where a page begins, after a
-- volume that is reached
abbrev pub IsPageFrom : Board → ℕ → ℕ → Kind → Option (List ℕ) → ℕ → List Item → Type 0
IsPageFrom board c volume kind start most items =
    (after : Option Key) → IsStart kind after start → IsPageAt board c volume kind after most items
