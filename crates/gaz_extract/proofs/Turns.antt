-- What is left before the next page.
use Rattle.std.proofs.Common.{◌≡◌, ◌≤◌, ◌∙◌, ℕ, List, [], ◌++◌, true, false, refl, ap, subst}
use Rattle.std.specs.Prelude.{Option, Some, None, is_some}
use Rattle.gaz_records.specs.declared.item.Item.{Item}
use Rattle.gaz_records.specs.declared.item.Kind.{Kind}
use Rattle.gaz_records.specs.declared.key.Key.{Key}
use Rattle.gaz_keeper.specs.Board.{reached, view_after}
use Rattle.gaz_keeper.specs.Keeper.{Content, Keeps, Seen}
use Rattle.gaz_views.specs.Reading.{left_after}
use Rattle.gaz_views.specs.View.{View}
use Rattle.gaz_views.specs.Words.{rest_of}
use Rattle.gaz_extract.specs.Drafts.{DraftValue, with_items}
use Rattle.gaz_extract.proofs.Rows.{with-append}

pub left_is_rest : (v : View) (kind : Kind) (next : Option Key) → is_some next ≡ true → left_after v kind next ≡ rest_of v kind next
left_is_rest v kind None e = cc
left_is_rest v kind (Some k) e = refl

pub none_left : (v : View) (kind : Kind) (next : Option Key) → is_some next ≡ false → left_after v kind next ≡ []
none_left v kind None e = refl
none_left v kind (Some k) e = cc

-- a draft with the items of a view after a volume that these calls read
abbrev pub IsAdded : Seen → Seen → ℕ → ℕ → DraftValue → DraftValue → (View → List Item) → Type 0
IsAdded old new code volume d e items =
    old.stands → new.unharmed → volume ≤ reached old.content.board code → e ≡ with_items d (items (view_after old.content.board code volume))

-- and with more of it
pub then_added : (a b c : Seen) (code volume : ℕ) (d e f : DraftValue) (xs ys : View → List Item) → Keeps a b → Keeps b c
    → IsAdded a b code volume d e xs → IsAdded b c code volume e f ys → IsAdded a c code volume d f (λ v. xs v ++ ys v)
then_added a b c code volume d e f xs ys first second one two = λ stood fine within.
    let mid = second.harm fine in
    let v = view_after a.content.board code volume in
    let later = subst (λ (k : Content). volume ≤ reached k.board code → f ≡ with_items e (ys (view_after k.board code volume)))
    (first.content stood mid) (two (first.stands stood mid) fine) within in
    later ∙ ap (λ (x : DraftValue). with_items x (ys v)) (one stood mid within) ∙ with-append d (xs v) (ys v)
