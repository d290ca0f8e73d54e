use Rattle.std.proofs.Common.{◌≡◌, ◌∙◌, Ok, ap, sym}
use Rattle.std.proofs.lemmas.Result.{IfOk-weaker}
use Rattle.gaz_records.specs.Items.{item_of_text}
use Rattle.gaz_records.specs.Keys.{key_of}
use Rattle.gaz_records.specs.declared.item.Item.{Item}
use Rattle.gaz_row_items.specs.Decoding.{IsBodyOf}
use Rattle.gaz_row_items.proofs.Decoded.{read_is}
use Rattle.gaz_row_items.proofs.decoding.item_of.Goals as goal

pub returns-clause-said : goal.returns-clause-said
returns-clause-said c =
    let Read : Item → Type 0 = λ x. (c.item_of_text.result ≡ Ok x) × (key_of x ≡ c.args.key.now) in
    let body : (x : Item) → Read x → IsBodyOf c.args.key.now c.args.body.now x = λ x h. record {
      read = ap (λ k. item_of_text k c.args.body.now) (sym c.kind_in.ensures) ∙ read_is _ _ x c.item_of_text.ensures h.0;
      own = h.1;
    } in
    IfOk-weaker _ Read (IsBodyOf c.args.key.now c.args.body.now) body c.read_at.ensures.said
