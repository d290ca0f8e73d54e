use Rattle.std.proofs.Common.{◌≡◌, ℕ, List, [], map, get_or, sym, ◌∙◌, inl, inr}
use Rattle.std.proofs.Math.ListN.{get_or-map}
use Rattle.std.specs.Prelude.{Result}
use denote.Bor.{Bor}
use Rattle.gaz_addressable.specs.Objects.{ObjectValue, OrMemory, object_of, object_of_fields}
use Rattle.gaz_addressable.specs.declared.object.ObjFault.{ObjFault}
use Rattle.gaz_addressable.proofs.Reading.{object_of-read, object_of-fault}
use Rattle.gaz_addressable.proofs.object.Object.read.Goals as goal

none : Bor (List ℕ)
none = record { ref_ptr = (0, 0); now = [] }

-- the texts that the slices refer to
at : (fields : List (Bor (List ℕ))) (i : ℕ) → get_or (map (λ f. f.now) fields) i [] ≡ (get_or fields i none).now
unfolding none
at fields i = get_or-map (λ (f : Bor (List ℕ)). f.now) fields i none

five : (fields : List (Bor (List ℕ)))
    → object_of_fields (map (λ f. f.now) fields)
    ≡ object_of (get_or fields 0 none).now (get_or fields 1 none).now (get_or fields 2 none).now (get_or fields 3 none).now (get_or fields 4 none).now
five fields = λ i. object_of (at fields 0 i) (at fields 1 i) (at fields 2 i) (at fields 3 i) (at fields 4 i)

same : (r a b : Result ObjectValue ObjFault) → OrMemory r a → b ≡ a → OrMemory r b
same r a b (inl e) h = inl (e ∙ sym h)
same r a b (inr e) h = inr e

pub returns-in-Ok : goal.returns-in-Ok
unfolding none
returns-in-Ok c = same _ _ _ c.with_text.ensures (five c.args.fields ∙ object_of-read _ _ _ _ _ _ (sym c.in-Ok.ensures))

pub returns-in-Err : goal.returns-in-Err
unfolding none
returns-in-Err c = inl (sym (five c.args.fields ∙ object_of-fault _ _ _ _ _ _ (sym c.in-Err.ensures)))
