use Rattle.std.proofs.Common.{rules, ◌≡◌, ◌∙◌, ap, length, subst, true, unwrap_or}
use Rattle.gaz_views.specs.Accounts.{Account, empty_account}
use Rattle.std.specs.Prelude.{None}
use Rattle.gaz_records.specs.declared.key.Key.TheVariants.{Blpu}
use Rattle.gaz_ledger.specs.Lives.{IsFreeFrom, IsLifeWithin}
use Rattle.gaz_ledger.specs.Passages.{RestoresPassage}
use Rattle.gaz_shelf.proofs.Lawful.{all_lawful, found_lawful, none_found}
use Rattle.gaz_shelf.proofs.Restored.{after_passage, passage_restored}
use Rattle.gaz_shelf.proofs.accounts.Accounts.restore_passage.Goals as goal

pub invariant_of-self : goal.invariant_of-self
invariant_of-self c = record { lawful = none_found c.args.self.now.by_code c.get_mut.follows.lender-at-none c.get_mut.follows.holds-at-none c.args.self.now.lawful }

pub invariant_of-self-then-not-is_life_within : goal.invariant_of-self-then-not-is_life_within
invariant_of-self-then-not-is_life_within c =
    let es = c.args.self.now.by_code.entries in
    let writes = (c.get_mut.follows.holds c.in-Some.account.now).3 (search rules) in
    record { lawful = all_lawful es _ c.args.code c.in-Some.account.now writes.0 c.args.self.now.lawful (found_lawful es c.args.code _ c.args.self.now.lawful c.in-Some.ensures.value) }

pub invariant_of-self-then-not-is_free : goal.invariant_of-self-then-not-is_free
invariant_of-self-then-not-is_free c =
    let es = c.args.self.now.by_code.entries in
    let writes = (c.get_mut.follows.holds c.in-Some.account.now).3 (search rules) in
    record { lawful = all_lawful es _ c.args.code c.in-Some.account.now writes.0 c.args.self.now.lawful (found_lawful es c.args.code _ c.args.self.now.lawful c.in-Some.ensures.value) }

pub invariant_of-self-2 : goal.invariant_of-self-2
invariant_of-self-2 c =
    let es = c.args.self.now.by_code.entries in
    let writes = (c.get_mut.follows.holds c.restore_passage.new.self).3 (search rules) in
    let was = found_lawful es c.args.code _ c.args.self.now.lawful c.in-Some.ensures.value in
    record {
      lawful = all_lawful es _ c.args.code c.restore_passage.new.self writes.0 c.args.self.now.lawful
          (after_passage c.restore_passage.result c.in-Some.account.now c.restore_passage.new.self c.args.born c.args.uprn c.args.custody was c.restore_passage.ensures.ok c.restore_passage.ensures.err);
    }

pub returns : goal.returns
returns c =
    let es = c.args.self.now.by_code.entries in
    let writes = (c.get_mut.follows.holds c.restore_passage.new.self).3 (search rules) in
    let was = ap (λ o. unwrap_or o empty_account) c.in-Some.ensures.value in
    let is_within : c.is_life_within.result ≡ true = cc in
    let is_free : c.is_free.result ≡ true = cc in
    let within =
    subst (λ (a : Account). IsLifeWithin (length a.judged) c.args.born None) (c.ledger.ensures ∙ was)
    (subst (λ n. IsLifeWithin n c.args.born None) c.reached.ensures.reached (c.is_life_within.ensures.0 is_within)) in
    let free =
    subst (λ (a : Account). IsFreeFrom a c.args.born (Blpu c.args.uprn)) (c.ledger-2.ensures ∙ was)
    (c.is_free.ensures.0 is_free) in
    passage_restored es _ c.args.code c.restore_passage.new.self writes.0 c.args.born c.args.uprn c.args.custody within free
    (subst (λ (a : Account). RestoresPassage a c.restore_passage.new.self c.args.born c.args.uprn c.args.custody) was c.in_ok-restore_passage.ensures.ok)
