-- The calls of a keeper, counted, and the one that is to fail.
use Rattle.std.specs.Prelude.{◌≡◌, ◌≢◌, ◌+◌, ◌-◌, ◌^◌, ◌==◌, ℕ, min, Bool, false, if◌then◌else◌}
use Rattle.std.specs.Prelude.{Some, None, Result, Err}
use Rattle.gaz_faulty.specs.declared.calls.Counted.{Counted}
use Rattle.gaz_faulty.specs.declared.calls.Counted.TheVariants as call
use Rattle.gaz_faulty.specs.declared.calls.Calls.{Calls}
use Rattle.gaz_faulty.specs.declared.calls.Plan.{Plan}
use Rattle.gaz_keeper.specs.declared.fault.ShelfFault.{ShelfFault}
use Rattle.gaz_keeper.specs.declared.fault.ShelfFault.TheVariants.{Memory, Store}

-- no call was made
abbrev pub no_calls : Calls
no_calls = record {
  reached = 0;
  verdict = 0;
  current = 0;
  at = 0;
  ever = 0;
  approved_of = 0;
  property_of = 0;
  approved_on = 0;
  children = 0;
  custody = 0;
  custody_at = 0;
  tied = 0;
  page = 0;
  begin = 0;
  put = 0;
  take = 0;
  release = 0;
  adopt = 0;
  keep = 0;
  abandon = 0;
  skip = 0;
  received = 0;
  receive = 0;
  held = 0;
  sure = 0;
}

-- a count and one more; it stays at its last value
abbrev pub one_more : ℕ → ℕ
one_more n = min (n + 1) (2 ^ 64 - 1)

-- one more call of this kind
abbrev pub counted : Counted → Calls → Calls
counted call.Reached n = record n { reached = one_more n.reached }
counted call.Verdict n = record n { verdict = one_more n.verdict }
counted call.Current n = record n { current = one_more n.current }
counted call.At n = record n { at = one_more n.at }
counted call.Ever n = record n { ever = one_more n.ever }
counted call.ApprovedOf n = record n { approved_of = one_more n.approved_of }
counted call.PropertyOf n = record n { property_of = one_more n.property_of }
counted call.ApprovedOn n = record n { approved_on = one_more n.approved_on }
counted call.Children n = record n { children = one_more n.children }
counted call.Custody n = record n { custody = one_more n.custody }
counted call.CustodyAt n = record n { custody_at = one_more n.custody_at }
counted call.Tied n = record n { tied = one_more n.tied }
counted call.Page n = record n { page = one_more n.page }
counted call.Begin n = record n { begin = one_more n.begin }
counted call.Put n = record n { put = one_more n.put }
counted call.Take n = record n { take = one_more n.take }
counted call.Release n = record n { release = one_more n.release }
counted call.Adopt n = record n { adopt = one_more n.adopt }
counted call.Keep n = record n { keep = one_more n.keep }
counted call.Abandon n = record n { abandon = one_more n.abandon }
counted call.Skip n = record n { skip = one_more n.skip }
counted call.Received n = record n { received = one_more n.received }
counted call.Receive n = record n { receive = one_more n.receive }
counted call.Held n = record n { held = one_more n.held }
counted call.Sure n = record n { sure = one_more n.sure }

-- no call was made, and the one of this number is to fail, from 1; none where it is 0
abbrev pub plan_from : ℕ → Plan
plan_from number = record { calls = no_calls; left = number; failed = None; failures = 0 }

-- what is answered by a failure, which is counted unless the count is at its last value
abbrev pub failure_of : Plan → ShelfFault
failure_of p = if p.failures == 2 ^ 64 - 1 then Memory else Store

-- a call of this kind is counted, and it fails where its number has come; else nothing fails here,
-- unless its judgement was broken already
pub record CountsAs {T : Type 0} (kind : Counted) (old new : Plan) (broken : Bool)
    (result : Result T ShelfFault) : Type 0 where
  pub calls : new.calls ≡ counted kind old.calls
  pub left : new.left ≡ old.left - 1
  pub failed : new.failed ≡ (if old.left == 1 then Some kind else old.failed)
  pub due : old.left ≡ 1 → result ≡ Err (failure_of old)
  pub others : old.left ≢ 1 → broken ≡ false → new.failures ≡ old.failures
