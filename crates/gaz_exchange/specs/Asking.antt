-- What the hub is asked by a request.
use Rattle.std.specs.Prelude.{ℕ, if◌then◌else◌, List, codes, bytes_eq, Option, Some, None, Result}
use Rattle.std.specs.Prelude.{Ok, Err}
use Rattle.httparse.specs.Grammar.{RequestHead}
use Rattle.gaz_ids.specs.Numbers.{read_uprn}
use Rattle.gaz_steps.specs.Step.{Command}
use Rattle.gaz_steps.specs.Step as hub
use Rattle.gaz_steps.specs.declared.question.Question.TheVariants.{Ask, ListClosed, LookUp, Stand}
use Rattle.gaz_steps.specs.declared.question.Question.TheVariants as question
use Rattle.gaz_exchange.specs.Targets.{Target, Volume, Custodian, Extract, Property, Closed}
use Rattle.gaz_exchange.specs.Targets.{Nowhere, target_of, code_in, volume_in}
use Rattle.gaz_exchange.specs.declared.fault.Allowed.TheVariants as allowed
use Rattle.gaz_exchange.specs.declared.fault.Fault.{Fault}
use Rattle.gaz_exchange.specs.declared.fault.Fault.TheVariants.{NotThere, NoRoute, BadMethod}
use Rattle.gaz_exchange.specs.declared.calls.Routed.{Routed}
use Rattle.gaz_exchange.specs.declared.calls.Routed.TheVariants.{Submit, Pose}
use Rattle.gaz_exchange.specs.declared.calls.Method.{Method}
use Rattle.gaz_exchange.specs.declared.calls.Method.TheVariants.{Get, Post, Other}

-- the method that a text names; methods have case (RFC 9110, section 9.1)
abbrev pub method_of : List ℕ → Method
method_of text =
    if bytes_eq text (codes "POST") then Post
    else if bytes_eq text (codes "GET") then Get
    else Other

-- a property is looked up by its UPRN; a number that doesn't read is that of no property
abbrev pub look_up : Option ℕ → Result Routed Fault
look_up (Some uprn) = Ok (Pose (LookUp uprn))
look_up None = Err NotThere

-- what is asked at a target by a method, or why nothing is: the target is looked at before the
-- method, and the method before the numbers
abbrev pub call_at : Target → Method → Result Routed Fault
call_at Nowhere m = Err NoRoute
call_at (Volume c v) Post = Ok (Submit (code_in c) (volume_in v))
call_at (Volume c v) Get = Ok (Pose (Ask (code_in c) (volume_in v)))
call_at (Volume c v) Other = Err (BadMethod allowed.GetAndPost)
call_at (Custodian c) Get = Ok (Pose (Stand (code_in c)))
call_at (Custodian c) Post = Err (BadMethod allowed.Get)
call_at (Custodian c) Other = Err (BadMethod allowed.Get)
call_at (Extract c v) Get = Ok (Pose (question.Extract (code_in c) (volume_in v)))
call_at (Extract c v) Post = Err (BadMethod allowed.Get)
call_at (Extract c v) Other = Err (BadMethod allowed.Get)
call_at (Property n) Get = look_up (read_uprn n)
call_at (Property n) Post = Err (BadMethod allowed.Get)
call_at (Property n) Other = Err (BadMethod allowed.Get)
call_at Closed Get = Ok (Pose ListClosed)
call_at Closed Post = Err (BadMethod allowed.Get)
call_at Closed Other = Err (BadMethod allowed.Get)

-- what the hub is asked by a call and a body, which a submission alone takes
abbrev pub command_of : List ℕ → Routed → Command
command_of body (Submit code volume) = hub.Submit code volume body
command_of body (Pose question) = hub.Pose question

-- what it is asked where a call was found
abbrev pub with_body : List ℕ → Result Routed Fault → Result Command Fault
with_body body (Ok call) = Ok (command_of body call)
with_body body (Err fault) = Err fault

-- what the hub is asked by a request with this head and body, or why it isn't asked
unfoldable pub asked : RequestHead → List ℕ → Result Command Fault
asked h body = with_body body (call_at (target_of h.target) (method_of h.method))
