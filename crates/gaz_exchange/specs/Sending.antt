-- A reply as it is written.
use Rattle.std.specs.Prelude.{ℕ, Bool, List, ◌++◌, Option}
use Rattle.std.specs.Fmt.{decimal}
use Rattle.gaz_http.specs.Writing.{IsPut}
use Rattle.gaz_exchange.specs.Replies.{IsReplyText, end_of}
use Rattle.gaz_exchange.specs.declared.reply.Reply.{Reply}

-- the reply's text, or only a front of it, was written
pub record IsSent (held holds : Option (List ℕ)) (reply : Reply) (is_last whole : Bool)
    : Type 0 where
  pub text : List ℕ
  pub told : IsReplyText reply is_last text
  pub put : IsPut held holds text whole

-- the lines before a body of so many bytes; the front are those up to the length
abbrev pub head_of : List ℕ → ℕ → Bool → List ℕ
head_of front size is_last = (front ++ decimal size) ++ end_of is_last
