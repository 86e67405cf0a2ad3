-- What a connection was answered.
use Rattle.std.specs.Prelude.{◌≡◌, ℕ, List}
use Rattle.std.specs.List.{AllByRecursion}
use Rattle.http.specs.Request.{head_of}
use Rattle.http_uri.specs.Uri.{uri_path}
use Rattle.http_server.specs.Exchange.{Call}
use Rattle.http_server.specs.History.{History, IsServed}
use Rattle.http_server.specs.declared.state.Config.{Config}
use Rattle.gw_page.specs.declared.figures.Figures.{Figures}
use Rattle.gw_page.specs.Answers.{Answers}

-- a head of 8,192 bytes at most, and no body
abbrev pub limits : Config
limits = record {
  limits = record { max_head_len = 8192; max_extensions_len = 8192; max_trailers_len = 8192 };
  max_body_len = 0;
  max_pending = 65536;
  read_size = 8192;
}

-- the response that a request was given is that of these figures
abbrev pub Suits : Figures → Call → Type 0
Suits f c = Answers f (head_of c.0).method (uri_path (head_of c.0).uri) c.1

-- The bytes that were read are those of a server's history, and so are those that were written. Each of its requests was answered by these figures.
pub record Answered (f : Figures) (read written : List ℕ) : Type 0 where
  pub history : History
  pub is_read : history.received ≡ read
  pub is_written : history.sent ≡ written
  pub served : ∥ IsServed limits history ∥₁
  pub suits : AllByRecursion (Suits f) history.calls
