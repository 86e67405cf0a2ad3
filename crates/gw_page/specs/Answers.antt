-- What answers which request.
use Rattle.std.specs.Prelude.{◌≡◌, ℕ, Bool, true, false, ◌||◌, List, [], codes, bytes_eq, if◌then◌else◌}
use Rattle.http_server.specs.declared.response.Response.{Response}
use Rattle.gw_page.specs.declared.figures.Figures.{Figures}
use Rattle.gw_page.specs.declared.place.Place.{Place}
use Rattle.gw_page.specs.Rows.{Shows, rows, entries}
use Rattle.gw_page.specs.Samples.{samples}
use Rattle.gw_page.specs.Health.{is_well, health}

-- the method asks for a text, and changes nothing
abbrev pub is_read : List ℕ → Bool
is_read method = bytes_eq method (codes "GET") || bytes_eq method (codes "HEAD")

abbrev pub place_of : List ℕ → Place
place_of path = if bytes_eq path (codes "/") then Place.Page else if bytes_eq path (codes "/metrics") then Place.Metrics
    else if bytes_eq path (codes "/health") then Place.Health else Place.Elsewhere

abbrev pub status_of : Figures → Bool → Place → ℕ
status_of f reads Place.Elsewhere = 404
status_of f false Place.Page = 405
status_of f false Place.Metrics = 405
status_of f false Place.Health = 405
status_of f true Place.Page = 200
status_of f true Place.Metrics = 200
status_of f true Place.Health = if is_well f then 200 else 503

-- each receiver's row and each refusal's is in it
pub record IsPage (f : Figures) (text : List ℕ) : Type 0 where
  pub receivers : Shows (rows f.receivers.items) text
  pub refusals : Shows (entries f.refusals.items) text

abbrev pub Gives : Figures → Bool → Place → List ℕ → Type 0
Gives f reads Place.Elsewhere text = text ≡ []
Gives f false Place.Page text = text ≡ []
Gives f false Place.Metrics text = text ≡ []
Gives f false Place.Health text = text ≡ []
Gives f true Place.Page text = IsPage f text
Gives f true Place.Metrics text = Shows (samples f.receivers.items) text
Gives f true Place.Health text = text ≡ health f

pub record Answers (f : Figures) (method path : List ℕ) (r : Response) : Type 0 where
  pub status : r.status ≡ status_of f (is_read method) (place_of path)
  pub text : Gives f (is_read method) (place_of path) r.body.items
