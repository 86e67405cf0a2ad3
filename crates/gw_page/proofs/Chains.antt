-- What a chain of calls says of each of them, where none changes the figures.
use Rattle.std.proofs.Common.{◌≡◌, ℕ, List, [], ◌∷◌, subst, ap, ◌∙◌}
use Rattle.std.specs.List.{AllByRecursion}
use Rattle.http.specs.declared.request.Request.{Request}
use Rattle.http.specs.Request.{head_of}
use Rattle.http_uri.specs.Uri.{uri_path}
use Rattle.http_server.specs.declared.response.Response.{Response}
use Rattle.http_server.specs.Exchange.{Call, Chain}
use Rattle.gw_page.specs.declared.figures.Figures.{Figures}
use Rattle.gw_page.specs.declared.site.Site.{Site}
use Rattle.gw_page.specs.Answers.{Answers}
use Rattle.gw_page.specs.Connections.{Suits}

pub all_suit : (f : Figures) (s : Site) (calls : List Call) (t : Site) → s.figures.now ≡ f
    → Chain (λ (old : Site) (request : Request (List ℕ)) (response : Response) (new : Site).
    Answers old.figures.now (head_of request).method (uri_path (head_of request).uri) response × (new ≡ old)) s calls t
    → AllByRecursion (Suits f) calls
all_suit f s [] t e h = tt
all_suit f s (c ∷ calls) t e h =
    (subst (λ (g : Figures). Suits g c) e h.1.0, all_suit f h.0 calls t (ap (λ (x : Site). x.figures.now) h.1.1 ∙ e) h.2)
