use Rattle.std.proofs.Common.{◌++◌, List, refl, sym, subst, ap, ◌∙◌}
use Rattle.std.specs.List.{AllByRecursion}
use Rattle.http_server.specs.Connection.{history}
use Rattle.http_server.specs.Exchange.{Call}
use Rattle.http_server.specs.History.{History, IsServed}
use Rattle.http_server.specs.declared.state.Config.{Config}
use Rattle.http_server.proofs.Theorems.{always_served}
use Rattle.gw_page.specs.Connections.{Suits}
use Rattle.gw_page.proofs.Chains.{all_suit}
use Rattle.gw_page.proofs.connections.answer.Goals as goal

pub returns : goal.returns
returns g c =
    let read = c.serve.ensures.read in
    let written = c.serve.ensures.written in
    let calls = c.serve.ensures.calls in
    let new = c.new-connection.ensures.history in
    let config = c.serve.ensures.config ∙ c.new-connection.ensures.config ∙ c.limits.ensures in (
      read.0,
      written.0,
      read.1,
      written.1,
      record {
        history = history c.serve.new.connection;
        is_read = read.2 ∙ ap (λ (h : History). h.received ++ read.0) new;
        is_written = written.2 ∙ ap (λ (h : History). h.sent ++ written.0) new;
        served = subst (λ (k : Config). ∥ IsServed k (history c.serve.new.connection) ∥₁) config (always_served c.serve.new.connection);
        suits = subst (λ (all : List Call). AllByRecursion (Suits c.args.figures.now) all)
            (sym (calls.1 ∙ ap (λ (h : History). h.calls ++ calls.0) new)) (all_suit c.args.figures.now _ calls.0 _ refl calls.2);
      },
    )
