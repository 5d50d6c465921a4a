use Rattle.std.{proofs.Common.{◌≡◌, ◌∙◌, ◌++◌, List, ℕ, sym, ap, subst}, specs.Io.KnownBytes.{Appends, Consumes}}
use Rattle.http_server.{specs.declared.state.Config.Config, specs.Connection.{config_of, history}, specs.History.{History, IsServed}, specs.Exchange.{Call, Calls}, proofs.Theorems.always_served}
use Rattle.page.specs.Answers.{AnswersRequest}
use Rattle.page.proofs.connections.serve_page.Goals as goal

pub returns : goal.returns
returns g c =
    let connection = c.serve.new.connection in
    let begun = c.new-connection.ensures.history in
    let read = c.serve.ensures.read in
    let written = c.serve.ensures.written in (
      history connection,
      subst (λ (config : Config). ∥ IsServed config (history connection) ∥₁) (c.serve.ensures.config ∙ c.new-connection.ensures.config) (always_served connection),
      subst (λ (more : List ℕ). Consumes (g.R.Read.remaining c.args.reader.now) (g.R.Read.remaining c.serve.new.reader) more) (sym (read.2 ∙ ap (λ (h : History). h.received ++ read.0) begun)) read.1,
      subst (λ (more : List ℕ). Appends (g.W.Write.contents c.args.writer.now) (g.W.Write.contents c.serve.new.writer) more) (sym (written.2 ∙ ap (λ (h : History). h.sent ++ written.0) begun)) written.1,
      subst (λ (calls : List Call). Calls (AnswersRequest g.S.ServeLines.serves) c.args.page.now c.serve.new.service calls (history connection).calls) (ap (λ (h : History). h.calls) begun) c.serve.ensures.calls,
    )
