-- An answer with the page: what it began with, and a body behind it.
use Rattle.std.{proofs.Common.{ℕ, ◌≡◌, ◌++◌, ◌∙◌, [], List, ap}, specs.Prelude.{Result, Ok, Err, OnOk}}
use Rattle.http_server.specs.{declared.response.Response.Response, Response.{IsResponse, fields_of}}
use Rattle.page.specs.Answers.{page_fields}

pub page-shown : {T E : Type 0} (result : Result T E) (begun shown : Response) (text : List ℕ) → IsResponse 200 page_fields [] begun → shown.status ≡ begun.status → fields_of shown ≡ fields_of begun →
    OnOk result (shown.body.items ≡ begun.body.items ++ text) → OnOk result (IsResponse 200 page_fields text shown)
page-shown (Ok value) begun shown text begins status fields pushed = record {
  status = status ∙ begins.status;
  headers = fields ∙ begins.headers;
  body = pushed ∙ ap (λ (items : List ℕ). items ++ text) begins.body;
}
page-shown (Err error) begun shown text begins status fields pushed = pushed
