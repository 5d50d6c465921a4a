-- What each request is answered (ours): status, fields and body, and who serves lines before and after.
use Rattle.std.specs.Prelude.{ℕ, ◌≡◌, ◌⊎◌, ◌++◌, ◌∷◌, [], Bool, true, List, codes}
use Rattle.http.specs.{declared.request.Request.Request, Request.{head_of, body_of}}
use Rattle.http1.specs.Fields.{Header}
use Rattle.http_server.specs.{declared.response.Response.Response, Response.{IsResponse, fields_of}}
use Rattle.page.specs.{declared.answers.TheConstants.POLICY, declared.page_style.TheConstants.TOP, declared.page_text.TheConstants.BODY, declared.page_script.TheConstants.SCRIPT, declared.page_edits.TheConstants.EDITS, declared.asked.Asked.Asked, declared.asked.Asked.TheVariants.{Page, Lines, Foreign, Nothing, OtherThanGet, OtherThanPost}, Requests.asked_by}

abbrev pub plain : List ℕ
plain = codes "text/plain; charset=utf-8"

abbrev pub html : List ℕ
html = codes "text/html; charset=utf-8"

-- the fields of each answer: what its body is; the connection closes; and no browser keeps it, or takes it for something else
abbrev pub fields_for : List ℕ → List Header
fields_for kind =
    (codes "content-type", kind) ∷ (codes "connection", codes "close") ∷ (codes "cache-control", codes "no-store") ∷ (codes "x-content-type-options", codes "nosniff") ∷ []

-- a field comes behind the others
pub record AddsField (name value : List ℕ) (old new : Response) : Type 0 where
  pub fields : fields_of new ≡ fields_of old ++ (name, value) ∷ []
  pub status : new.status ≡ old.status
  pub body : new.body ≡ old.body

-- those of the page, which may do no more than it has to, and which no other page may frame
abbrev pub page_fields : List Header
page_fields = fields_for html ++ (codes "content-security-policy", POLICY.now) ∷ (codes "x-frame-options", codes "DENY") ∷ []

abbrev pub IsPage : Response → Type 0
IsPage = IsResponse 200 page_fields ((TOP.now ++ BODY.now) ++ (SCRIPT.now ++ EDITS.now))

-- a text for people alone
abbrev pub IsText : ℕ → Response → Type 0
IsText status response = (text : List ℕ) × IsResponse status (fields_for plain) text response

-- one that shows which methods do
abbrev pub TellsMethods : List ℕ → Response → Type 0
TellsMethods methods response = (text : List ℕ) × IsResponse 405 (fields_for plain ++ (codes "allow", methods) ∷ []) text response

-- the answer with replies: all of them; or, where one is missing or there was no memory, none, with status 503
abbrev pub IsReplies : List ℕ → Bool → Response → Type 0
IsReplies replies whole response = ((whole ≡ true) × IsResponse 200 (fields_for plain) replies response) ⊎ IsResponse 503 (fields_for plain) [] response

module _ {S : Type 0} (serves : S → List ℕ → List ℕ → Bool → S → Type 0) where
  -- lines are served once, and answered with their replies
  abbrev pub AnswersLines : List ℕ → S → S → Response → Type 0
  AnswersLines lines old new response = (replies : List ℕ) × (whole : Bool) × serves old lines replies whole new × IsReplies replies whole response

  -- an answer by what is asked for: only lines change who serves them
  abbrev pub AnswersAsked : Asked → List ℕ → S → S → Response → Type 0
  AnswersAsked Page lines old new response = (new ≡ old) × IsPage response
  AnswersAsked Lines lines old new response = AnswersLines lines old new response
  AnswersAsked Foreign lines old new response = (new ≡ old) × IsText 403 response
  AnswersAsked Nothing lines old new response = (new ≡ old) × IsText 404 response
  AnswersAsked OtherThanGet lines old new response = (new ≡ old) × TellsMethods (codes "GET, HEAD") response
  AnswersAsked OtherThanPost lines old new response = (new ≡ old) × TellsMethods (codes "POST") response

  -- the answer to a request at a port
  abbrev pub AnswersRequest : ℕ × S → Request (List ℕ) → Response → ℕ × S → Type 0
  AnswersRequest old request response new = (new.0 ≡ old.0) × AnswersAsked (asked_by old.0 (head_of request)) (body_of request) old.1 new.1 response
