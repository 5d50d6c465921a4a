-- What a request asks for (ours): by where it comes from, its path and its method.
use Rattle.std.specs.Prelude.{ℕ, Bool, ◌||◌, List, codes, bytes_eq, if◌then◌else◌, is_some}
use Rattle.http.specs.declared.request.Parts.{Parts}
use Rattle.http_header.specs.HeaderMap.{get}
use Rattle.http_uri.specs.Uri.{uri_path}
use Rattle.page.specs.{declared.asked.Asked.Asked, declared.asked.Asked.TheVariants.{Page, Lines, Foreign, Nothing, OtherThanGet, OtherThanPost}, Admission.comes_from_here}

-- by its path, its method, and whether it names an origin: lines need one, since a browser sends it with all that is posted
abbrev pub asked_at : List ℕ → List ℕ → Bool → Asked
asked_at path method has_origin =
    if bytes_eq path (codes "/") then (if bytes_eq method (codes "GET") || bytes_eq method (codes "HEAD") then Page else OtherThanGet)
    else if bytes_eq path (codes "/session") then (if bytes_eq method (codes "POST") then (if has_origin then Lines else Foreign) else OtherThanPost)
    else Nothing

-- at a port
abbrev pub asked_by : ℕ → Parts → Asked
asked_by port head =
    if comes_from_here port head.headers then asked_at (uri_path head.uri) head.method (is_some (get head.headers (codes "origin"))) else Foreign
