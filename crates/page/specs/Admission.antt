-- Which requests come from a page of this service (ours): by the names that a browser sends, of which no page can choose any.
use Rattle.std.specs.{Prelude.{ℕ, Bool, false, ◌&&◌, ◌||◌, List, ◌++◌, Option, None, Some, codes, decimal, bytes_eq}, List.list_all}
use Rattle.http_header.specs.{FieldValue.FieldValue, HeaderMap.{Entries, get, get_all}}

-- the text is the name, and behind it the port in decimal
abbrev pub is_named : List ℕ → ℕ → List ℕ → Bool
is_named name port text = bytes_eq text (name ++ decimal port)

-- a host that is this machine with the port
abbrev pub is_own_host : ℕ → List ℕ → Bool
is_own_host port host =
    is_named (codes "127.0.0.1:") port host || (is_named (codes "localhost:") port host || is_named (codes "[::1]:") port host)

-- an origin that is a page of this machine with the port
abbrev pub is_own_origin : ℕ → List ℕ → Bool
is_own_origin port origin =
    is_named (codes "http://127.0.0.1:") port origin || (is_named (codes "http://localhost:") port origin || is_named (codes "http://[::1]:") port origin)

-- there is a host, and it is this machine
abbrev pub is_host_own : ℕ → Option FieldValue → Bool
is_host_own port None = false
is_host_own port (Some host) = is_own_host port host.bytes

abbrev pub host_is_own : ℕ → Entries FieldValue → Bool
host_is_own port headers = is_host_own port (get headers (codes "host"))

-- each origin that is named is a page of this machine
abbrev pub origins_are_own : ℕ → Entries FieldValue → Bool
origins_are_own port headers = list_all (λ origin. is_own_origin port origin.bytes) (get_all headers (codes "origin"))

-- a request that comes from a page of this service, or from no page
abbrev pub comes_from_here : ℕ → Entries FieldValue → Bool
comes_from_here port headers = host_is_own port headers && origins_are_own port headers
