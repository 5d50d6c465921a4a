-- The names of sessions in the changes of a desk (ours).
use Rattle.std.specs.Prelude.{ℕ, ◌%◌, List, decimal}

-- a session that has given no name is known by its number, of which a name has the last seven digits
abbrev pub session_name : ℕ → List ℕ
session_name number = decimal (number % 10000000)
